use Rattle.std.proofs.Common.{refl, sym}
use mathlib.Core.Bool.{true≢false}
use Rattle.lalrpop_explain.specs.explained.ExplainedConflicts.{added, same}
use Rattle.lalrpop_explain.proofs.explain.items.add_shift.Goals as goal

pub returns-then-not-shifts : goal.returns-then-not-shifts
returns-then-not-shifts c = same (λ e. true≢false (sym (c.if-not-shifts.ensures.1 e))) refl

pub returns : goal.returns
returns c = added (c.if-not-shifts.ensures.0 refl) c.in_ok-explained.explained c.in_ok-explained.ensures c.in_ok-push.ensures.items
