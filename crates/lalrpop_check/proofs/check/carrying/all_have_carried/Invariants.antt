use Rattle.std.proofs.Common.{◌≡◌, ℕ, ◌<◌}
use Rattle.std.specs.Prelude.{slice_get, Some}
use Rattle.lalrpop_base.specs.Words.{Bits, EachItem, HoldsTableTokens}
use Rattle.lalrpop_check.proofs.Types.{State}
use Rattle.lalrpop_check.proofs.check.carrying.all_have_carried.Given as goal

abbrev pub invariant-loop-number : goal.invariant-loop-number
invariant-loop-number l = (n : ℕ) (s : State Bits) → n < l.number → slice_get l.states n ≡ Some s → EachItem (HoldsTableTokens l.table.entries n) s.reductions.items
