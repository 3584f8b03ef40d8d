use Rattle.std.proofs.Common.{List, subst}
use Rattle.lalrpop_base.specs.Words.{Bits, Dotted}
use Rattle.lalrpop_explain.specs.Words.{AreExplainedShifts}
use Rattle.lalrpop_explain.proofs.explain.items.explained_shifts.Goals as goal

pub returns : goal.returns
returns c =
    let context = c.args.context.now in
    subst (λ (xs : List (Dotted Bits)). AreExplainedShifts context.first_sets.now context.states.now c.args.most c.args.state c.args.terminal.now xs c.in_ok-list.list.items) c.items_in-items.ensures c.in_ok-list.ensures
