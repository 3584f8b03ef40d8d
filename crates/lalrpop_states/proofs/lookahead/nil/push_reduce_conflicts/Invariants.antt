use Rattle.std.proofs.Common.{◌≡◌, ◌++◌, take, map}
use Rattle.lalrpop_states.specs.declared.lr1_core.state.Action.TheVariants.{Reduce}
use Rattle.lalrpop_states.specs.Words.{nil_conflict}
use Rattle.lalrpop_states.proofs.lookahead.nil.push_reduce_conflicts.Given as goal

abbrev pub invariant-loop-reduction : goal.invariant-loop-reduction
invariant-loop-reduction l = l.list.items ≡ l.fn.list.items ++ map (nil_conflict l.index (Reduce l.first.1)) (take l.reduction-index l.others)
