use Rattle.lalrpop_lanes.proofs.theory.lanes.Contexts.{TookUntil}
use Rattle.lalrpop_lanes.proofs.lane_table.context_set.ContextSet.given_to.Given as goal

abbrev pub invariant-loop-tokens : goal.invariant-loop-tokens
invariant-loop-tokens l = TookUntil l.actions.keys l.self l.reductions l.given.items l._tokens-index
