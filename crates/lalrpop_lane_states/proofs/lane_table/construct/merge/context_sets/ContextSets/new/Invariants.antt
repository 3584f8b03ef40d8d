use Rattle.std.proofs.Common.{◌≡◌, ◌++◌}
use Rattle.lalrpop_lane_states.specs.Words.{OwnSets}
use Rattle.lalrpop_lane_states.proofs.lane_table.construct.merge.context_sets.ContextSets.new.Given as goal

abbrev pub invariant-loop-state : goal.invariant-loop-state
invariant-loop-state l = record { own : OwnSets l.yielded l.sets; left : l.yielded ++ l.state-iterator ≡ l.fn.rows.entries }
