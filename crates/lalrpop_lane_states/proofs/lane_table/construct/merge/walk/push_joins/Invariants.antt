use Rattle.std.proofs.Common.{◌≡◌, ◌++◌, reverse}
use Rattle.std.specs.Iterator.Adapters.{rev_source}
use Rattle.lalrpop_lane_states.specs.Words.{joins_to}
use Rattle.lalrpop_lane_states.proofs.lane_table.construct.merge.walk.push_joins.Given as goal

abbrev pub invariant-loop-successor : goal.invariant-loop-successor
invariant-loop-successor l = l.pending.items ++ reverse (joins_to l.state (rev_source l.successor-iterator)) ≡ l.initial.pending.items ++ reverse (joins_to l.state l.successors.keys)
