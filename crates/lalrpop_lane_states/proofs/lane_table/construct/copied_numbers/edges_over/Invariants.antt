use Rattle.std.proofs.Common.{◌≡◌, take}
use Rattle.lalrpop_lane_states.specs.lane_states.CopiedNumbers.{copied_edges}
use Rattle.lalrpop_lane_states.proofs.lane_table.construct.copied_numbers.edges_over.Given as goal

abbrev pub invariant-loop-edge : goal.invariant-loop-edge
invariant-loop-edge l = l.list.items ≡ copied_edges l.symbols l.state (take l.edge-index l.edges)
