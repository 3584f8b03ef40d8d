use Rattle.std.proofs.Common.{length, ◌-◌}
use Rattle.lalrpop_base.specs.Words.{rules_of}
use Rattle.lalrpop_lane_states.proofs.theory.lane_states.CopiedPasses.{AreResolvedFrom}
use Rattle.lalrpop_lane_states.proofs.lane_table.construct.LaneTableConstruct.resolve_found.Given as goal

abbrev pub invariant-loop-index : goal.invariant-loop-index
invariant-loop-index l = AreResolvedFrom (rules_of l.fn.self.grammar.now) l.fn.self.start l.fn.self.max_copies l.fn.found l.fn.list l.fn.first l.initial.states.items l.index l.states.items

abbrev pub decreases-loop-index : goal.decreases-loop-index
decreases-loop-index l = length l.states.items - l.index
