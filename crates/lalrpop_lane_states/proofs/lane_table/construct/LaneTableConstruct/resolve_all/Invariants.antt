use Rattle.std.proofs.Common.{length, ◌+◌, ◌-◌}
use Rattle.lalrpop_base.specs.Words.{rules_of}
use Rattle.lalrpop_lane_states.proofs.theory.lane_states.ResolvedCopies.{IsResolvingFrom}
use Rattle.lalrpop_lane_states.proofs.lane_table.construct.LaneTableConstruct.resolve_all.Given as goal

abbrev pub invariant-loop-index : goal.invariant-loop-index
invariant-loop-index l = IsResolvingFrom (rules_of l.fn.self.grammar.now) l.fn.self.start l.fn.self.max_copies l.fn.numbers l.fn.numbered l.fn.first l.index l.fn.copying l.copying

abbrev pub decreases-loop-index : goal.decreases-loop-index
decreases-loop-index l = l.copying.copies_left + length l.copying.states.items - l.index
