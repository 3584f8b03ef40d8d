use Rattle.lalrpop_base.specs.Words.{rules_of}
use Rattle.lalrpop_lane_states.proofs.theory.lane_states.LaneLoop.{AreResolvedTo}
use Rattle.lalrpop_lane_states.proofs.lane_table.construct.LaneTableConstruct.resolve_states.Given as goal

abbrev pub invariant-loop-index : goal.invariant-loop-index
invariant-loop-index l = AreResolvedTo (rules_of l.fn.self.grammar.now) l.fn.self.start l.fn.numbers l.found l.fn.numbered l.count l.index l.states.items
