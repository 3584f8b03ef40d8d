use Rattle.lalrpop_traces.specs.Words.{AreKnownEdges}
use Rattle.lalrpop_explain.proofs.theory.explained.FirstMeetings.{IsFiltering}
use Rattle.lalrpop_explain.proofs.explain.examples.first_meeting.Given as goal

abbrev pub invariant-loop-left : goal.invariant-loop-left
invariant-loop-left l = record {
  known : AreKnownEdges l.walk.first_sets.now.terminals l.walk.base.graph.now.edges;
  filtering : IsFiltering l.fn.most l.initial.walk l.walk l.left l.examples.items;
}

abbrev pub decreases-loop-left : goal.decreases-loop-left
decreases-loop-left l = l.left
