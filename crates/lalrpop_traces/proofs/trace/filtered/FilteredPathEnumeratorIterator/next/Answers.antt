use Rattle.std.proofs.Common.{refl, ◌∙◌, arith}
use Rattle.lalrpop_traces.proofs.theory.traces.FilteredWalks.{skipped_more, gives_standing, gives_last}
use Rattle.lalrpop_traces.proofs.trace.filtered.FilteredPathEnumeratorIterator.next.Goals as goal

pub returns-in-Ok-true-clause-steps : goal.returns-in-Ok-true-clause-steps
returns-in-Ok-true-clause-steps c =
    gives_standing c.args.self.now c.loop-self.self _ c.next_example.result c.loop-self.invariant.skipped (record { graph = c.next_example.ensures.graph; first_sets = refl; lookahead = refl })
    (c.can_skip.ensures.standing c.loop-self-test.true) (c.in-Ok-true.ensures.yes c.in-Ok-true.field-0-test) c.next_example.ensures.next

pub loop-self-preserved : goal.loop-self-preserved
loop-self-preserved c = record {
  graph = c.pass_over.ensures.same.graph ∙ c.loop-self.invariant.graph;
  sets = c.pass_over.ensures.same.first_sets ∙ c.loop-self.invariant.sets;
  less = omega (arith, c.in-Ok.ensures.falls, c.loop-self.invariant.less);
  skipped =
      skipped_more c.args.self.now c.loop-self.self c.pass_over.new.self c.loop-self.invariant.skipped c.pass_over.ensures.same
      (c.can_skip.ensures.ready c.loop-self-test.true) (c.can_skip.ensures.standing c.loop-self-test.true) (c.in-Ok-false.ensures.no c.in-Ok-false.field-0-test) c.in-Ok.ensures.left;
}

pub returns-clause-steps : goal.returns-clause-steps
returns-clause-steps c =
    gives_last c.args.self.now c.loop-self.self _ c.next_example-2.result c.loop-self.invariant.skipped (record { graph = c.next_example-2.ensures.graph; first_sets = refl; lookahead = refl })
    (c.can_skip.ensures.neither c.loop-self-test.false) c.next_example-2.ensures.next
