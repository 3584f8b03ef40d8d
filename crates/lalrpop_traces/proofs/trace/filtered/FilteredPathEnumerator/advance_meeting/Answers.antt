use Rattle.std.proofs.Common.{refl, ◌∙◌, arith}
use Rattle.lalrpop_traces.proofs.theory.traces.FilteredWalks.{leaves_none, leaves_then, same_again, same_base, with_base}
use Rattle.lalrpop_traces.proofs.trace.filtered.FilteredPathEnumerator.advance_meeting.Goals as goal

pub loop-number-init : goal.loop-number-init
loop-number-init c = record {
  graph = refl;
  sets = refl;
  same = record { graph = refl; first_sets = refl; lookahead = refl };
  refused = refl;
  less = omega arith;
  left = leaves_none c.args.self.now _ _ refl;
}

pub loop-number-preserved : goal.loop-number-preserved
loop-number-preserved c =
    let old = c.args.self.now in
    let popped = with_base c.loop-number.self c.next_edge.new.self in
    let same = same_base old c.loop-number.self c.next_edge.new.self c.loop-number.invariant.same c.next_edge.ensures.graph in
    record {
      graph = c.in_ok-goes_on_to.ensures.same.graph ∙ c.next_edge.ensures.graph ∙ c.loop-number.invariant.graph;
      sets = c.in_ok-goes_on_to.ensures.same.first_sets ∙ c.loop-number.invariant.sets;
      same = same_again old popped _ same c.in_ok-goes_on_to.ensures.same;
      refused = c.in_ok-goes_on_to.ensures.refused ∙ c.next_edge.ensures.refused ∙ c.loop-number.invariant.refused;
      less = omega (arith, c.in_ok-goes_on_to.ensures.falls, c.in-Some.ensures.taken, c.loop-number.invariant.less);
      left = leaves_then old popped _ _ _ _ same c.loop-number.invariant.left c.in-Some.ensures.paths (c.in_ok-goes_on_to.ensures.on c.if-branch.false);
    }

pub loop-number-smaller : goal.loop-number-smaller
loop-number-smaller c = omega (arith, c.in_ok-goes_on_to.ensures.falls, c.in-Some.ensures.taken)

pub returns-then-branch-clause-left : goal.returns-then-branch-clause-left
returns-then-branch-clause-left c =
    let old = c.args.self.now in
    let popped = with_base c.loop-number.self c.next_edge.new.self in
    let same = same_base old c.loop-number.self c.next_edge.new.self c.loop-number.invariant.same c.next_edge.ensures.graph in
    leaves_then old popped _ _ _ _ same c.loop-number.invariant.left c.in-Some.ensures.paths (c.in_ok-goes_on_to.ensures.found c.if-branch.true)
