use Rattle.std.proofs.Common.{◌-◌, ap, arith}
use Rattle.lalrpop_traces.proofs.theory.traces.Spelling.{before_splits, behind_splits, reduced_step, reduced_done}
use Rattle.lalrpop_traces.proofs.trace.spelling.reductions_of.Goals as goal

pub overflow_sub-before : goal.overflow_sub-before
overflow_sub-before c = omega (arith, before_splits c.args.graph.now _ _ _ _ _ c.in-Some.ensures.cases.0 c.labels-labels.ensures.prefix c.loop-innermost.invariant.before)

pub overflow_sub-behind : goal.overflow_sub-behind
overflow_sub-behind c = omega (arith, behind_splits c.args.graph.now _ _ _ _ _ c.in-Some.ensures.cases.0 c.labels-labels.ensures.suffix c.loop-innermost.invariant.behind)

pub loop-innermost-preserved : goal.loop-innermost-preserved
loop-innermost-preserved c =
    let front = before_splits c.args.graph.now _ _ _ _ _ c.in-Some.ensures.cases.0 c.labels-labels.ensures.prefix c.loop-innermost.invariant.before in
    let back = behind_splits c.args.graph.now _ _ _ _ _ c.in-Some.ensures.cases.0 c.labels-labels.ensures.suffix c.loop-innermost.invariant.behind in
    record {
      before = omega (arith, front);
      behind = omega (arith, back);
      within = omega (arith, back, c.loop-innermost.invariant.within);
      made = reduced_step c.args.graph.now c.args.count _ _ _ _ _ _ _ _ c.in-Some.ensures.cases.0 (omega (arith, front)) (ap (λ n. c.args.count - n) (omega (arith, back))) c.in_ok-push_reduction.ensures c.loop-innermost.invariant.made;
    }

pub returns : goal.returns
returns c = reduced_done c.args.graph.now c.args.count _ _ _ c.in_default.ensures.cases c.loop-innermost.invariant.made
