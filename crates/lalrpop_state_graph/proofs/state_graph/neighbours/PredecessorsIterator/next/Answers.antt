use Rattle.std.proofs.Common.{refl, sym, ◌∙◌, ap, length, arith}
use mathlib.Core.Bool.{true≢false}
use Rattle.lalrpop_state_graph.proofs.theory.graphs.StateGraphs.{same_symbol, other_symbol}
use Rattle.lalrpop_state_graph.proofs.state_graph.neighbours.PredecessorsIterator.next.Goals as goal

pub returns-then-equal-clause-steps : goal.returns-then-equal-clause-steps
returns-then-equal-clause-steps c = sym c.loop-last.invariant ∙ same_symbol _ _ _ _ c.in-Some.ensures.cases.0 (c.if-equal.ensures.0 refl)

pub loop-last-preserved : goal.loop-last-preserved
loop-last-preserved c = sym (other_symbol _ _ _ _ c.in-Some.ensures.cases.0 (λ same. absurd (true≢false (sym (c.if-equal.ensures.1 same))))) ∙ c.loop-last.invariant

pub returns-then-equal-clause-goes : goal.returns-then-equal-clause-goes
returns-then-equal-clause-goes c =
    let fewer = ap length (returns-then-equal-clause-steps c) in
    record { on = λ f. (tt, tt, omega (arith, fewer)); keeps = tt; rests = λ f. tt }
