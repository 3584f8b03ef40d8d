use Rattle.std.proofs.Common.{◌↔◌}
use Rattle.lalrpop_collections.specs.Words.{EachItem}
use Rattle.lalrpop_states.specs.Words.{StateEdge, IsCoherentStep, state_edges}
use Rattle.lalrpop_states.proofs.lr1_core.coherent.have_coherent_edges.Given as goal

-- each edge that is left leads to such a state exactly if each edge does
abbrev pub invariant-loop-symbol : goal.invariant-loop-symbol
invariant-loop-symbol g l =
    EachItem (λ (edge : StateEdge). IsCoherentStep l.states l.items edge.0 edge.1.0) l.symbol-iterator
    ↔ EachItem (λ (edge : StateEdge). IsCoherentStep l.states l.items edge.0 edge.1.0) (state_edges l.state.shifts.entries l.state.gotos.entries)
