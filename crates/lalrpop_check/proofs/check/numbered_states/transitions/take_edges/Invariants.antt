use Rattle.std.specs.Prelude.{List, map}
use Rattle.lalrpop_construction.specs.states.NumberedStates.{AddsEdges, HasKeys}
use Rattle.lalrpop_construction.proofs.theory.states.EdgesByNumber.{IsPartly}
use Rattle.lalrpop_check.proofs.Types.{StateIndex}
use Rattle.lalrpop_check.proofs.check.numbered_states.transitions.take_edges.Given as goal

abbrev pub invariant-loop-name : goal.invariant-loop-name
invariant-loop-name g l = record {
  partly : IsPartly (λ (done : List (g.row.K.Denot × StateIndex)). AddsEdges l.symbols l.initial.edges.items l.edges.items (map (λ (e : g.row.K.Denot × StateIndex). (g.K.Name.symbol e.0, e.1)) done)) l.name-iterator l.targets.entries;
  keys : HasKeys l.initial.edges.items l.expected → HasKeys l.edges.items l.expected;
}
