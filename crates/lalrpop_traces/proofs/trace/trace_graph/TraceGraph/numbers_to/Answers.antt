use Rattle.std.proofs.Common.{◌≡◌, [], sym, ap, ◌∙◌, subst}
use Rattle.std.specs.Prelude.{slice_get}
use Rattle.lalrpop_traces.specs.Words.{Graph, numbers_to}
use Rattle.lalrpop_traces.proofs.theory.traces.KeptGraphs.{none_to}
use Rattle.lalrpop_traces.proofs.trace.trace_graph.TraceGraph.numbers_to.Goals as goal

pub returns-in_default : goal.returns-in_default
returns-in_default c =
    let P : Graph → Type 0 = λ g. [] ≡ numbers_to g c.args.node.now in
    subst P c.self.view_is (none_to c.args.node.now (sym c.in_default.ensures.value) c.self.invariant)

pub returns : goal.returns
returns c =
    let number = c.in-Some.number.now in
    c.numbers_at.ensures c.args.node.now (ap (λ (g : Graph). slice_get g.nodes number) (sym c.self.view_is) ∙ c.self.invariant.numbered.found c.args.node.now number (sym c.in-Some.ensures.value))
