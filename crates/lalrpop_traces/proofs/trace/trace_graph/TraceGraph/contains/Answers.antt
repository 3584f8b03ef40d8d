use Rattle.std.proofs.Common.{◌≡◌, IsTrue, ◌↔◌, sym, ap, ◌∙◌, subst}
use Rattle.std.specs.Prelude.{is_some, Contains}
use Rattle.std.specs.BTreeMap.{get}
use Rattle.lalrpop_traces.specs.Words.{Graph}
use Rattle.lalrpop_traces.specs.contracts.trace.node.TraceGraphNodeOrd.TheImpl as node_ord
use Rattle.lalrpop_traces.specs.declared.trace.node.TraceGraphNode.TheVariants.{Item}
use Rattle.lalrpop_traces.proofs.theory.traces.TraceGraphs.{kept_node}
use Rattle.lr1_theory.proofs.theory.grammars.Tables.{same_lr0}
use Rattle.lalrpop_traces.proofs.trace.trace_graph.TraceGraph.contains.Goals as goal

pub returns : goal.returns
returns c =
    let item = c.args.item.now in
    let answer : c.contains_key.result ≡ is_some (get node_ord.ghosts.cmp c.self.inside.indices (Item item)) =
    c.contains_key.ensures ∙ ap (λ i. is_some (get node_ord.ghosts.cmp c.self.inside.indices (Item i))) (same_lr0 c.to_lr0.result item c.to_lr0.ensures.production c.to_lr0.ensures.index) in
    let here = kept_node c.self.invariant (Item item) in
    let P : Graph → Type 0 = λ g. IsTrue c.contains_key.result ↔ Contains g.nodes (Item item) in
    subst P c.self.view_is (λ h. here.0 (sym answer ∙ h), λ h. answer ∙ here.1 h)
