use Rattle.std.proofs.Common.{◌≡◌, ◌-◌, List, [], length, reverse, subst}
use Rattle.lalrpop_traces.specs.Words.{frames, node_count, over, path_of}
use Rattle.lalrpop_traces.specs.declared.trace.enumerator.EnumeratorState.{EnumeratorState}
use Rattle.lalrpop_traces.proofs.trace.enumerator.PathEnumerator.leads_on.Goals as goal

pub returns : goal.returns
returns c = record {
  none = λ no.
      let walk = c.args.self.now in
      let n = node_count walk.graph.now - length (frames walk) in
      let P : List EnumeratorState → Type 0 = λ xs. over walk.graph.now n (path_of (reverse xs)) c.args.number ≡ [] in
      subst P c.deref.ensures.value (c.in_ok-leads.ensures.none no n);
}
