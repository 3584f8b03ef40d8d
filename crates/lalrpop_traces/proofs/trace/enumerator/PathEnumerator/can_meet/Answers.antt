use Rattle.std.proofs.Common.{ℕ, ◌-◌, ◌++◌, List, length, reverse, subst}
use Rattle.std.specs.Prelude.{Contains}
use Rattle.lalrpop_traces.specs.Words.{HasNoToken, frames, node_count, over, path_of, suffixes}
use Rattle.lalrpop_traces.specs.declared.trace.enumerator.EnumeratorState.{EnumeratorState}
use Rattle.lalrpop_traces.proofs.trace.enumerator.PathEnumerator.can_meet.Goals as goal

pub returns : goal.returns
returns c =
    let walk = c.args.self.now in
    let g = walk.graph.now in
    let P : List EnumeratorState → Type 0 = λ xs. (n : ℕ) (rest : List ℕ) → Contains (over g n (path_of (reverse xs)) c.args.number) (path_of xs ++ rest) → HasNoToken c.args.first_sets.now c.args.lookahead.now (suffixes g rest) in
    record { none = λ h rest there. subst P c.deref.ensures.value (c.in_ok-can.ensures.none h) (node_count g - length (frames walk)) rest there }
