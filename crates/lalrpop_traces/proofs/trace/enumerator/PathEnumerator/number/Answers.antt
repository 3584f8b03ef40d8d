use Rattle.std.proofs.Common.{◌≡◌, ℕ, ◌-◌, List, length, sym, ◌∙◌, ap, subst}
use Rattle.std.specs.Prelude.{slice_get, Some}
use Rattle.lalrpop_traces.proofs.theory.traces.Walks.{at_last}
use Rattle.lalrpop_traces.proofs.trace.enumerator.PathEnumerator.number.Goals as goal

pub returns-in-Some : goal.returns-in-Some
returns-in-Some c =
    let top : slice_get c.args.self.now.stack.items (length c.args.self.now.stack.items - 1) ≡ Some c.in-Some.state.now = ap (λ xs. slice_get xs (length xs - 1)) (sym c.deref.ensures.value) ∙ sym c.in-Some.ensures.value in
    let P : List ℕ → Type 0 = λ ns. c.number_from.result ≡ slice_get ns c.args.self.now.left in
    subst P (sym (at_last c.args.self.now.graph.now c.args.self.now.start c.args.self.now.stack.items c.in-Some.state.now top)) c.number_from.ensures
