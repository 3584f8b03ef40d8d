use Rattle.std.proofs.Common.{◌≡◌, ℕ, zero, suc, ◌<◌, List, [], ◌∷◌, map, length, refl, sym, ap, ◌∙◌, subst, arith, get_or, ⊎_elim}
use Rattle.std.specs.Prelude.{slice_get, Some, Contains}
use Rattle.std.proofs.lemmas.Option.{slice_get_within}
use Rattle.std.proofs.lemmas.Bool.{cases_lt}
use mathlib.Core.Bool.{true≢false}
use Rattle.lalrpop_collections.proofs.theory.lists.Places.{same_some}
use Rattle.lalrpop_traces.specs.Words.{PlainEdge, plain, plain_edge, numbers_to}
use Rattle.lalrpop_traces.proofs.theory.traces.TraceGraphs.{place_sound, place_complete, plain_from, from_plain, plain_place, plain_there}
use Rattle.lalrpop_traces.proofs.trace.trace_graph.TraceGraph.has_edge.Goals as goal

found : (xs : List ℕ) (i : ℕ) → i < length xs → slice_get xs i ≡ Some (get_or xs i 0)
found [] i l = absurd (omega arith)
found (x ∷ xs) zero l = refl
found (x ∷ xs) (suc i) l = found xs i (omega arith)

pub returns-then-is_edge_of : goal.returns-then-is_edge_of
returns-then-is_edge_of c = λ from to at_from at_to.
    let edges = c.args.self.now.edges in
    let numbers = c.numbers_at-number-items.result.now in
    let i = c.loop-number.number-index in
    let p = get_or numbers i 0 in
    let at : slice_get (numbers_to c.args.self.now to) i ≡ Some p = ap (λ ns. slice_get ns i) (sym (c.numbers_at-number-items.ensures to at_to)) ∙ found numbers i c.loop-number-test.true in
    let there = place_sound 0 to edges i p at in
    let number = there.2 in
    let edge : slice_get edges p ≡ Some there.1 = ap (λ (k : ℕ). slice_get edges k) (omega arith) ∙ there.3 in
    let is = (c.if-is_edge_of.ensures from there.1 at_from edge).0 refl in
    let P : PlainEdge → Type 0 = Contains (map plain edges) in
    (λ h. subst P (from_plain from to c.args.labels.now there.1 there.4 is) (plain_there edges p there.1 edge), λ h. refl)

pub returns : goal.returns
returns c = λ from to at_from at_to.
    let edges = c.args.self.now.edges in
    let numbers = c.numbers_at-number-items.result.now in (
      λ h. absurd (true≢false (sym h)),
      λ there.
          let at = plain_place edges (plain_edge from to c.args.labels.now) there in
          let place = place_complete 0 to edges at.0 at.1 at.2 (ap (λ (p : PlainEdge). p.to) at.3) in
          let here : slice_get numbers place.0 ≡ Some at.0 = ap (λ ns. slice_get ns place.0) (c.numbers_at-number-items.ensures to at_to) ∙ place.1 ∙ ap (λ (n : ℕ). Some n) (omega arith) in
          let within = slice_get_within numbers place.0 at.0 here in
          absurd (c.loop-number.invariant from place.0 at.0 at.1 at_from (omega (arith, within, c.loop-number-test.false)) here at.2 (plain_from from to c.args.labels.now at.1 at.3)),
    )

pub loop-number-preserved : goal.loop-number-preserved
loop-number-preserved c = λ node j p e at_node l at_j at_p is.
    let edges = c.args.self.now.edges in
    let numbers = c.numbers_at-number-items.result.now in
    let i = c.loop-number.number-index in
    ⊎_elim
    (λ before. c.loop-number.invariant node j p e at_node before at_j at_p is)
    (λ here.
    let same : j ≡ i = omega (arith, l, here) in
    let number : p ≡ get_or numbers i 0 = same_some p (get_or numbers i 0) (sym at_j ∙ ap (λ (k : ℕ). slice_get numbers k) same ∙ found numbers i c.loop-number-test.true) in
    absurd (true≢false (sym ((c.if-is_edge_of.ensures node e at_node (ap (λ (k : ℕ). slice_get edges k) (sym number) ∙ at_p)).1 is))))
    (cases_lt j i)
