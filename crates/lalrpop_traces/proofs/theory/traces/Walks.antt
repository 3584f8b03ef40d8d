-- Walks over a trace graph end.
use Rattle.std.proofs.Common.{◌≡◌, ℕ, zero, suc, ◌+◌, ◌-◌, ◌<◌, ◌≤◌, List, [], ◌∷◌, ◌++◌, length, take, reverse, refl, sym, ◌∙◌, ap, arith, cond, Bool, true, false, ⊎_elim}
use Rattle.std.specs.Prelude.{slice_get, Some, None, unwrap_or}
use Rattle.std.proofs.lemmas.List.{take_all, reverse-append, reverse-reverse, length-append, length-reverse}
use Rattle.lalrpop_collections.proofs.theory.lists.Places.{slice_get-push_at, same_some}
use Rattle.std.proofs.lemmas.Bool.{cases_Bool}
use Rattle.std.proofs.lemmas.Option.{slice_get_within}
use Rattle.lalrpop_traces.proofs.theory.traces.PathsLeft.{take_none}
use Rattle.lalrpop_traces.specs.Words.{node_count, edge_numbers_to_source, total, weight, numbers_at, load_of, load, frames, edge_weight, bound, bound_of, IsEnded}
use Rattle.lalrpop_traces.specs.declared.trace.enumerator.PathEnumerator.{PathEnumerator}
use Rattle.lalrpop_traces.specs.declared.trace.node.TraceGraphNode.{TraceGraphNode}
use Rattle.lalrpop_traces.specs.declared.trace.trace_graph.TraceGraph.{TraceGraph}
use Rattle.lalrpop_traces.specs.declared.trace.enumerator.EnumeratorState.{EnumeratorState}

-- the sum with one edge more
total_more : (w : ℕ → ℕ) (ks : List ℕ) (n k : ℕ) → slice_get ks n ≡ Some k → total w (take (suc n) ks) ≡ total w (take n ks) + w k
total_more w [] n k at = absurd (omega (arith, slice_get_within [] n k at))
total_more w (x ∷ ks) zero k at = omega (arith, ap w (ap (λ o. unwrap_or o x) at))
total_more w (x ∷ ks) (suc n) k at = omega (arith, total_more w ks n k at)

module _ (g : TraceGraph) (start : TraceGraphNode) (n : ℕ) where
  -- the weight that is left at the nodes below
  below : List EnumeratorState → ℕ
  below [] = 0
  below (s ∷ fs) = suc (load_of g start n fs s.left)

  load_split : (fs : List EnumeratorState) (left : ℕ) → load_of g start n fs left ≡ total (weight g (n - length fs)) (take left (numbers_at g start fs)) + below fs
  unfolding below
  load_split [] left = ap (λ m. total (weight g m) (take left (numbers_at g start []))) (let e : n ≡ n - 0 = omega arith in e) ∙ omega arith
  load_split (s ∷ fs) left = refl

  -- the weight that is left falls by that of an edge that is taken
  pub taken : (fs : List EnumeratorState) (left k : ℕ) → slice_get (numbers_at g start fs) left ≡ Some k → load_of g start n fs left + weight g (n - length fs) k ≡ load_of g start n fs (suc left)
  taken fs left k at = omega (arith, load_split fs left, load_split fs (suc left), total_more (weight g (n - length fs)) (numbers_at g start fs) left k at)

  -- a nonterminal is entered, with all its edges left
  pub entered : (s : EnumeratorState) (fs : List EnumeratorState) → length fs < n → load_of g start n (s ∷ fs) (length (edge_numbers_to_source g s.number)) < load_of g start n fs s.left + weight g (n - length fs) s.number
  entered s fs room =
      let e : n - length fs ≡ suc (n - suc (length fs)) = omega (arith, room) in
      let w : weight g (n - length fs) s.number ≡ 2 + total (weight g (n - suc (length fs))) (edge_numbers_to_source g s.number) = ap (λ q. weight g q s.number) e in
      let t : total (weight g (n - suc (length fs))) (take (length (edge_numbers_to_source g s.number)) (edge_numbers_to_source g s.number)) ≡ total (weight g (n - suc (length fs))) (edge_numbers_to_source g s.number) = ap (total (weight g (n - suc (length fs)))) (take_all (length (edge_numbers_to_source g s.number)) (edge_numbers_to_source g s.number) (omega arith)) in
      omega (arith, w, t)

-- a walk that entered a nonterminal has less weight left than before it took the edge to it
pub entered_load : (old : PathEnumerator) (graph : TraceGraph) (start : TraceGraphNode) (fs : List EnumeratorState) (left number : ℕ) → graph ≡ old.graph.now → start ≡ old.start → fs ≡ record { number = number; left = old.left } ∷ frames old → left ≡ length (edge_numbers_to_source graph number) → length (frames old) < node_count old.graph.now → load_of graph start (node_count graph) fs left < load old + edge_weight old number
entered_load old graph start fs left number same_graph same_start same_frames count room =
    let s : EnumeratorState = record { number = number; left = old.left } in
    let g = old.graph.now in
    let is : load_of graph start (node_count graph) fs left ≡ load_of g old.start (node_count g) (s ∷ frames old) (length (edge_numbers_to_source g number)) =
    ap (λ (h : TraceGraph). load_of h start (node_count h) fs left) same_graph
    ∙ ap (λ (p : TraceGraphNode). load_of g p (node_count g) fs left) same_start
    ∙ ap (λ (es : List EnumeratorState). load_of g old.start (node_count g) es left) same_frames
    ∙ ap (λ (m : ℕ). load_of g old.start (node_count g) (s ∷ frames old) m) (count ∙ ap (λ (h : TraceGraph). length (edge_numbers_to_source h number)) same_graph) in
    omega (arith, is, entered g old.start (node_count g) s (frames old) room)

-- a walk that took an edge has less weight left by that of the edge
pub taken_load : (g : TraceGraph) (start : TraceGraphNode) (n : ℕ) (fs : List EnumeratorState) (after left most k : ℕ) → left ≡ suc after → load_of g start n fs left ≤ most → slice_get (numbers_at g start fs) after ≡ Some k → load_of g start n fs after + weight g (n - length fs) k ≤ most
taken_load g start n fs after left most k e h at = omega (arith, taken g start n fs after k at, ap (load_of g start n fs) e, h)

-- if there is no edge at the place, the weight that is left stays
pub none_load : (g : TraceGraph) (start : TraceGraphNode) (n : ℕ) (fs : List EnumeratorState) (after left : ℕ) → left ≡ suc after → slice_get (numbers_at g start fs) after ≡ None → load_of g start n fs after ≡ load_of g start n fs left
none_load g start n fs after left e at =
    let w = weight g (n - length fs) in
    load_split g start n fs after ∙ ap (λ (ks : List ℕ). total w ks + below g start n fs) (sym (take_none (numbers_at g start fs) after at)) ∙ sym (load_split g start n fs (suc after)) ∙ ap (load_of g start n fs) (sym e)

-- the numbers of the edges to the newest node
at_newest : (g : TraceGraph) (start : TraceGraphNode) (stack newest_first : List EnumeratorState) (s : EnumeratorState) → stack ≡ reverse newest_first → slice_get stack (length stack - 1) ≡ Some s → numbers_at g start newest_first ≡ edge_numbers_to_source g s.number
at_newest g start stack [] s e at = absurd (omega (arith, slice_get_within stack (length stack - 1) s at, ap length e))
at_newest g start stack (y ∷ ys) s e at =
    let last : stack ≡ reverse ys ++ y ∷ [] = e ∙ reverse-append (y ∷ []) ys in
    let n : length stack - 1 ≡ length (reverse ys) = omega (arith, ap length last, length-append (reverse ys) (y ∷ [])) in
    let same : Some y ≡ Some s = sym (slice_get-push_at (reverse ys) y) ∙ ap (λ k. slice_get (reverse ys ++ y ∷ []) k) (sym n) ∙ ap (λ xs. slice_get xs (length stack - 1)) (sym last) ∙ at in
    ap (λ (t : EnumeratorState). edge_numbers_to_source g t.number) (same_some y s same)

pub at_last : (g : TraceGraph) (start : TraceGraphNode) (stack : List EnumeratorState) (s : EnumeratorState) → slice_get stack (length stack - 1) ≡ Some s → numbers_at g start (reverse stack) ≡ edge_numbers_to_source g s.number
at_last g start stack s at = at_newest g start stack (reverse stack) s (sym (reverse-reverse stack)) at

load_some : (g : TraceGraph) (start : TraceGraphNode) (n : ℕ) (fs : List EnumeratorState) (left : ℕ) → 0 < length fs → 1 ≤ load_of g start n fs left
load_some g start n [] left l = absurd (omega (arith, l))
load_some g start n (s ∷ fs) left l = omega arith

standing_at : (stack : List EnumeratorState) (n : ℕ) → (stack ≡ [] → ⊥) → bound_of stack n ≡ suc n
standing_at [] n standing = absurd (standing refl)
standing_at (s ∷ stack) n standing = refl

standing_long : (stack : List EnumeratorState) → (stack ≡ [] → ⊥) → 0 < length stack
standing_long [] standing = absurd (standing refl)
standing_long (s ∷ stack) standing = omega arith

-- a walk with a current path has its example and one more result to give
pub standing_bound : (walk : PathEnumerator) → (IsEnded walk → ⊥) → 2 ≤ bound walk
standing_bound walk standing =
    let long : 0 < length (frames walk) = omega (arith, standing_long walk.stack.items standing, length-reverse walk.stack.items) in
    omega (arith, standing_at walk.stack.items (load walk) standing, load_some walk.graph.now walk.start (node_count walk.graph.now) (frames walk) walk.left long)

-- a walk at its end with an allocation failure to report has fewer results to give than one with a
-- current path
pub refused_less : (stack : List EnumeratorState) (n most : ℕ) → stack ≡ [] → 2 ≤ most → cond true 1 0 + bound_of stack n < most
refused_less [] n most e l = omega (arith, l)
refused_less (s ∷ stack) n most e l = absurd (omega (arith, ap length e))

bound_at_most : (stack : List EnumeratorState) (n : ℕ) → bound_of stack n ≤ suc n
bound_at_most [] n = omega arith
bound_at_most (s ∷ stack) n = omega arith

bound_ended : (stack : List EnumeratorState) (n : ℕ) → stack ≡ [] → bound_of stack n ≡ 0
bound_ended [] n e = refl
bound_ended (s ∷ stack) n e = absurd (omega (arith, ap length e))

-- a walk that went on from its current path has fewer results to give
pub falls_bound : (old new : PathEnumerator) (found : Bool) → (IsEnded old → ⊥) → old.refused ≡ false → new.refused ≡ false → (found ≡ false → IsEnded new) → (found ≡ true → load new < load old) → bound new < bound old
falls_bound old new found stands told now ended falls =
    let was : bound old ≡ 0 + bound_of old.stack.items (load old) = ap (λ b. cond b 1 0 + bound_of old.stack.items (load old)) told in
    let stood = standing_at old.stack.items (load old) stands in
    let is : bound new ≡ 0 + bound_of new.stack.items (load new) = ap (λ b. cond b 1 0 + bound_of new.stack.items (load new)) now in
    ⊎_elim (λ yes. omega (arith, was, stood, is, bound_at_most new.stack.items (load new), falls yes)) (λ no. omega (arith, was, stood, is, bound_ended new.stack.items (load new) (ended no))) (cases_Bool found)
