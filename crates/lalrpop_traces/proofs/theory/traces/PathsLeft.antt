-- The paths that a walk over a trace graph has left, edge by edge.
use Rattle.std.proofs.Common.{◌≡◌, inl, inr, get_or, ℕ, zero, suc, ◌-◌, ◌<◌, Bool, true, false, ◌||◌, cond, List, [], ◌∷◌, ◌++◌, length, take, reverse, refl, sym, ◌∙◌, ap, subst, arith, append_assoc, append-nil}
use Rattle.std.specs.Prelude.{Contains, slice_get, Some, None}
use Rattle.std.specs.List.{flat_map}
use Rattle.std.proofs.lemmas.List.{reverse-append, reverse-reverse, map-append}
use Rattle.std.proofs.lemmas.Option.{slice_get_within, slice_get-get_or}
use Rattle.lalrpop_collections.proofs.theory.lists.Lists.{same_some, some≢none, contains-nil, contains-cons, place_contains, contains_map}
use Rattle.lalrpop_traces.specs.Words.{path_of, source, is_item, are_one, comes_again, over, left_over, node_count, numbers_to, edge_numbers_to_source, numbers_at, frames}
use Rattle.lalrpop_traces.specs.Words.{remaining, and_behind, paths_over}
use Rattle.lalrpop_traces.specs.declared.trace.enumerator.EnumeratorState.{EnumeratorState}
use Rattle.lalrpop_traces.specs.declared.trace.enumerator.PathEnumerator.{PathEnumerator}
use Rattle.lalrpop_traces.specs.declared.trace.node.TraceGraphNode.{TraceGraphNode}
use Rattle.lalrpop_traces.specs.declared.trace.trace_graph.TraceGraph.{TraceGraph}
use Rattle.lalrpop_collections.proofs.theory.lists.Members.{Contains-reverse}

pub take_more : {A : Type 0} (ks : List A) (i : ℕ) (k : A) → slice_get ks i ≡ Some k → take (suc i) ks ≡ take i ks ++ k ∷ []
take_more [] i k e = absurd (omega (arith, slice_get_within [] i k e))
take_more (x ∷ ks) zero k e = ap (λ y. y ∷ []) (same_some e)
take_more (x ∷ ks) (suc i) k e = ap (λ ys. x ∷ ys) (take_more ks i k e)

pub take_none : (ks : List ℕ) (i : ℕ) → slice_get ks i ≡ None → take (suc i) ks ≡ take i ks
take_none [] zero e = refl
take_none [] (suc i) e = refl
take_none (x ∷ ks) zero e = absurd (some≢none e)
take_none (x ∷ ks) (suc i) e = ap (λ ys. x ∷ ys) (take_none ks i e)

each_taken : {B : Type 0} (f : ℕ → List B) (ks : List ℕ) (i k : ℕ) → slice_get ks i ≡ Some k → flat_map f (reverse (take (suc i) ks)) ≡ f k ++ flat_map f (reverse (take i ks))
each_taken f ks i k e = ap (λ xs. flat_map f (reverse xs)) (take_more ks i k e) ∙ ap (flat_map f) (reverse-append (take i ks) (k ∷ []))

module _ (g : TraceGraph) where
  -- ---- an edge
  pub over_item : (m : ℕ) (taken : List ℕ) (k : ℕ) → is_item (source g k) ≡ true → over g m taken k ≡ reverse (k ∷ taken) ∷ []
  over_item zero taken k e = ap (λ b. cond b (reverse (k ∷ taken) ∷ []) []) e
  over_item (suc m) taken k e = ap (λ b. cond b (reverse (k ∷ taken) ∷ []) (cond (comes_again g k taken) [] (flat_map (over g m (k ∷ taken)) (reverse (edge_numbers_to_source g k))))) e
  -- ---- whether the source was passed

module _ (g : TraceGraph) (start : TraceGraphNode) where
  below : List EnumeratorState → List (List ℕ)
  below [] = []
  below (s ∷ fs) = left_over g start fs s.left

  left_split : (fs : List EnumeratorState) (left : ℕ) → left_over g start fs left ≡ flat_map (over g (node_count g - length fs) (path_of fs)) (reverse (take left (numbers_at g start fs))) ++ below fs
  unfolding below
  left_split [] left = ap (λ m. flat_map (over g m []) (reverse (take left (numbers_to g start)))) (let e : node_count g ≡ node_count g - 0 = omega arith in e) ∙ sym (append-nil _)
  left_split (s ∷ fs) left = refl

  -- an edge is taken, and the others are left
  pub left_taken : (fs : List EnumeratorState) (left k : ℕ) → slice_get (numbers_at g start fs) left ≡ Some k → left_over g start fs (suc left) ≡ over g (node_count g - length fs) (path_of fs) k ++ left_over g start fs left
  left_taken fs left k at =
      let f = over g (node_count g - length fs) (path_of fs) in
      left_split fs (suc left)
      ∙ ap (λ xs. xs ++ below fs) (each_taken f (numbers_at g start fs) left k at)
      ∙ append_assoc (f k) (flat_map f (reverse (take left (numbers_at g start fs)))) (below fs)
      ∙ ap (λ xs. f k ++ xs) (sym (left_split fs left))

  pub left_none : (fs : List EnumeratorState) (left : ℕ) → slice_get (numbers_at g start fs) left ≡ None → left_over g start fs (suc left) ≡ left_over g start fs left
  left_none fs left at =
      let f = over g (node_count g - length fs) (path_of fs) in
      left_split fs (suc left) ∙ ap (λ (xs : List ℕ). flat_map f (reverse xs) ++ below fs) (take_none (numbers_at g start fs) left at) ∙ sym (left_split fs left)

-- ---- walks
path_reverse : (xs : List EnumeratorState) → path_of (reverse xs) ≡ reverse (path_of xs)
path_reverse [] = refl
path_reverse (x ∷ xs) =
    ap (path_of) (reverse-append (x ∷ []) xs) ∙ map-append (λ (s : EnumeratorState). s.number) (reverse xs) (x ∷ []) ∙ ap (λ ks. ks ++ x.number ∷ []) (path_reverse xs) ∙ sym (reverse-append (x.number ∷ []) (path_of xs))

-- the path of a stack, from its newest edges
pub path_back : (stack fs : List EnumeratorState) → reverse stack ≡ fs → reverse (path_of fs) ≡ path_of stack
path_back stack fs e = ap (λ (xs : List EnumeratorState). reverse (path_of xs)) (sym e) ∙ ap reverse (path_reverse stack) ∙ reverse-reverse (path_of stack)

standing : (stack : List EnumeratorState) (rest : List (List ℕ)) (s : EnumeratorState) (fs : List EnumeratorState) → reverse stack ≡ s ∷ fs → and_behind stack rest ≡ path_of stack ∷ rest
standing [] rest s fs e = absurd (omega (arith, ap length e))
standing (t ∷ stack) rest s fs e = refl

-- a walk that entered an item, at which it stops
pub stopped_walk : (old : PathEnumerator) (graph : TraceGraph) (start : TraceGraphNode) (stack : List EnumeratorState) (left number : ℕ) → graph ≡ old.graph.now → start ≡ old.start → reverse stack ≡ record { number = number; left = old.left } ∷ frames old → left ≡ 0
    → is_item (source old.graph.now number) ≡ true → paths_over old number ++ remaining old ≡ and_behind stack (left_over graph start (reverse stack) left)
stopped_walk old graph start stack left number same_graph same_start same_frames none e =
    let s : EnumeratorState = record { number = number; left = old.left } in
    let g = old.graph.now in
    ap (λ xs. xs ++ remaining old) (over_item g (node_count g - length (frames old)) (path_of (frames old)) number e ∙ ap (λ ks. ks ∷ []) (path_back stack (s ∷ frames old) same_frames))
    ∙ ap (λ xs. path_of stack ∷ xs) (sym (
    ap (λ (h : TraceGraph). left_over h start (reverse stack) left) same_graph
    ∙ ap (λ (p : TraceGraphNode). left_over g p (reverse stack) left) same_start
    ∙ ap (λ (es : List EnumeratorState). left_over g old.start es left) same_frames
    ∙ ap (λ (m : ℕ). left_over g old.start (s ∷ frames old) m) none
    ))
    ∙ sym (standing stack (left_over graph start (reverse stack) left) s (frames old) same_frames)

-- ---- whether the source was passed
again_there : (g : TraceGraph) (k : ℕ) (taken : List ℕ) (j : ℕ) → Contains taken j → are_one (source g j) (source g k) ≡ true → comes_again g k taken ≡ true
again_there g k [] j c e = absurd (contains-nil c)
again_there g k (i ∷ taken) j c e = elim (contains-cons i taken j c) [
  | inl f ↦ ap (λ b. b || comes_again g k taken) (ap (λ n. are_one (source g n) (source g k)) f ∙ e)
  | inr d ↦ or_true (are_one (source g i) (source g k)) (again_there g k taken j d e)
]
  where
    or_true : (b : Bool) {c : Bool} → c ≡ true → (b || c) ≡ true
    or_true true h = refl
    or_true false h = h

pub again_at : (g : TraceGraph) (k : ℕ) (states : List EnumeratorState) (i : ℕ) (s : EnumeratorState) → slice_get states i ≡ Some s → are_one (source g s.number) (source g k) ≡ true → comes_again g k (path_of (reverse states)) ≡ true
again_at g k states i s at e =
    again_there g k (path_of (reverse states)) s.number (contains_map (λ (t : EnumeratorState). t.number) (reverse states) s (Contains-reverse states s (place_contains states i s at))) e

pub again_among : (g : TraceGraph) (k : ℕ) (all states : List EnumeratorState) (i : ℕ) (d : EnumeratorState) → all ≡ states → i < length all → are_one (source g (get_or all i d).number) (source g k) ≡ true → comes_again g k (path_of (reverse states)) ≡ true
again_among g k all states i d same l e =
    subst (λ (xs : List EnumeratorState). comes_again g k (path_of (reverse xs)) ≡ true) same (again_at g k all i (get_or all i d) (slice_get-get_or all i d l) e)

-- ---- the next edge
-- an edge that a walk takes
pub taken_paths : (g : TraceGraph) (start : TraceGraphNode) (fs : List EnumeratorState) (after left k : ℕ) → left ≡ suc after → slice_get (numbers_at g start fs) after ≡ Some k → over g (node_count g - length fs) (path_of fs) k ++ left_over g start fs after ≡ left_over g start fs left
taken_paths g start fs after left k e at = sym (ap (λ (m : ℕ). left_over g start fs m) e ∙ left_taken g start fs after k at)

-- if there is no edge at the place, the paths that are left stay
pub none_paths : (g : TraceGraph) (start : TraceGraphNode) (fs : List EnumeratorState) (after left : ℕ) → left ≡ suc after → slice_get (numbers_at g start fs) after ≡ None → left_over g start fs after ≡ left_over g start fs left
none_paths g start fs after left e at = sym (ap (λ (m : ℕ). left_over g start fs m) e ∙ left_none g start fs after at)
