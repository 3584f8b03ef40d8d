-- The list of the example paths has each of them once, and no other.
use Rattle.std.proofs.Common.{◌≡◌, ℕ, zero, suc, ◌≤◌, ◌⊎◌, inl, inr, Bool, true, false, cond, List, [], ◌∷◌, ◌++◌, length, reverse, refl, sym, ◌∙◌, subst, arith, append-nil}
use Rattle.std.specs.Prelude.{Contains}
use Rattle.std.specs.List.{flat_map}
use mathlib.Core.List.{head-eq_of_cons-eq}
use Rattle.lalrpop_collections.proofs.theory.lists.Lists.{contains-cons, contains-nil, contains_head}
use Rattle.lalrpop_collections.proofs.theory.lists.Apart.{Apart}
use Rattle.lalrpop_traces.proofs.theory.traces.PathLists.{apart_one, apart_reverse, apart_flat_map, same_behind, reverse_more}
use Rattle.lalrpop_traces.specs.Words.{edge_numbers_to_source, source, is_item, comes_again, over}
use Rattle.lalrpop_traces.specs.declared.trace.trace_graph.TraceGraph.{TraceGraph}
use Rattle.lalrpop_collections.proofs.theory.lists.Members.{of_flat, Contains-reverse, Contains-from_reverse}
use Rattle.lalrpop_collections.proofs.theory.lists.Bounded.{in_flat_map}

-- an element of a list that is made by a test
one_if : (b : Bool) (path p : List ℕ) → Contains (cond b (path ∷ []) []) p → (b ≡ true) × (p ≡ path)
one_if true path p c = elim (contains-cons path [] p c) [ inl e ↦ (refl, sym e) | inr n ↦ absurd (contains-nil n) ]
one_if false path p c = absurd (contains-nil c)

one_or : (b c : Bool) (path : List ℕ) (more : List (List ℕ)) (p : List ℕ) → Contains (cond b (path ∷ []) (cond c [] more)) p → ((b ≡ true) × (p ≡ path)) ⊎ ((b ≡ false) × (c ≡ false) × Contains more p)
one_or true c path more p h = elim (contains-cons path [] p h) [ inl e ↦ inl (refl, sym e) | inr n ↦ absurd (contains-nil n) ]
one_or false true path more p h = absurd (contains-nil h)
one_or false false path more p h = inr (refl, refl, h)

apart_if : (b : Bool) (path : List ℕ) → Apart (cond b (path ∷ []) [])
apart_if true path = apart_one path
apart_if false path = tt

apart_or : (b c : Bool) (path : List ℕ) (more : List (List ℕ)) → Apart more → Apart (cond b (path ∷ []) (cond c [] more))
apart_or true c path more h = apart_one path
apart_or false true path more h = tt
apart_or false false path more h = h

there_if : (b c : Bool) (path : List ℕ) (more : List (List ℕ)) (p : List ℕ) → b ≡ false → c ≡ false → Contains more p → Contains (cond b (path ∷ []) (cond c [] more)) p
there_if b c path more p e f h = let P : Bool → Type 0 = λ x. Contains (cond x (path ∷ []) (cond c [] more)) p in
    let Q : Bool → Type 0 = λ x. Contains (cond x [] more) p in
    subst P (sym e) (subst Q (sym f) h)

first_if : (b : Bool) (path : List ℕ) (more : List (List ℕ)) → b ≡ true → Contains (cond b (path ∷ []) more) path
first_if b path more e = let P : Bool → Type 0 = λ x. Contains (cond x (path ∷ []) more) path in subst P (sym e) (contains_head path [])

module _ (g : TraceGraph) where
  -- the edges go on after an edge to the first item, and pass no node that was passed before
  abbrev pub IsContinuedBy : List ℕ → ℕ → List ℕ → Type 0
  IsContinuedBy taken k [] = is_item (source g k) ≡ true
  IsContinuedBy taken k (j ∷ rest) = (is_item (source g k) ≡ false) × (comes_again g k taken ≡ false) × Contains (edge_numbers_to_source g k) j × IsContinuedBy (k ∷ taken) j rest

  -- each path that is listed goes on so
  pub over_sound : (n : ℕ) (taken : List ℕ) (k : ℕ) (p : List ℕ) → Contains (over g n taken k) p → (rest : List ℕ) × (p ≡ reverse (k ∷ taken) ++ rest) × IsContinuedBy taken k rest
  over_sound zero taken k p c = let h = one_if (is_item (source g k)) (reverse (k ∷ taken)) p c in ([], h.1 ∙ sym (append-nil (reverse (k ∷ taken))), h.0)
  over_sound (suc n) taken k p c = elim (one_or (is_item (source g k)) (comes_again g k taken) (reverse (k ∷ taken)) (flat_map (over g n (k ∷ taken)) (reverse (edge_numbers_to_source g k))) p c) [
    | inl h ↦ ([], h.1 ∙ sym (append-nil (reverse (k ∷ taken))), h.0)
    | inr h ↦
        let r = of_flat (over g n (k ∷ taken)) (reverse (edge_numbers_to_source g k)) p h.2 in
        let s = over_sound n (k ∷ taken) r.0 p r.2 in
        (r.0 ∷ s.0, s.1 ∙ reverse_more r.0 (k ∷ taken) s.0, (h.0, h.1, Contains-from_reverse (edge_numbers_to_source g k) r.0 r.1, s.2))
  ]

  -- each path that goes on so, and passes no more nonterminals than are counted, is listed
  pub over_has : (n : ℕ) (taken : List ℕ) (k : ℕ) (rest : List ℕ) → length rest ≤ n → IsContinuedBy taken k rest → Contains (over g n taken k) (reverse (k ∷ taken) ++ rest)
  over_has zero taken k [] l h = subst (Contains (over g zero taken k)) (sym (append-nil (reverse (k ∷ taken)))) (first_if (is_item (source g k)) (reverse (k ∷ taken)) [] h)
  over_has (suc n) taken k [] l h = subst (Contains (over g (suc n) taken k)) (sym (append-nil (reverse (k ∷ taken)))) (first_if (is_item (source g k)) (reverse (k ∷ taken)) _ h)
  over_has zero taken k (j ∷ rest) l h = absurd (omega (arith, l))
  over_has (suc n) taken k (j ∷ rest) l h =
      let more = over_has n (k ∷ taken) j rest (omega (arith, l)) h.3 in
      let f = over g n (k ∷ taken) in
      subst (Contains (over g (suc n) taken k)) (reverse_more j (k ∷ taken) rest)
      (there_if (is_item (source g k)) (comes_again g k taken) (reverse (k ∷ taken)) (flat_map f (reverse (edge_numbers_to_source g k))) (reverse (j ∷ (k ∷ taken)) ++ rest) h.0 h.1
      (in_flat_map f (reverse (edge_numbers_to_source g k)) j _ (Contains-reverse (edge_numbers_to_source g k) j h.2) more))

  -- paths over two edges differ
  pub over_parts : (n m : ℕ) (taken : List ℕ) (x y : ℕ) (p : List ℕ) → Contains (over g n taken x) p → Contains (over g m taken y) p → x ≡ y
  over_parts n m taken x y p c d =
      let r = over_sound n taken x p c in
      let s = over_sound m taken y p d in
      let e : reverse taken ++ (x ∷ r.0) ≡ reverse taken ++ (y ∷ s.0) = sym (reverse_more x taken r.0) ∙ sym r.1 ∙ s.1 ∙ reverse_more y taken s.0 in
      head-eq_of_cons-eq (same_behind (reverse taken) (x ∷ r.0) (y ∷ s.0) e)

  -- no path is listed twice
  pub over_apart : ((k : ℕ) → Apart (edge_numbers_to_source g k)) → (n : ℕ) (taken : List ℕ) (k : ℕ) → Apart (over g n taken k)
  over_apart h zero taken k = apart_if (is_item (source g k)) (reverse (k ∷ taken))
  over_apart h (suc n) taken k =
      apart_or (is_item (source g k)) (comes_again g k taken) (reverse (k ∷ taken)) _
      (apart_flat_map (over g n (k ∷ taken)) (reverse (edge_numbers_to_source g k)) (apart_reverse (edge_numbers_to_source g k) (h k)) (λ j. over_apart h n (k ∷ taken) j) (λ x y p c d. over_parts n n (k ∷ taken) x y p c d))
