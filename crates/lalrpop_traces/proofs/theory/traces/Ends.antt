-- A search backwards that meets no item shows that no path goes on over an edge.
use Rattle.std.proofs.Common.{◌≡◌, ℕ, zero, suc, ◌+◌, ◌-◌, ◌<◌, ◌⊎◌, inl, inr, Bool, true, false, ◌||◌, cond, List, [], ◌∷◌, ◌++◌, length, reverse, refl, sym, ◌∙◌, ap, subst, arith}
use Rattle.std.specs.Prelude.{Contains, Option, Some, None}
use Rattle.std.specs.List.{flat_map, range_with_len}
use Rattle.std.proofs.lemmas.Bool.{cases_Bool}
use Rattle.std.proofs.lemmas.List.Elements.{Contains-append_left, Contains-push, Contains-push_cases}
use Rattle.std.proofs.lemmas.Option.{slice_get_within}
use mathlib.Core.Bool.{true≢false}
use Rattle.lalrpop_base.specs.Words.{Visits}
use Rattle.lalrpop_collections.specs.declared.collections.walk.Walk.{Walk}
use Rattle.lalrpop_collections.proofs.theory.collections.Walks.{IsTraversing, All-wait, visited_such, Traversing-start, Traversing-step, Traversing-smaller, Traversing-end, Visits-none, Visits-same, Visits-then}
use Rattle.lalrpop_collections.proofs.theory.lists.Lists.{contains_place}
use Rattle.lalrpop_collections.proofs.theory.lists.Members.{Contains-none, Contains-range, Contains-from_reverse, contains_head, contains_tail}
use Rattle.lalrpop_traces.proofs.theory.traces.TraceGraphs.{place_sound}
use Rattle.lalrpop_traces.specs.Words.{GoesOnTo, are_one, comes_again, edge_numbers_to_source, edge_of, is_item, numbers_to_source, over, source}
use Rattle.lalrpop_traces.specs.declared.trace.trace_graph.TraceGraph.{TraceGraph}
use Rattle.lalrpop_traces.specs.declared.trace.trace_graph.TraceGraphEdge.{TraceGraphEdge}

-- lists of which each is empty are joined to an empty one
joined_none : (f : ℕ → List (List ℕ)) (ks : List ℕ) → ((k : ℕ) → Contains ks k → f k ≡ []) → flat_map f ks ≡ []
joined_none f [] h = refl
joined_none f (k ∷ ks) h = ap (λ xs. xs ++ flat_map f ks) (h k (contains_head k ks)) ∙ joined_none f ks (λ j c. h j (contains_tail k ks j c))

or_right : (a b : Bool) → b ≡ true → (a || b) ≡ true
or_right true b h = refl
or_right false b h = h

module _ (g : TraceGraph) where
  -- no path goes on over an edge from a nonterminal that was passed
  over_passed : (n : ℕ) (taken : List ℕ) (k : ℕ) → is_item (source g k) ≡ false → comes_again g k taken ≡ true → over g n taken k ≡ []
  over_passed zero taken k name again = ap (λ b. cond b (reverse (k ∷ taken) ∷ []) []) name
  over_passed (suc n) taken k name again =
      let rest = flat_map (over g n (k ∷ taken)) (reverse (edge_numbers_to_source g k)) in
      ap (λ b. cond b (reverse (k ∷ taken) ∷ []) (cond (comes_again g k taken) [] rest)) name ∙ ap (λ b. cond b [] rest) again

  -- an edge to the source of an edge is one of the graph
  pub led_within : (k j : ℕ) → Contains (edge_numbers_to_source g k) j → j < length g.edges
  led_within k j c = within_by (edge_of g k) j c where
    within_by : (o : Option TraceGraphEdge) (j : ℕ) → Contains (numbers_to_source g o) j → j < length g.edges
    within_by None j c = absurd (Contains-none j c)
    within_by (Some e) j c =
        let at = contains_place (numbers_to_source g (Some e)) j c in
        let h = place_sound 0 e.from g.edges at.0 j at.1 in
        let within = slice_get_within g.edges h.0 h.1 h.3 in
        omega (arith, within, h.2)

  module _ (path : List ℕ) where
    -- the edges come from nonterminals. The edges to the source of each come from nonterminals, and
    -- are among the edges, or come from a node that was passed
    record IsDeadEnd (edges : List ℕ) : Type 0 where
      pub names : (k : ℕ) → Contains edges k → is_item (source g k) ≡ false
      pub before : (k j : ℕ) → Contains edges k → Contains (edge_numbers_to_source g k) j → is_item (source g j) ≡ false
      pub closed : (k j : ℕ) → Contains edges k → GoesOnTo g path k j → Contains edges j

    -- a longer path has passed the same nodes
    abbrev Covers : List ℕ → Type 0
    Covers taken = (j : ℕ) → comes_again g j path ≡ true → comes_again g j taken ≡ true

    covers_more : (taken : List ℕ) (k : ℕ) → Covers taken → Covers (k ∷ taken)
    covers_more taken k covers j h = or_right (are_one (source g k) (source g j)) (comes_again g j taken) (covers j h)

    -- no path goes on over an edge to the source of one of the edges
    dead_before : (n : ℕ) (taken : List ℕ) (j : ℕ) → is_item (source g j) ≡ false → Covers taken → (comes_again g j path ≡ false → over g n taken j ≡ []) → (comes_again g j path ≡ true) ⊎ (comes_again g j path ≡ false) → over g n taken j ≡ []
    dead_before n taken j name covers on (inl again) = over_passed n taken j name (covers j again)
    dead_before n taken j name covers on (inr new) = on new

    none_if : (b : Bool) → cond {A = List (List ℕ)} b [] [] ≡ []
    none_if true = refl
    none_if false = refl

    -- no path goes on over one of the edges
    dead_end : (edges : List ℕ) → IsDeadEnd edges → (n : ℕ) (taken : List ℕ) (k : ℕ) → Covers taken → Contains edges k → over g n taken k ≡ []
    dead_end edges dead zero taken k covers c = ap (λ b. cond b (reverse (k ∷ taken) ∷ []) []) (dead.names k c)
    dead_end edges dead (suc n) taken k covers c =
        let f = over g n (k ∷ taken) in
        let ks = reverse (edge_numbers_to_source g k) in
        let more = covers_more taken k covers in
        let none : flat_map f ks ≡ [] = joined_none f ks (λ j in_ks.
        let leads = Contains-from_reverse (edge_numbers_to_source g k) j in_ks in
        dead_before n (k ∷ taken) j (dead.before k j c leads) more (λ new. dead_end edges dead n (k ∷ taken) j more (dead.closed k j c (record { leads = leads; new = new }))) (cases_Bool (comes_again g j path))) in
        ap (λ b. cond b (reverse (k ∷ taken) ∷ []) (cond (comes_again g k taken) [] (flat_map f ks))) (dead.names k c)
        ∙ ap (λ xs. cond (comes_again g k taken) [] xs) none
        ∙ none_if (comes_again g k taken)

    -- ---- the search
    module _ (edge : ℕ) where
      -- an edge that the search can visit
      pub record IsWithin (k : ℕ) : Type 0 where
        pub name : is_item (source g k) ≡ false
        pub place : Contains (edge ∷ range_with_len 0 (length g.edges)) k

      abbrev Traverses : List ℕ → Walk ℕ → Type 0
      Traverses = IsTraversing (λ k. edge ≡ k) (GoesOnTo g path) IsWithin

      -- the search has gone on from some edges. No item is before these
      pub record IsSearching (walk : Walk ℕ) : Type 0 where
        pub done : List ℕ
        pub traverses : Traverses done walk
        pub before : (k j : ℕ) → Contains done k → Contains (edge_numbers_to_source g k) j → is_item (source g j) ≡ false

      pub Searching-start : is_item (source g edge) ≡ false → (none walk : Walk ℕ) → none.visited.keys ≡ [] → none.waiting.items ≡ [] → Visits (λ k. edge ≡ k) none walk → IsSearching walk
      Searching-start name none walk no_visits no_waits v = record {
        done = [];
        traverses = Traversing-start (λ k. edge ≡ k) (GoesOnTo g path) IsWithin walk (All-wait (λ k. edge ≡ k) none walk no_visits no_waits v) (λ k e. v.there k e)
            (λ k c. subst IsWithin (visited_such (λ k. edge ≡ k) none walk no_visits no_waits v k c) (record { name = name; place = contains_head edge (range_with_len 0 (length g.edges)) }));
        before = λ k j c leads. absurd (Contains-none k c);
      }

      module _ (key : ℕ) (before popped after : Walk ℕ) (same : popped.visited.keys ≡ before.visited.keys) (taken : before.waiting.items ≡ key ∷ popped.waiting.items) (h : IsSearching before) (none : (j : ℕ) → Contains (edge_numbers_to_source g key) j → is_item (source g j) ≡ false) (v : Visits (GoesOnTo g path key) popped after) where
        pub Searching-step : IsSearching after
        Searching-step = record {
          done = h.done ++ key ∷ [];
          traverses = Traversing-step (λ k. edge ≡ k) (GoesOnTo g path) IsWithin h.done key before popped after same taken h.traverses v
              (λ j reach leads. record { name = none j leads.leads; place = contains_tail edge (range_with_len 0 (length g.edges)) j (Contains-range (length g.edges) j (led_within key j leads.leads)) });
          before = λ k j c leads. elim (Contains-push_cases h.done key k c) [
            | inl old ↦ h.before k j old leads
            | inr here ↦ none j (subst (λ (x : ℕ). Contains (edge_numbers_to_source g x) j) (sym here) leads)
          ];
        }

        pub Searching-smaller : length (edge ∷ range_with_len 0 (length g.edges)) + length after.waiting.items - length after.visited.keys < length (edge ∷ range_with_len 0 (length g.edges)) + length before.waiting.items - length before.visited.keys
        Searching-smaller = Traversing-smaller (λ k. edge ≡ k) (GoesOnTo g path) IsWithin (edge ∷ range_with_len 0 (length g.edges)) (λ k r. r.place) h.done Searching-step.done key before popped after same taken h.traverses v Searching-step.traverses

      -- a search that ends shows that no path goes on
      pub Searching-end : (walk : Walk ℕ) → walk.waiting.items ≡ [] → IsSearching walk → (n : ℕ) → over g n path edge ≡ []
      Searching-end walk none h n =
          let all = Traversing-end (λ k. edge ≡ k) (GoesOnTo g path) IsWithin h.done walk none h.traverses in
          dead_end walk.visited.keys (record {
            names = λ k c. (h.traverses.reached k c).name;
            before = λ k j c leads. h.before k j (all k c) leads;
            closed = λ k j c on. h.traverses.led k j (all k c) on;
          }) n path edge (λ j again. again) (h.traverses.begun edge refl)

    -- ---- edges that are visited one by one
    -- the edge, if none that was taken comes from its source
    abbrev pub IsNew : ℕ → ℕ → Type 0
    IsNew edge k = (edge ≡ k) × (comes_again g k path ≡ false)

    -- the edges of a list, without those from the sources of edges that were taken
    abbrev pub AreNew : List ℕ → ℕ → Type 0
    AreNew ks k = Contains ks k × (comes_again g k path ≡ false)

    pub New-not : (edge : ℕ) (walk : Walk ℕ) → comes_again g edge path ≡ true → Visits (IsNew edge) walk walk
    New-not edge walk again = Visits-none (IsNew edge) walk (λ k h. true≢false (sym again ∙ ap (λ j. comes_again g j path) h.0 ∙ h.1))

    pub New-one : (edge : ℕ) (a b : Walk ℕ) → comes_again g edge path ≡ false → Visits (λ k. edge ≡ k) a b → Visits (IsNew edge) a b
    New-one edge a b new x = Visits-same (λ k. edge ≡ k) (IsNew edge) (λ k e. (e, ap (λ j. comes_again g j path) (sym e) ∙ new)) (λ k h. h.0) a b x

    pub New-none : (walk : Walk ℕ) → Visits (AreNew []) walk walk
    New-none walk = Visits-none (AreNew []) walk (λ k h. Contains-none k h.0)

    pub New-more : (ks : List ℕ) (edge : ℕ) (a b c : Walk ℕ) → Visits (AreNew ks) a b → Visits (IsNew edge) b c → Visits (AreNew (ks ++ edge ∷ [])) a c
    New-more ks edge a b c x y =
        Visits-then (AreNew ks) (IsNew edge) (AreNew (ks ++ edge ∷ [])) (λ k h. (Contains-append_left ks (edge ∷ []) k h.0, h.1)) (λ k h. (subst (Contains (ks ++ edge ∷ [])) h.0 (Contains-push ks edge), h.1))
        (λ k h. elim (Contains-push_cases ks edge k h.0) [ inl old ↦ inl (old, h.1) | inr here ↦ inr (here, h.1) ]) a b c x y

    pub New-all : (k : ℕ) (a b : Walk ℕ) → Visits (AreNew (edge_numbers_to_source g k)) a b → Visits (GoesOnTo g path k) a b
    New-all k a b x = Visits-same (AreNew (edge_numbers_to_source g k)) (GoesOnTo g path k) (λ j h. record { leads = h.0; new = h.1 }) (λ j on. (on.leads, on.new)) a b x
