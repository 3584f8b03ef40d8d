-- Reductions joined by their productions, one at a time, and listed.
use Rattle.std.proofs.Common.{◌≡◌, ℕ, ◌⊎◌, inl, inr, List, [], ◌∷◌, ◌++◌, map, refl, sym, ap, ◌∙◌, subst, Option, Some, None, Bool, true, false, ◌||◌, IsTrue, option_map}
use Rattle.std.specs.Prelude.{Contains, slice_get}
use Rattle.std.specs.Borrow.{Bor}
use Rattle.std.specs.Cmp.{on_total, eq_by_cmp_equiv}
use Rattle.std.specs.List.{AllByRecursion}
use Rattle.std.specs.List.Sorted.{IsStrictlySortedBy}
use Rattle.std.specs.Map.{keys_of}
use Rattle.std.specs.Ordering.{is_eq}
use Rattle.std.specs.declared.cmp.Ordering.{Ordering}
use Rattle.std.specs.declared.cmp.Ordering.TheVariants.{Less}
use Rattle.std.proofs.lemmas.Bool.{cases_Bool, or_cases, or_right}
use Rattle.std.proofs.lemmas.List.Elements.{Contains-append_left, Contains-push, Contains-push_cases}
use Rattle.std.proofs.lemmas.Map.Entries.{place_from_lookup, lookup_from_place}
use Rattle.std.proofs.lemmas.Map.Keys.{IsDistinct-from_sorted}
use Rattle.std.proofs.lemmas.Option.{slice_get-map}
use mathlib.Core.Bool.{true≢false}
use Rattle.lalrpop_base.specs.Words.{Bits, has, no_bits, join, has-join, has-no_bits, PushesAt}
use Rattle.lalrpop_tables.proofs.Types.{Production}
use Rattle.lalrpop_collections.proofs.theory.lists.Lists.{some_of_map}
use Rattle.lalrpop_base.specs.Words.{production_order, HasReduction, HasReductionOn, AreTokensOf, HasTokensOf, AreJoinedReductions}
use Rattle.lalrpop_states.specs.collapse.Merging.{tokens_at, AreReductionsOfMap}
use Rattle.lalrpop_states.proofs.theory.grammars.AscendingItems.{production_total, production_exact}
use Rattle.lalrpop_collections.proofs.theory.lists.Members.{place}
use Rattle.lalrpop_collections.proofs.theory.lists.Places.{contains_at}
use Rattle.lalrpop_grammar.proofs.theory.grammars.NameOrders.{is_equal}

abbrev Reduction : Type 0
Reduction = Bits × Bor Production

abbrev Entry : Type 0
Entry = Bor Production × Bits

abbrev bor_order : Bor Production → Bor Production → Ordering
bor_order a b = production_order a.now b.now

tied : (p q : Production) → is_eq (production_order p q) ≡ true → p ≡ q
tied p q e = production_exact p q (is_equal (production_order p q) e)

itself : (p : Production) → is_eq (production_order p p) ≡ true
itself p = (eq_by_cmp_equiv production_total).refl p

-- ---- a reduction more
module _ (given : List Reduction) (r : Reduction) where
  abbrev more : List Reduction
  more = given ++ r ∷ []

  kept : (p : Production) → HasReduction p given → HasReduction p more
  kept p h = (h.0, Contains-append_left given (r ∷ []) h.0 h.1, h.2)

  kept_on : (p : Production) (bit : ℕ) → HasReductionOn p bit given → HasReductionOn p bit more
  kept_on p bit h = (h.0, Contains-append_left given (r ∷ []) h.0 h.1, h.2, h.3)

  last : (p : Production) → r.1.now ≡ p → HasReduction p more
  last p e = (r, Contains-push given r, e)

  last_on : (p : Production) (bit : ℕ) → r.1.now ≡ p → IsTrue (has r.0 bit) → HasReductionOn p bit more
  last_on p bit e h = (r, Contains-push given r, e, h)

  from : (p : Production) → HasReduction p more → HasReduction p given ⊎ (r.1.now ≡ p)
  from p h = elim (Contains-push_cases given r h.0 h.1) [
    | inl c ↦ inl (h.0, c, h.2)
    | inr e ↦ inr (ap (λ (x : Reduction). x.1.now) e ∙ h.2)
  ]

  from_on : (p : Production) (bit : ℕ) → HasReductionOn p bit more → HasReductionOn p bit given ⊎ ((r.1.now ≡ p) × IsTrue (has r.0 bit))
  from_on p bit h = elim (Contains-push_cases given r h.0 h.1) [
    | inl c ↦ inl (h.0, c, h.2, h.3)
    | inr e ↦ inr (ap (λ (x : Reduction). x.1.now) e ∙ h.2, subst (λ (x : Reduction). IsTrue (has x.0 bit)) (sym e) h.3)
  ]

  has_some : (p : Production) (bit : ℕ) → HasReductionOn p bit given → HasReduction p given
  has_some p bit h = (h.0, h.1, h.2)

  -- the tokens of the production of the reduction
  pushed_at : (p : Production) → r.1.now ≡ p → (o n : Option Bits) → AreTokensOf p given o → PushesAt (λ (s : Bits). s ≡ no_bits) (λ (a item b : Bits). b ≡ join a item) o r.0 n → AreTokensOf p more n
  pushed_at p e None None a h = absurd h
  pushed_at p e (Some s) None a h = absurd h
  pushed_at p e None (Some t) a h = (
    last p e,
    λ bit. (
      λ there. last_on p bit e (sym (same bit) ∙ there),
      λ on. elim (from_on p bit on) [
        | inl old ↦ absurd (a (has_some p bit old))
        | inr here ↦ same bit ∙ here.1
      ],
    ),
  )
    where
      same : (bit : ℕ) → has t bit ≡ has r.0 bit
      same bit =
          ap (λ (x : Bits). has x bit) h.2
          ∙ has-join h.0 r.0 bit
          ∙ ap (λ (x : Bits). has x bit || has r.0 bit) h.1
          ∙ ap (λ (b : Bool). b || has r.0 bit) (has-no_bits bit)
  pushed_at p e (Some s) (Some t) a h = (
    last p e,
    λ bit. (
      λ there. elim (or_cases (has s bit) (has r.0 bit) (sym (same bit) ∙ there)) [
        | inl old ↦ kept_on p bit ((a.1 bit).0 old)
        | inr here ↦ last_on p bit e here
      ],
      λ on. same bit ∙ elim (from_on p bit on) [
        | inl old ↦ ap (λ (b : Bool). b || has r.0 bit) ((a.1 bit).1 old)
        | inr here ↦ ap (λ (b : Bool). has s bit || b) here.1 ∙ or_right (has s bit) true refl
      ],
    ),
  )
    where
      same : (bit : ℕ) → has t bit ≡ (has s bit || has r.0 bit)
      same bit = ap (λ (x : Bits). has x bit) h ∙ has-join s r.0 bit

  -- the tokens of any other production
  other_at : (p : Production) → (r.1.now ≡ p → ⊥) → (o : Option Bits) → AreTokensOf p given o → AreTokensOf p more o
  other_at p other None a = λ h. elim (from p h) [ inl old ↦ a old | inr e ↦ other e ]
  other_at p other (Some s) a = (
    kept p a.0,
    λ bit. (
      λ there. kept_on p bit ((a.1 bit).0 there),
      λ on. elim (from_on p bit on) [ inl old ↦ (a.1 bit).1 old | inr here ↦ absurd (other here.0) ],
    ),
  )

  pub Tokens-more : (old new : List Entry) → HasTokensOf given old → PushesAt (λ (s : Bits). s ≡ no_bits) (λ (a item b : Bits). b ≡ join a item) (tokens_at old r.1.now) r.0 (tokens_at new r.1.now) →
      ((q : Bor Production) → is_eq (production_order r.1.now q.now) ≡ false → tokens_at new q.now ≡ tokens_at old q.now) → HasTokensOf more new
  Tokens-more old new a pushed others p = elim (cases_Bool (is_eq (production_order r.1.now p))) [
    | inl ties ↦
        let e : r.1.now ≡ p = tied r.1.now p ties in
        pushed_at p e (tokens_at old p) (tokens_at new p) (a p) (subst (λ (q : Production). PushesAt (λ (s : Bits). s ≡ no_bits) (λ (x item y : Bits). y ≡ join x item) (tokens_at old q) r.0 (tokens_at new q)) e pushed)
    | inr differs ↦
        let q : Bor Production = record { ref_ptr = r.1.ref_ptr; now = p } in
        let apart : r.1.now ≡ p → ⊥ = λ e. let t : is_eq (production_order r.1.now p) ≡ true = ap (λ (x : Production). is_eq (production_order r.1.now x)) (sym e) ∙ itself r.1.now in true≢false (sym t ∙ differs) in
        subst (AreTokensOf p more) (sym (others q differs)) (other_at p apart (tokens_at old p) (a p))
  ]

-- ---- the whole
module _ (given list : List Reduction) (m : List Entry) (tokens : HasTokensOf given m) (listed : AreReductionsOfMap m list) where
  abbrev swapped : Entry → Reduction
  swapped e = (e.1, e.0)

  listed_entry : (r : Reduction) → Contains list r → tokens_at m r.1.now ≡ Some r.0
  listed_entry r c =
      let k = place list r c in
      let e = some_of_map swapped (slice_get m k.0) r (sym (slice_get-map swapped m k.0) ∙ ap (λ (xs : List Reduction). slice_get xs k.0) (sym listed.all) ∙ k.2) in
      let found : tokens_at m e.0.0.now ≡ Some e.0.1 = lookup_from_place (eq_by_cmp_equiv (on_total (λ (b : Bor Production). b.now) production_total)) m k.0 e.0.0 e.0.1 (IsDistinct-from_sorted bor_order (keys_of m) listed.ascend) e.1 in
      ap (λ (x : Reduction). tokens_at m x.1.now) (sym e.2) ∙ found ∙ ap (λ (x : Reduction). Some x.0) e.2

  entry_listed : (p : Production) (s : Bits) → tokens_at m p ≡ Some s → (b : Bor Production) × Contains list (s, b) × (b.now ≡ p)
  entry_listed p s h =
      let k = place_from_lookup (λ (b : Bor Production). is_eq (production_order p b.now)) m s h in
      let at : slice_get list k.0 ≡ Some (s, k.1) = ap (λ (xs : List Reduction). slice_get xs k.0) listed.all ∙ slice_get-map swapped m k.0 ∙ ap (option_map swapped) k.2 in
      (k.1, contains_at list (s, k.1) k.0 at, sym (tied p k.1.now k.3))

  at_of : (p : Production) (r : Reduction) → Contains list r → r.1.now ≡ p → AreTokensOf p given (Some r.0)
  at_of p r c e = subst (AreTokensOf p given) (ap (tokens_at m) (sym e) ∙ listed_entry r c) (tokens p)

  found_at : (p : Production) (o : Option Bits) → tokens_at m p ≡ o → AreTokensOf p given o → HasReduction p given → (s : Bits) × (tokens_at m p ≡ Some s) × ((bit : ℕ) → HasReductionOn p bit given → IsTrue (has s bit))
  found_at p None e a h = absurd (a h)
  found_at p (Some s) e a h = (s, e, λ bit on. (a.1 bit).1 on)

  found : (p : Production) → HasReduction p given → (s : Bits) × (tokens_at m p ≡ Some s) × ((bit : ℕ) → HasReductionOn p bit given → IsTrue (has s bit))
  found p h = found_at p (tokens_at m p) refl (tokens p) h

  sorted_heads : (x : Bor Production) (bs : List (Bor Production)) → AllByRecursion (λ (y : Bor Production). production_order x.now y.now ≡ Less) bs → AllByRecursion (λ (y : Production). production_order x.now y ≡ Less) (map (λ (b : Bor Production). b.now) bs)
  sorted_heads x [] a = tt
  sorted_heads x (b ∷ bs) a = (a.0, sorted_heads x bs a.1)

  sorted_now : (bs : List (Bor Production)) → IsStrictlySortedBy bor_order bs → IsStrictlySortedBy production_order (map (λ (b : Bor Production). b.now) bs)
  unfolding IsStrictlySortedBy
  sorted_now [] s = tt
  sorted_now (b ∷ bs) s = (sorted_heads b bs s.0, sorted_now bs s.1)

  productions_now : (es : List Entry) → map (λ (b : Bor Production). b.now) (keys_of es) ≡ map (λ (r : Reduction). r.1.now) (map swapped es)
  productions_now [] = refl
  productions_now (e ∷ es) = ap (λ (ps : List Production). e.0.now ∷ ps) (productions_now es)

  pub Listed-joined : AreJoinedReductions given list
  Listed-joined = record {
    reduces = λ p. (
      λ h. (at_of p h.0 h.1 h.2).0,
      λ h. let f = found p h in let b = entry_listed p f.0 f.1 in ((f.0, b.0), b.1, b.2),
    );
    holds = λ p bit. (
      λ h. ((at_of p h.0 h.1 h.2).1 bit).0 h.3,
      λ h. let f = found p (h.0, h.1, h.2) in let b = entry_listed p f.0 f.1 in ((f.0, b.0), b.1, b.2, f.2 bit h),
    );
    ascend = subst (IsStrictlySortedBy production_order) (productions_now m ∙ ap (map (λ (r : Reduction). r.1.now)) (sym listed.all)) (sorted_now (keys_of m) listed.ascend);
  }
