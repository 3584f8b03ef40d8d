-- The conditions of the check on each state: targets, listed items and reductions, one more at a
-- time.
use Rattle.std.proofs.Common.{◌≡◌, ◌↔◌, ◌<◌, ◌≤◌, ◌+◌, ℕ, zero, suc, ◌⊎◌, inl, inr, List, [], ◌∷◌, ◌++◌, length, map, take, refl, sym, ◌∙◌, ap, subst, arith, eqb-true, length-append, Some, None, option_map}
use Rattle.std.specs.Prelude.{Contains, slice_get, false, ◌==◌, IsTrue}
use Rattle.std.proofs.lemmas.Bool.{false≢true}
use Rattle.std.specs.Borrow.{Bor}
use Rattle.std.specs.BTreeMap.{BTreeMap, get, IsOrdered, is_at}
use Rattle.std.specs.BTreeSet.{BTreeSet, insert_key, contains}
use Rattle.std.specs.Cmp.{IsTotalOrder, nat_cmp_total, unsigned_tied}
use Rattle.std.specs.Ordering.{nat_cmp, is_eq}
use Rattle.std.proofs.lemmas.Map.Lookups.{CmpEqualImpliesEq}
use Rattle.std.proofs.lemmas.Map.Views.{btree_set_contains_iff}
use Rattle.lalrpop_grammar.specs.Words.{name_cmp}
use Rattle.lalrpop_collections.specs.Words.{Bits, AllDiffer, HaveSame}
use Rattle.lalrpop_states.specs.Words.{number_of, Dotted, AreClosure, LeadsBy, LeadsFrom, IsTarget, with_dot, Lists, LeadsOn, finished}
use Rattle.lalrpop_grammar.specs.contracts.repr.TerminalStringOrd.TheImpl as terminal_ord
use Rattle.lr1_theory.proofs.Types.{Grammar, Nil, Production, State, StateIndex, Symbol}
use Rattle.lalrpop_states.specs.states.Items.{dots, dotted_of}
use Rattle.lalrpop_collections.specs.lists.CheckSets.{IsAdded}
use Rattle.lalrpop_states.specs.states.CheckStates.{productions_of_reductions, target_of, AreListed}
use Rattle.lalrpop_collections.proofs.theory.lists.CheckSets.{inserted}
use Rattle.std.specs.declared.cmp.Ordering.{Ordering}
use Rattle.std.proofs.lemmas.List.Elements.{Contains-append_left, Contains-append_right, Contains-append_cases}
use Rattle.std.proofs.lemmas.Map.Entries.{place_from_lookup, btree_map_get_place}
use Rattle.std.proofs.lemmas.Option.{slice_get_within}
use Rattle.lalrpop_grammar.specs.declared.repr.Symbol.TheVariants.{Nonterminal, Terminal}
use Rattle.lalrpop_collections.proofs.theory.lists.Lists.{some_of_map, contains_of_map}
use Rattle.lalrpop_collections.proofs.theory.lists.Members.{Contains-none, contains_head, contains_tail, contains-cons, contains_map, place}
use Rattle.lalrpop_collections.proofs.theory.lists.Places.{contains_at, differ_push, same_some, push_cases, slice_get-longer, slice_get-push_at}
use Rattle.lr1_theory.proofs.theory.grammars.Tables.{same_lr0}

-- ---- edges
pub targets_more : (old new : List ℕ) (v : ℕ) (vs ws : List ℕ) → IsAdded v old new → ws ≡ v ∷ vs → (m : ℕ) → (Contains new m ⊎ Contains vs m) ↔ (Contains old m ⊎ Contains ws m)
targets_more old new v vs ws a e m = (
  λ h. elim h [
    | inl n ↦ elim (a.from m n) [ inl o ↦ inl o | inr s ↦ inr (subst (λ (xs : List ℕ). Contains xs m) (sym e) (subst (Contains (v ∷ vs)) s (contains_head v vs))) ]
    | inr r ↦ inr (subst (λ (xs : List ℕ). Contains xs m) (sym e) (contains_tail v vs m r))
  ],
  λ h. elim h [
    | inl o ↦ inl (a.kept m o)
    | inr w ↦ elim (contains-cons v vs m (subst (λ (xs : List ℕ). Contains xs m) e w)) [ inl s ↦ inl (subst (Contains new) s a.there) | inr r ↦ inr r ]
  ],
)

module _ {K : Type 0} where
  abbrev pub values : List (K × StateIndex) → List ℕ
  values es = map (λ (e : K × StateIndex). e.1.0) es

  module _ (R : K → K → Ordering) (total : IsTotalOrder R) (edges : BTreeMap K StateIndex) (ordered : IsOrdered R edges) where
    pub leads_of_value : (m : ℕ) → Contains (values edges.entries) m → LeadsBy R edges m
    leads_of_value m c =
        let e = contains_of_map (λ (e : K × StateIndex). e.1.0) edges.entries m c in
        let at = place edges.entries e.0 e.1 in
        (e.0.0, ap (option_map number_of) (btree_map_get_place total edges at.0 e.0.0 e.0.1 ordered at.2) ∙ ap Some e.2)

    pub value_of_leads : (m : ℕ) → LeadsBy R edges m → Contains (values edges.entries) m
    value_of_leads m (key, e) =
        let found = some_of_map number_of (get R edges key) m e in
        let at = place_from_lookup (is_at (R key)) edges.entries found.0 found.1 in
        subst (Contains (values edges.entries)) found.2 (contains_map (λ (e : K × StateIndex). e.1.0) edges.entries (at.1, found.0) (contains_at edges.entries (at.1, found.0) at.0 at.2))

-- the edges of a state are its shifts and its gotos
pub leads_cases : (s : State Bits) (m : ℕ) → LeadsFrom s m → LeadsBy terminal_ord.ghosts.cmp s.shifts m ⊎ LeadsBy name_cmp s.gotos m
leads_cases s m (Terminal t, e) = inl (t, e)
leads_cases s m (Nonterminal a, e) = inr (a, e)

pub From-more : (s : State Bits) (a b c : List ℕ) → ((m : ℕ) → Contains b m ↔ (Contains a m ⊎ LeadsBy terminal_ord.ghosts.cmp s.shifts m)) → ((m : ℕ) → Contains c m ↔ (Contains b m ⊎ LeadsBy name_cmp s.gotos m)) → (m : ℕ) → Contains c m ↔ (Contains a m ⊎ LeadsFrom s m)
From-more s a b c shifts gotos m = (
  λ h. elim ((gotos m).0 h) [
    | inl o ↦ elim ((shifts m).0 o) [ inl p ↦ inl p | inr l ↦ inr (Terminal l.0, l.1) ]
    | inr l ↦ inr (Nonterminal l.0, l.1)
  ],
  λ h. elim h [
    | inl o ↦ (gotos m).1 (inl ((shifts m).1 (inl o)))
    | inr l ↦ elim (leads_cases s m l) [ inl t ↦ (gotos m).1 (inl ((shifts m).1 (inr t))) | inr n ↦ (gotos m).1 (inr n) ]
  ],
)

-- ---- closures
pub same_closure : (g : Grammar) (kernel : Production → ℕ → Type 0) (a b : List (Dotted Nil)) → AreClosure g kernel a → HaveSame a b ↔ AreClosure g kernel b
same_closure g kernel a b c = (
  λ h k. (λ d. (c k).0 ((h k).1 d), λ d. (h k).0 ((c k).1 d)),
  λ h k. (λ d. (h k).1 ((c k).0 d), λ d. (c k).1 ((h k).0 d)),
)

-- ---- numbers
pub some_of : (n : ℕ) → (n == 0) ≡ false → 0 < n
some_of zero e = absurd (false≢true (sym e))
some_of (suc n) e = omega arith

exact_numbers : CmpEqualImpliesEq nat_cmp
exact_numbers x y e = eqb-true x y (sym (unsigned_tied x y) ∙ ap is_eq e)

pub number_added : (n : ℕ) (old new : List ℕ) → new ≡ insert_key nat_cmp old n → IsAdded n old new
number_added n old new e = inserted nat_cmp nat_cmp_total exact_numbers n old new e

pub has_number : (s : BTreeSet ℕ) (n : ℕ) → IsTrue (contains nat_cmp s n) ↔ Contains s.keys n
has_number s n = btree_set_contains_iff nat_cmp_total exact_numbers s n

-- ---- states
module _ (xs : List (State Bits)) (s : State Bits) where
  target_kept : (m : ℕ) → IsTarget xs m → IsTarget (xs ++ s ∷ []) m
  target_kept m t = record { from = t.from; place = t.place; there = slice_get-longer xs (s ∷ []) t.place t.from t.there; leads = t.leads }

  target_last : (m : ℕ) → LeadsFrom s m → IsTarget (xs ++ s ∷ []) m
  target_last m l = record { from = s; place = length xs; there = slice_get-push_at xs s; leads = l }

  pub target_cases : (m : ℕ) → IsTarget (xs ++ s ∷ []) m → IsTarget xs m ⊎ LeadsFrom s m
  target_cases m t = elim (push_cases xs s t.place t.from t.there) [
    | inl l ↦ inl (record { from = t.from; place = t.place; there = l; leads = t.leads })
    | inr e ↦ inr (subst (λ (x : State Bits). LeadsFrom x m) (sym e.1) t.leads)
  ]

  pub Targets-more : (old new : List ℕ) → ((m : ℕ) → Contains old m ↔ IsTarget xs m) → ((m : ℕ) → Contains new m ↔ (Contains old m ⊎ LeadsFrom s m)) → (m : ℕ) → Contains new m ↔ IsTarget (xs ++ s ∷ []) m
  Targets-more old new before more m = (
    λ c. elim ((more m).0 c) [ inl o ↦ target_kept m ((before m).0 o) | inr l ↦ target_last m l ],
    λ t. (more m).1 (elim (target_cases m t) [ inl o ↦ inl ((before m).1 o) | inr l ↦ inr l ]),
  )

pub Targets-none : (keys : List ℕ) → keys ≡ [] → (m : ℕ) → Contains keys m ↔ IsTarget [] m
Targets-none keys e m = (
  λ c. absurd (Contains-none m (subst (λ (ks : List ℕ). Contains ks m) e c)),
  λ t. let at = t.there in cc,
)

-- ---- listed items
pub Lists-none : (keys : List (Dotted Nil)) → keys ≡ [] → Lists [] keys
Lists-none keys e k = (
  λ c. absurd (Contains-none k (subst (λ (ks : List (Dotted Nil)). Contains ks k) e c)),
  λ c. absurd (Contains-none (k.production, k.index) c),
)

pub dots_push : (items : List (Dotted Bits)) (i : Dotted Bits) → dots (items ++ i ∷ []) ≡ dots items ++ dotted_of i ∷ []
dots_push [] i = refl
dots_push (j ∷ items) i = ap (λ ds. dotted_of j ∷ ds) (dots_push items i)

pub Lists-more : (items : List (Dotted Bits)) (i : Dotted Bits) (key : Dotted Nil) (old new : List (Dotted Nil)) → key.production ≡ i.production → key.index ≡ i.index → IsAdded key old new → Lists items old → Lists (items ++ i ∷ []) new
Lists-more items i key old new p d a l k =
    let same : (key.production, key.index) ≡ dotted_of i = ap (λ (q : Production). (q, key.index)) p ∙ ap (λ (n : ℕ). (i.production, n)) d in (
      λ c. subst (λ (ds : List (Production × ℕ)). Contains ds (k.production, k.index)) (sym (dots_push items i)) (elim (a.from k c) [
        | inl o ↦ Contains-append_left (dots items) (dotted_of i ∷ []) (k.production, k.index) ((l k).0 o)
        | inr e ↦ Contains-append_right (dots items) (dotted_of i ∷ []) (k.production, k.index) (subst (Contains (dotted_of i ∷ [])) (sym same ∙ ap (λ (x : Dotted Nil). (x.production, x.index)) e) (contains_head (dotted_of i) []))
      ]),
      λ c. elim (Contains-append_cases (dots items) (dotted_of i ∷ []) (k.production, k.index) (subst (λ (ds : List (Production × ℕ)). Contains ds (k.production, k.index)) (dots_push items i) c)) [
        | inl o ↦ a.kept k ((l k).1 o)
        | inr r ↦ elim (contains-cons (dotted_of i) [] (k.production, k.index) r) [
          | inl e ↦ let f = same ∙ e in subst (Contains new) (same_lr0 key k (ap (λ (x : Production × ℕ). x.0) f) (ap (λ (x : Production × ℕ). x.1) f)) a.there
          | inr none ↦ absurd (Contains-none (k.production, k.index) none)
        ]
      ],
    )

pub Listed-none : (listed : List (BTreeSet (Dotted Nil))) → listed ≡ [] → AreListed [] listed
Listed-none listed e = record { counted = ap length e; each = λ n s here at in_listed. cc }

pub Listed-more : (xs : List (State Bits)) (s : State Bits) (old new : List (BTreeSet (Dotted Nil))) (set : BTreeSet (Dotted Nil)) → new ≡ old ++ set ∷ [] → Lists s.items.vec.items set.keys → AreListed xs old → AreListed (xs ++ s ∷ []) new
Listed-more xs s old new set e l a = record {
  counted = let m = ap length e ∙ length-append old (set ∷ []) in let k = length-append xs (s ∷ []) in let c = a.counted in omega arith;
  each = λ n t here at there.
      let c = a.counted in
      elim (push_cases xs s n t at) [
        | inl before ↦ elim (push_cases old set n here (ap (λ (ys : List (BTreeSet (Dotted Nil))). slice_get ys n) (sym e) ∙ there)) [
          | inl h ↦ a.each n t here before h
          | inr h ↦ let w = slice_get_within xs n t before in let m = h.0 in absurd (omega arith)
        ]
        | inr last ↦ elim (push_cases old set n here (ap (λ (ys : List (BTreeSet (Dotted Nil))). slice_get ys n) (sym e) ∙ there)) [
          | inl h ↦ let w = slice_get_within old n here h in let m = last.0 in absurd (omega arith)
          | inr h ↦ subst (λ (x : State Bits). Lists x.items.vec.items here.keys) last.1 (subst (λ (x : BTreeSet (Dotted Nil)). Lists s.items.vec.items x.keys) h.1 l)
        ]
      ];
}

-- ---- reductions
abbrev Reductions : Type 0
Reductions = List (Bits × Bor Production)

-- the productions of the reductions differ, and the keys are these productions with the dot at the
-- end
pub record AreReduced (reductions : Reductions) (found : List (Dotted Nil)) : Type 0 where
  pub differ : AllDiffer (productions_of_reductions reductions)
  pub keys : (k : Dotted Nil) → Contains found k ↔ ((p : Production) × Contains (productions_of_reductions reductions) p × (finished p ≡ k))

pub Reduced-none : (keys : List (Dotted Nil)) → keys ≡ [] → AreReduced [] keys
Reduced-none keys e = record {
  differ = λ i j x l at. cc;
  keys = λ k. (
    λ c. absurd (Contains-none k (subst (λ (ks : List (Dotted Nil)). Contains ks k) e c)),
    λ h. absurd (Contains-none h.0 h.1),
  );
}

reduced_push : (rs : Reductions) (r : Bits × Bor Production) → productions_of_reductions (rs ++ r ∷ []) ≡ productions_of_reductions rs ++ r.1.now ∷ []
reduced_push [] r = refl
reduced_push (q ∷ rs) r = ap (λ ps. q.1.now ∷ ps) (reduced_push rs r)

pub finished_same : (p q : Production) → finished p ≡ finished q → p ≡ q
finished_same p q e = ap (λ (k : Dotted Nil). k.production) e

pub reduced_has : (rs : Reductions) (keys : List (Dotted Nil)) → AreReduced rs keys → (p : Production) → Contains keys (finished p) ↔ Contains (productions_of_reductions rs) p
reduced_has rs keys a p = (
  λ c. let h = (a.keys (finished p)).0 c in subst (Contains (productions_of_reductions rs)) (finished_same h.0 p h.2) h.1,
  λ c. (a.keys (finished p)).1 (p, c, refl),
)

pub Reduced-more : (rs : Reductions) (r : Bits × Bor Production) (old new : List (Dotted Nil)) → ¬ Contains old (finished r.1.now) → IsAdded (finished r.1.now) old new → AreReduced rs old → AreReduced (rs ++ r ∷ []) new
Reduced-more rs r old new out a b =
    let p = r.1.now in record {
      differ = subst (λ (ps : List Production). AllDiffer ps) (sym (reduced_push rs r)) (differ_push (productions_of_reductions rs) p b.differ (λ c. out ((reduced_has rs old b p).1 c)));
      keys = λ k. (
        λ c. elim (a.from k c) [
          | inl o ↦ let h = (b.keys k).0 o in (h.0, subst (λ (ps : List Production). Contains ps h.0) (sym (reduced_push rs r)) (Contains-append_left (productions_of_reductions rs) (p ∷ []) h.0 h.1), h.2)
          | inr e ↦ (p, subst (λ (ps : List Production). Contains ps p) (sym (reduced_push rs r)) (Contains-append_right (productions_of_reductions rs) (p ∷ []) p (contains_head p [])), e)
        ],
        λ h. elim (Contains-append_cases (productions_of_reductions rs) (p ∷ []) h.0 (subst (λ (ps : List Production). Contains ps h.0) (reduced_push rs r) h.1)) [
          | inl o ↦ a.kept k ((b.keys k).1 (h.0, o, h.2))
          | inr l ↦ elim (contains-cons p [] h.0 l) [ inl e ↦ subst (Contains new) (ap finished e ∙ h.2) a.there | inr none ↦ absurd (Contains-none h.0 none) ]
        ],
      );
    }

-- productions of reductions do not differ if a later reduction is by one of the keys
pub Reduced-twice : (rs : Reductions) (i : ℕ) (r : Bits × Bor Production) (keys : List (Dotted Nil)) → AreReduced (take i rs) keys → slice_get rs i ≡ Some r → Contains keys (finished r.1.now) → AllDiffer (productions_of_reductions rs) → ⊥
Reduced-twice rs i r keys a at c d =
    let p = r.1.now in
    let before = place (productions_of_reductions (take i rs)) p ((reduced_has (take i rs) keys a p).0 c) in
    earlier rs i before.0 p before.2 (reduced_at rs i r at) d
  where
    reduced_at : (rs : Reductions) (i : ℕ) (r : Bits × Bor Production) → slice_get rs i ≡ Some r → slice_get (productions_of_reductions rs) i ≡ Some r.1.now
    reduced_at [] i r e = cc
    reduced_at (q ∷ rs) zero r e = ap (λ (x : Bits × Bor Production). Some x.1.now) (same_some q r e)
    reduced_at (q ∷ rs) (suc i) r e = reduced_at rs i r e

    within : (rs : Reductions) (i j : ℕ) (p : Production) → slice_get (productions_of_reductions (take i rs)) j ≡ Some p → (j < i) × (slice_get (productions_of_reductions rs) j ≡ Some p)
    within [] zero j p e = let none : ⊥ = cc in absurd none
    within [] (suc i) j p e = let none : ⊥ = cc in absurd none
    within (q ∷ rs) zero j p e = let none : ⊥ = cc in absurd none
    within (q ∷ rs) (suc i) zero p e = (omega arith, e)
    within (q ∷ rs) (suc i) (suc j) p e = let w = within rs i j p e in (omega (arith, w.0), w.1)

    earlier : (rs : Reductions) (i j : ℕ) (p : Production) → slice_get (productions_of_reductions (take i rs)) j ≡ Some p → slice_get (productions_of_reductions rs) i ≡ Some p → AllDiffer (productions_of_reductions rs) → ⊥
    earlier rs i j p e at d = let w = within rs i j p e in d j i p w.0 w.1 at

-- ---- the symbol after a dot leads to the moved item
module _ (listed : List (BTreeSet (Dotted Nil))) (s : State Bits) (i : Dotted Bits) (x : Symbol) (at : slice_get i.production.symbols i.index ≡ Some x) where
  abbrev pub AllLeadOn : Type 0
  AllLeadOn = (y : Symbol) → slice_get i.production.symbols i.index ≡ Some y → LeadsOn listed s i y

  pub leads_nowhere : target_of s x ≡ None → AllLeadOn → ⊥
  leads_nowhere none all = let h = all x at in let e = sym none ∙ h.edge in cc

  pub leads_outside : (to : ℕ) → target_of s x ≡ Some to → length listed ≤ to → AllLeadOn → ⊥
  leads_outside to edge out all =
      let h = all x at in
      let same : h.to ≡ to = same_some h.to to (sym h.edge ∙ edge) in
      let w = slice_get_within listed h.to h.moved.set h.moved.there in
      absurd (omega arith)

  pub leads_inside : (to : ℕ) (set : BTreeSet (Dotted Nil)) → target_of s x ≡ Some to → slice_get listed to ≡ Some set → Contains set.keys (with_dot i.production (i.index + 1)) ↔ AllLeadOn
  leads_inside to set edge there = (
    λ c y at_y. subst (LeadsOn listed s i) (same_some x y (sym at ∙ at_y)) (record { to = to; edge = edge; moved = record { set = set; there = there; has = c } }),
    λ all.
        let h = all x at in
        let same : h.to ≡ to = same_some h.to to (sym h.edge ∙ edge) in
        let sets : h.moved.set ≡ set = same_some h.moved.set set (sym h.moved.there ∙ ap (slice_get listed) same ∙ there) in
        subst (λ (t : BTreeSet (Dotted Nil)). Contains t.keys (with_dot i.production (i.index + 1))) sets h.moved.has,
  )
