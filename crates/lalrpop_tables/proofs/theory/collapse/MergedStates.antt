-- States placed by their numbers: each is the merge of those with its number.
use Rattle.std.proofs.Common.{◌≡◌, ℕ, zero, suc, ◌+◌, ◌<◌, ◌≤◌, ◌⊎◌, inl, inr, List, [], ◌∷◌, ◌++◌, length, refl, sym, ap, ◌∙◌, subst, arith, Option, Some, None, true, ◌||◌, IsTrue, length-append}
use Rattle.std.specs.Prelude.{◌↔◌, Contains, slice_get}
use Rattle.std.specs.Borrow.{Bor}
use Rattle.std.specs.BTreeMap.{BTreeMap, get}
use Rattle.std.specs.Option.{option_or}
use Rattle.std.specs.declared.cmp.Ordering.{Ordering}
use Rattle.std.proofs.lemmas.Bool.{or_cases, cases_eq, cases_lt, or_right}
use Rattle.std.proofs.lemmas.List.Elements.{Contains-append_left, Contains-append_right, Contains-append_cases}
use Rattle.std.proofs.lemmas.Option.{slice_get_within}
use Rattle.lalrpop_base.specs.Words.{Bits, has, has-join, dots, Dotted, name_cmp, joined_item, joined_items, IsJoined, IsPlacedAt, pushed, joined}
use Rattle.lalrpop_tables.specs.Words.{dots_in, HoldsAt, OfMember}
use Rattle.lalrpop_grammar.specs.contracts.repr.TerminalStringOrd.TheImpl as terminal_ord
use Rattle.lalrpop_tables.proofs.Types.{NonterminalString, Production, State, StateIndex, TerminalString}
use Rattle.lalrpop_states.specs.collapse.Merging.{ArePlaced, none}
use Rattle.lalrpop_collections.proofs.theory.lists.Places.{same_some, push_cases, slice_get-longer, slice_get-push_at}

abbrev Reduction : Type 0
Reduction = Bits × Bor Production

-- ---- items joined place by place
pub joined_dots : (is js : List (Dotted Bits)) → dots (joined_items is js) ≡ dots is
joined_dots [] [] = refl
joined_dots (i ∷ is) [] = refl
joined_dots [] (j ∷ js) = refl
joined_dots (i ∷ is) (j ∷ js) = ap (λ ds. (i.production, i.index) ∷ ds) (joined_dots is js)

abbrev HasAt : ℕ → ℕ → List (Dotted Bits) → Type 0
HasAt k bit is = (i : Dotted Bits) × (slice_get is k ≡ Some i) × IsTrue (has i.lookahead bit)

joined_from : (is js : List (Dotted Bits)) (k bit : ℕ) → HasAt k bit (joined_items is js) → HasAt k bit is ⊎ HasAt k bit js
joined_from [] [] k bit h = inl h
joined_from (i ∷ is) [] k bit h = inl h
joined_from [] (j ∷ js) k bit h = inl h
joined_from (i ∷ is) (j ∷ js) zero bit h =
    let e : joined_item i j ≡ h.0 = same_some (joined_item i j) h.0 h.1 in
    elim (or_cases (has i.lookahead bit) (has j.lookahead bit) (sym (has-join i.lookahead j.lookahead bit) ∙ ap (λ (x : Dotted Bits). has x.lookahead bit) e ∙ h.2)) [
      | inl own ↦ inl (i, refl, own)
      | inr other ↦ inr (j, refl, other)
    ]
joined_from (i ∷ is) (j ∷ js) (suc k) bit h = joined_from is js k bit h

joined_own : (is js : List (Dotted Bits)) (k bit : ℕ) → HasAt k bit is → HasAt k bit (joined_items is js)
joined_own [] [] k bit h = h
joined_own (i ∷ is) [] k bit h = h
joined_own [] (j ∷ js) k bit h = h
joined_own (i ∷ is) (j ∷ js) zero bit h =
    let own : has i.lookahead bit ≡ true = ap (λ (x : Dotted Bits). has x.lookahead bit) (same_some i h.0 h.1) ∙ h.2 in
    (joined_item i j, refl, has-join i.lookahead j.lookahead bit ∙ ap (λ b. b || has j.lookahead bit) own)
joined_own (i ∷ is) (j ∷ js) (suc k) bit h = joined_own is js k bit h

joined_other : (is js : List (Dotted Bits)) (k bit : ℕ) → dots is ≡ dots js → HasAt k bit js → HasAt k bit (joined_items is js)
joined_other is [] k bit e h = cc
joined_other [] (j ∷ js) k bit e h = cc
joined_other (i ∷ is) (j ∷ js) zero bit e h =
    let other : has j.lookahead bit ≡ true = ap (λ (x : Dotted Bits). has x.lookahead bit) (same_some j h.0 h.1) ∙ h.2 in
    (joined_item i j, refl, has-join i.lookahead j.lookahead bit ∙ ap (λ b. has i.lookahead bit || b) other ∙ or_right (has i.lookahead bit) true refl)
joined_other (i ∷ is) (j ∷ js) (suc k) bit e h = joined_other is js k bit (ap tail_of e) h
  where
    tail_of : {X : Type 0} → List X → List X
    tail_of [] = []
    tail_of (x ∷ xs) = xs

-- ---- transitions over one another
overlaid_from : {X : Type 0} (o p : Option X) (x : X) → option_or o p ≡ Some x → (p ≡ Some x) ⊎ (o ≡ Some x)
overlaid_from None p x e = inl e
overlaid_from (Some y) p x e = inr e

overlaid_other : {X : Type 0} (o p : Option X) (x : X) → o ≡ Some x → option_or o p ≡ Some x
overlaid_other None p x e = cc
overlaid_other (Some y) p x e = e

overlaid_own : {X : Type 0} (o p : Option X) (x : X) → ((y : X) → o ≡ Some y → x ≡ y) → p ≡ Some x → option_or o p ≡ Some x
overlaid_own None p x same e = e
overlaid_own (Some y) p x same e = ap Some (sym (same y refl))

-- at a key that both maps have, they have the same target
abbrev pub Agree : {K : Type 0} → (K → K → Ordering) → BTreeMap K StateIndex → BTreeMap K StateIndex → Type 0
Agree {K} order a b = (key : K) (x y : StateIndex) → get order a key ≡ Some x → get order b key ≡ Some y → x ≡ y

-- ---- states that can be joined, and merged ones
pub record CanJoin (a b : State Bits) : Type 0 where
  pub listed : dots_in a ≡ dots_in b
  pub shifts : Agree terminal_ord.ghosts.cmp a.shifts b.shifts
  pub gotos : Agree name_cmp a.gotos b.gotos

-- the state is the merge of the members, as in the collapse. But it has the numbers that they have,
-- and the reductions of all
pub record Merges (Member : State Bits → Type 0) (number : ℕ) (merged : State Bits) : Type 0 where
  pub index : merged.index.0 ≡ number
  pub some : OfMember Member (λ _. Unit {0})
  pub listed : (s : State Bits) → Member s → dots_in s ≡ dots_in merged
  pub tokens : (k bit : ℕ) → HoldsAt k bit merged ↔ OfMember Member (HoldsAt k bit)
  pub shifts : (t : TerminalString) (target : StateIndex) → (get terminal_ord.ghosts.cmp merged.shifts t ≡ Some target) ↔ OfMember Member (λ s. get terminal_ord.ghosts.cmp s.shifts t ≡ Some target)
  pub gotos : (name : NonterminalString) (target : StateIndex) → (get name_cmp merged.gotos name ≡ Some target) ↔ OfMember Member (λ s. get name_cmp s.gotos name ≡ Some target)
  pub reductions : (r : Reduction) → Contains merged.reductions.items r ↔ OfMember Member (λ s. Contains s.reductions.items r)

module _ (Member Wider : State Bits → Type 0) (state : State Bits) (wider : (s : State Bits) → Member s → Wider s) (there : Wider state) (only : (s : State Bits) → Wider s → Member s ⊎ (s ≡ state)) where
  widened : (P : State Bits → Type 0) (merged united : State Bits) → P merged ↔ OfMember Member P → (P united → P merged ⊎ P state) → (P merged → P united) → (P state → P united) → P united ↔ OfMember Wider P
  widened P merged united old from own other = (
    λ p. elim (from p) [
      | inl q ↦ let m = old.0 q in (m.0, wider m.0 m.1, m.2)
      | inr q ↦ (state, there, q)
    ],
    λ m. elim (only m.0 m.1) [
      | inl q ↦ own (old.1 (m.0, q, m.2))
      | inr e ↦ other (subst P e m.2)
    ],
  )

  -- a state more is joined
  pub Merges-more : (number : ℕ) (merged united : State Bits) → Merges Member number merged → IsJoined merged state united → ((s : State Bits) → Member s → CanJoin s state) → Merges Wider number united
  Merges-more number merged united m j can =
      let first = m.some in
      let dotted : dots_in united ≡ dots_in merged = ap dots j.items ∙ joined_dots merged.items.vec.items state.items.vec.items in
      let alike : dots_in merged ≡ dots_in state = sym (m.listed first.0 first.1) ∙ (can first.0 first.1).listed in
      record {
        index = ap (λ (i : StateIndex). i.0) j.index ∙ m.index;
        some = (state, there, tt);
        listed = λ s w. elim (only s w) [
          | inl q ↦ m.listed s q ∙ sym dotted
          | inr e ↦ ap dots_in e ∙ sym alike ∙ sym dotted
        ];
        tokens = λ k bit. widened (HoldsAt k bit) merged united (m.tokens k bit)
            (λ h. joined_from merged.items.vec.items state.items.vec.items k bit (subst (HasAt k bit) j.items h))
            (λ h. subst (HasAt k bit) (sym j.items) (joined_own merged.items.vec.items state.items.vec.items k bit h))
            (λ h. subst (HasAt k bit) (sym j.items) (joined_other merged.items.vec.items state.items.vec.items k bit alike h));
        shifts = λ t target. widened (λ (s : State Bits). get terminal_ord.ghosts.cmp s.shifts t ≡ Some target) merged united (m.shifts t target)
            (λ h. overlaid_from _ _ target (sym (j.shifts t) ∙ h))
            (λ h. j.shifts t ∙ overlaid_own _ _ target (λ y e. let o = (m.shifts t target).0 h in (can o.0 o.1).shifts t target y o.2 e) h)
            (λ h. j.shifts t ∙ overlaid_other _ _ target h);
        gotos = λ t target. widened (λ (s : State Bits). get name_cmp s.gotos t ≡ Some target) merged united (m.gotos t target)
            (λ h. overlaid_from _ _ target (sym (j.gotos t) ∙ h))
            (λ h. j.gotos t ∙ overlaid_own _ _ target (λ y e. let o = (m.gotos t target).0 h in (can o.0 o.1).gotos t target y o.2 e) h)
            (λ h. j.gotos t ∙ overlaid_other _ _ target h);
        reductions = λ r. widened (λ (s : State Bits). Contains s.reductions.items r) merged united (m.reductions r)
            (λ h. Contains-append_cases merged.reductions.items state.reductions.items r (subst (λ (rs : List Reduction). Contains rs r) j.reductions h))
            (λ h. subst (λ (rs : List Reduction). Contains rs r) (sym j.reductions) (Contains-append_left merged.reductions.items state.reductions.items r h))
            (λ h. subst (λ (rs : List Reduction). Contains rs r) (sym j.reductions) (Contains-append_right merged.reductions.items state.reductions.items r h));
      }

-- the same members have the same merge
pub Merges-same : (Member Other : State Bits → Type 0) (number : ℕ) (merged : State Bits) → ((s : State Bits) → Member s → Other s) → ((s : State Bits) → Other s → Member s) → Merges Member number merged → Merges Other number merged
Merges-same Member Other number merged to from m = record {
  index = m.index;
  some = (m.some.0, to m.some.0 m.some.1, tt);
  listed = λ s o. m.listed s (from s o);
  tokens = λ k bit. both (HoldsAt k bit) (m.tokens k bit);
  shifts = λ t target. both (λ (s : State Bits). get terminal_ord.ghosts.cmp s.shifts t ≡ Some target) (m.shifts t target);
  gotos = λ t target. both (λ (s : State Bits). get name_cmp s.gotos t ≡ Some target) (m.gotos t target);
  reductions = λ r. both (λ (s : State Bits). Contains s.reductions.items r) (m.reductions r);
}
  where
    both : (P : State Bits → Type 0) → P merged ↔ OfMember Member P → P merged ↔ OfMember Other P
    both P b = (λ p. let o = b.0 p in (o.0, to o.0 o.1, o.2), λ o. b.1 (o.0, from o.0 o.1, o.2))

-- a state is the merge of itself
pub Merges-one : (Member : State Bits → Type 0) (number : ℕ) (state : State Bits) → state.index.0 ≡ number → Member state → ((s : State Bits) → Member s → s ≡ state) → Merges Member number state
Merges-one Member number state e there only = record {
  index = e;
  some = (state, there, tt);
  listed = λ s m. ap dots_in (only s m);
  tokens = λ k bit. both (HoldsAt k bit);
  shifts = λ t target. both (λ (s : State Bits). get terminal_ord.ghosts.cmp s.shifts t ≡ Some target);
  gotos = λ t target. both (λ (s : State Bits). get name_cmp s.gotos t ≡ Some target);
  reductions = λ r. both (λ (s : State Bits). Contains s.reductions.items r);
}
  where
    both : (P : State Bits → Type 0) → P state ↔ OfMember Member P
    both P = (λ p. (state, there, p), λ o. subst P (only o.0 o.1) o.2)

-- ---- all states of a list
-- a state of the list that has the number
abbrev pub HasNumber : List (State Bits) → ℕ → State Bits → Type 0
HasNumber states number s = (n : ℕ) × (slice_get states n ≡ Some s) × (s.index.0 ≡ number)

-- states with one number can be joined, and each number appears after all lower ones
pub record CanMerge (states : List (State Bits)) : Type 0 where
  pub alike : (n m : ℕ) (a b : State Bits) → slice_get states n ≡ Some a → slice_get states m ≡ Some b → a.index.0 ≡ b.index.0 → CanJoin a b
  pub first : (n earlier : ℕ) (s : State Bits) → slice_get states n ≡ Some s → earlier < s.index.0 → (k : ℕ) × (t : State Bits) × (k < n) × (slice_get states k ≡ Some t) × (t.index.0 ≡ earlier)

pub record AreMerged (states merged : List (State Bits)) : Type 0 where
  pub below : (n : ℕ) (s : State Bits) → slice_get states n ≡ Some s → s.index.0 < length merged
  pub each : (k : ℕ) (m : State Bits) → slice_get merged k ≡ Some m → Merges (HasNumber states k) k m

module _ (before : List (State Bits)) (state : State Bits) where
  abbrev grown : List (State Bits)
  grown = before ++ state ∷ []

  stays : (k : ℕ) (s : State Bits) → HasNumber before k s → HasNumber grown k s
  stays k s h = (h.0, slice_get-longer before (state ∷ []) h.0 s h.1, h.2)

  came : HasNumber grown state.index.0 state
  came = (length before, slice_get-push_at before state, refl)

  from : (k : ℕ) (s : State Bits) → HasNumber grown k s → HasNumber before k s ⊎ (s ≡ state)
  from k s h = elim (push_cases before state h.0 s h.1) [
    | inl old ↦ inl (h.0, old, h.2)
    | inr last ↦ inr (sym last.1)
  ]

  not_other : (k : ℕ) → (k ≡ state.index.0 → ⊥) → (s : State Bits) → HasNumber grown k s → HasNumber before k s
  not_other k other s h = elim (push_cases before state h.0 s h.1) [
    | inl old ↦ (h.0, old, h.2)
    | inr last ↦ absurd (other (sym h.2 ∙ ap (λ (x : State Bits). x.index.0) (sym last.1)))
  ]

  front : CanMerge grown → CanMerge before
  front c = record {
    alike = λ n m a b at_n at_m e. c.alike n m a b (slice_get-longer before (state ∷ []) n a at_n) (slice_get-longer before (state ∷ []) m b at_m) e;
    first = λ n earlier s at l.
        let f = c.first n earlier s (slice_get-longer before (state ∷ []) n s at) l in
        let within : n < length before = slice_get_within before n s at in
        elim (push_cases before state f.0 f.1 f.3) [
          | inl old ↦ (f.0, f.1, f.2, old, f.4)
          | inr last ↦ absurd (let e = last.0 in let k = f.2 in omega arith)
        ];
  }

  below_more : (merged new : List (State Bits)) → AreMerged before merged → length merged ≤ length new → state.index.0 < length new → (n : ℕ) (s : State Bits) → slice_get grown n ≡ Some s → s.index.0 < length new
  below_more merged new a longer within n s at = elim (push_cases before state n s at) [
    | inl old ↦ let b = a.below n s old in omega arith
    | inr last ↦ let e : state.index.0 ≡ s.index.0 = ap (λ (x : State Bits). x.index.0) last.1 in omega arith
  ]

  pub Joined-merged : (merged new : List (State Bits)) → CanMerge grown → AreMerged before merged → IsPlacedAt state merged new → AreMerged grown new
  Joined-merged merged new c a p = record {
    below = below_more merged new a (let e = p.counted in omega arith) (slice_get_within new state.index.0 p.joined p.is);
    each = λ k m at. elim (cases_eq k state.index.0) [
      | inl here ↦
          let same : p.joined ≡ m = same_some p.joined m (sym p.is ∙ ap (slice_get new) (sym here) ∙ at) in
          let old = a.each state.index.0 p.merged p.was in
          let all = Merges-more (HasNumber before state.index.0) (HasNumber grown state.index.0) state (stays state.index.0) came (from state.index.0) state.index.0 p.merged p.joined old p.join
          (λ s h. c.alike h.0 (length before) s state (slice_get-longer before (state ∷ []) h.0 s h.1) (slice_get-push_at before state) h.2) in
          subst (λ (j : ℕ). Merges (HasNumber grown j) j m) (sym here) (subst (Merges (HasNumber grown state.index.0) state.index.0) same all)
      | inr other ↦ Merges-same (HasNumber before k) (HasNumber grown k) k m (stays k) (not_other k other) (a.each k m (sym (p.others k other) ∙ at))
    ];
  }

  pub Pushed-merged : (merged : List (State Bits)) → CanMerge grown → AreMerged before merged → length merged ≤ state.index.0 → AreMerged grown (merged ++ state ∷ [])
  Pushed-merged merged c a past =
      let next : state.index.0 ≡ length merged = elim (cases_lt (length merged) state.index.0) [
        | inl less ↦
            let f = c.first (length before) (length merged) state (slice_get-push_at before state) less in
            elim (push_cases before state f.0 f.1 f.3) [
              | inl old ↦ absurd (let b = a.below f.0 f.1 old in let e = f.4 in omega arith)
              | inr last ↦ absurd (let e = last.0 in let k = f.2 in omega arith)
            ]
        | inr least ↦ omega arith
      ] in
      let longer : length (merged ++ state ∷ []) ≡ length merged + 1 = length-append merged (state ∷ []) in
      record {
        below = below_more merged (merged ++ state ∷ []) a (omega arith) (omega arith);
        each = λ k m at. elim (push_cases merged state k m at) [
          | inl old ↦
              let within : k < length merged = slice_get_within merged k m old in
              Merges-same (HasNumber before k) (HasNumber grown k) k m (stays k) (not_other k (λ e. omega arith)) (a.each k m old)
          | inr last ↦
              let place : state.index.0 ≡ k = next ∙ sym last.0 in
              let one = Merges-one (HasNumber grown state.index.0) state.index.0 state refl came (λ s h. elim (from state.index.0 s h) [
                | inl old ↦ absurd (let b = a.below old.0 s old.1 in let e = old.2 in omega arith)
                | inr e ↦ e
              ]) in
              subst (λ (j : ℕ). Merges (HasNumber grown j) j m) place (subst (Merges (HasNumber grown state.index.0) state.index.0) last.1 one)
        ];
      }

nothing_merged : AreMerged [] []
nothing_merged = record { below = λ n s at. cc; each = λ k m at. cc }

-- states that were placed one after the other are merged
pub Placed-merged : {states merged : List (State Bits)} → ArePlaced states merged → CanMerge states → AreMerged states merged
Placed-merged none c = nothing_merged
Placed-merged (pushed {before} {merged} {all} {new} state placed past e f) c =
    let all_can = subst CanMerge e c in
    let a = Pushed-merged before state merged all_can (Placed-merged placed (front before state all_can)) past in
    subst (λ (xs : List (State Bits)). AreMerged xs new) (sym e) (subst (AreMerged (before ++ state ∷ [])) (sym f) a)
Placed-merged (joined {before} {merged} {all} {new} state placed p e) c =
    let all_can = subst CanMerge e c in
    let a = Joined-merged before state merged new all_can (Placed-merged placed (front before state all_can)) p in
    subst (λ (xs : List (State Bits)). AreMerged xs new) (sym e) a
