-- Columns of tokens: tokens that are joined to one of them, unions, and the columns that reductions
-- take.
use Rattle.std.proofs.Common.{◌≡◌, ◌==◌, ℕ, ◌+◌, ◌<◌, ◌≤◌, ◌⊎◌, inl, inr, ⊎_elim, true, cond, List, [], ◌∷◌, ◌++◌, length, Option, None, Some, refl, sym, ap, subst, ◌∙◌, arith, eq-eqb, eqb-true, drop, zero, suc, length-append}
use Rattle.std.specs.Prelude.{slice_get, option_map, Contains}
use Rattle.std.specs.Borrow.{Bor}
use Rattle.std.proofs.lemmas.Bool.{cases_Bool, cases_lt, or_cases}
use Rattle.std.proofs.lemmas.Option.{slice_get_within}
use Rattle.lalrpop_base.specs.Words.{Bits, has, join, has-join}
use Rattle.lalrpop_lanes.specs.Words.{HasAt, MeetsOther, IsJoinedIn, IsUnion, MeetInUnion, AreDisjoint, IsReductionAt, TookColumn, Reduces}
use Rattle.lalrpop_lanes.proofs.Types.{Action, Production}
use Rattle.lalrpop_states.specs.declared.lr1_core.state.Action.TheVariants.{Reduce}
use Rattle.lalrpop_collections.proofs.theory.lists.Members.{place}
use Rattle.lalrpop_collections.proofs.theory.lists.Places.{same_some, contains_at, filled, places_apart, push_cases}

-- no column below n, other than the one with the index, shares a token with the set
abbrev pub AreApartUntil : List Bits → ℕ → Bits → ℕ → Type 0
AreApartUntil columns index tokens n = (k bit : ℕ) → k < n → (k ≡ index → ⊥) → HasAt columns k bit → has tokens bit ≡ true → ⊥

pub apart_more : (columns : List Bits) (index : ℕ) (tokens : Bits) (n : ℕ) → AreApartUntil columns index tokens n → ((n ≡ index → ⊥) → (bit : ℕ) → HasAt columns n bit → has tokens bit ≡ true → ⊥) → AreApartUntil columns index tokens (n + 1)
apart_more columns index tokens n before here k bit l ne h t = ⊎_elim
    (λ less. before k bit less ne h t)
    (λ most. let same : k ≡ n = omega arith in here (λ e. ne (same ∙ e)) bit (subst (λ i. HasAt columns i bit) same h) t)
    (cases_lt k n)

pub apart_all : (columns : List Bits) (index : ℕ) (tokens : Bits) (n : ℕ) → length columns ≤ n → AreApartUntil columns index tokens n → ¬ MeetsOther columns index tokens
apart_all columns index tokens n l before m = before m.other m.bit (let w = slice_get_within columns m.other m.there.0 m.there.1 in omega arith) m.apart m.there m.shared

unmapped : (o : Option Bits) → option_map (λ (set : Bits). set) o ≡ o
unmapped None = refl
unmapped (Some s) = refl

-- ---- tokens joined to a column
module _ (index : ℕ) (tokens : Bits) (old new : List Bits) (j : IsJoinedIn index tokens old new) where
  pub at_index : (s : Bits) → slice_get old index ≡ Some s → slice_get new index ≡ Some (join s tokens)
  at_index s h = j.joined index ∙ ap (option_map (λ (set : Bits). cond (index == index) (join set tokens) set)) h ∙ ap (λ b. Some (cond b (join s tokens) s)) (eq-eqb index index refl)

  pub at_other : (k : ℕ) (s : Bits) → (k ≡ index → ⊥) → slice_get old k ≡ Some s → slice_get new k ≡ Some s
  at_other k s ne h = j.joined k ∙ ap (option_map (λ (set : Bits). cond (k == index) (join set tokens) set)) h ∙
      ⊎_elim (λ t. absurd (ne (eqb-true k index t))) (λ f. ap (λ b. Some (cond b (join s tokens) s)) f) (cases_Bool (k == index))

  pub other_kept : (k : ℕ) → (k ≡ index → ⊥) → slice_get new k ≡ slice_get old k
  other_kept k ne = j.joined k ∙ ⊎_elim (λ t. absurd (ne (eqb-true k index t))) (λ f. ap (λ b. option_map (λ (set : Bits). cond b (join set tokens) set) (slice_get old k)) f ∙ unmapped (slice_get old k)) (cases_Bool (k == index))

  -- a token of the new columns is an old one, or was joined
  pub had_or_joined : (i bit : ℕ) → HasAt new i bit → HasAt old i bit ⊎ ((i ≡ index) × (has tokens bit ≡ true))
  had_or_joined i bit h =
      let w : i < length new = slice_get_within new i h.0 h.1 in
      let s = filled old i (omega (arith, j.counted)) in
      ⊎_elim
      (λ t. let here : i ≡ index = eqb-true i index t in
      let was : slice_get old index ≡ Some s.0 = subst (λ k. slice_get old k ≡ Some s.0) here s.1 in
      let is : h.0 ≡ join s.0 tokens = same_some _ _ (sym h.1 ∙ ap (slice_get new) here ∙ at_index s.0 was) in
      ⊎_elim (λ o. inl (s.0, s.1, o)) (λ n. inr (here, n)) (or_cases (has s.0 bit) (has tokens bit) (sym (has-join s.0 tokens bit) ∙ sym (ap (λ x. has x bit) is) ∙ h.2)))
      (λ f. let ne : i ≡ index → ⊥ = λ e. let y : (i == index) ≡ true = eq-eqb i index e in cc in
      let is : h.0 ≡ s.0 = same_some _ _ (sym h.1 ∙ at_other i s.0 ne s.1) in
      inl (s.0, s.1, sym (ap (λ x. has x bit) is) ∙ h.2))
      (cases_Bool (i == index))

  pub still_has : (i bit : ℕ) → HasAt old i bit → HasAt new i bit
  still_has i bit h = ⊎_elim
      (λ t. let here : i ≡ index = eqb-true i index t in
      let was : slice_get old index ≡ Some h.0 = subst (λ k. slice_get old k ≡ Some h.0) here h.1 in
      (join h.0 tokens, ap (slice_get new) here ∙ at_index h.0 was, has-join h.0 tokens bit ∙ grind (arith, h.2)))
      (λ f. let ne : i ≡ index → ⊥ = λ e. let y : (i == index) ≡ true = eq-eqb i index e in cc in
      (h.0, at_other i h.0 ne h.1, h.2))
      (cases_Bool (i == index))

  pub has_joined : (bit : ℕ) → index < length old → has tokens bit ≡ true → HasAt new index bit
  has_joined bit l t = let s = filled old index l in (join s.0 tokens, at_index s.0 s.1, has-join s.0 tokens bit ∙ grind (arith, t))

  pub still_disjoint : ¬ MeetsOther old index tokens → AreDisjoint old → AreDisjoint new
  still_disjoint apart disjoint i k bit here there = ⊎_elim
      (λ a. ⊎_elim
      (λ b. disjoint i k bit a b)
      (λ b. ⊎_elim (λ e. eqb-true i k e) (λ f. absurd (apart (record { other = i; apart = λ e. let y : (i == k) ≡ true = eq-eqb i k (e ∙ sym b.0) in cc; bit = bit; there = a; shared = b.1 }))) (cases_Bool (i == k)))
      (had_or_joined k bit there))
      (λ a. ⊎_elim
      (λ b. ⊎_elim (λ e. eqb-true i k e) (λ f. absurd (apart (record { other = k; apart = λ e. let y : (i == k) ≡ true = eq-eqb i k (a.0 ∙ sym e) in cc; bit = bit; there = b; shared = a.1 }))) (cases_Bool (i == k)))
      (λ b. a.0 ∙ sym b.0)
      (had_or_joined k bit there))
      (had_or_joined i bit here)

-- ---- the columns of two context sets, joined as far as n
pub record IsUnionUntil (a b union : List Bits) (n : ℕ) : Type 0 where
  pub counted : length union ≡ length a
  pub joined : (k : ℕ) (s t : Bits) → k < n → slice_get a k ≡ Some s → slice_get b k ≡ Some t → slice_get union k ≡ Some (join s t)
  pub kept : (k : ℕ) → n ≤ k → slice_get union k ≡ slice_get a k
  pub apart_first : (i other bit : ℕ) → i < n → (other ≡ i → ⊥) → HasAt b i bit → HasAt a other bit → ⊥
  pub apart_earlier : (i other bit : ℕ) → i < n → other < i → HasAt b i bit → HasAt b other bit → ⊥

module _ (a b union : List Bits) (n : ℕ) (u : IsUnionUntil a b union n) (same : length a ≡ length b) where
  pub in_union : (k bit : ℕ) → HasAt union k bit → HasAt a k bit ⊎ HasAt b k bit
  in_union k bit h =
      let w : k < length union = slice_get_within union k h.0 h.1 in
      let s = filled a k (omega (arith, u.counted)) in
      let t = filled b k (omega (arith, u.counted, same)) in
      ⊎_elim
      (λ l. let is : h.0 ≡ join s.0 t.0 = same_some _ _ (sym h.1 ∙ u.joined k s.0 t.0 l s.1 t.1) in
      ⊎_elim (λ x. inl (s.0, s.1, x)) (λ y. inr (t.0, t.1, y)) (or_cases (has s.0 bit) (has t.0 bit) (sym (has-join s.0 t.0 bit) ∙ sym (ap (λ x. has x bit) is) ∙ h.2)))
      (λ g. inl (h.0, sym (u.kept k g) ∙ h.1, h.2))
      (cases_lt k n)

  pub has_first : (k bit : ℕ) → HasAt a k bit → HasAt union k bit
  has_first k bit h =
      let w : k < length a = slice_get_within a k h.0 h.1 in
      let t = filled b k (omega (arith, same)) in
      ⊎_elim
      (λ l. (join h.0 t.0, u.joined k h.0 t.0 l h.1 t.1, has-join h.0 t.0 bit ∙ grind (arith, h.2)))
      (λ g. (h.0, u.kept k g ∙ h.1, h.2))
      (cases_lt k n)

  pub has_second : (k bit : ℕ) → k < n → HasAt b k bit → HasAt union k bit
  has_second k bit l h =
      let w : k < length b = slice_get_within b k h.0 h.1 in
      let s = filled a k (omega (arith, same)) in
      (join s.0 h.0, u.joined k s.0 h.0 l s.1 h.1, has-join s.0 h.0 bit ∙ grind (arith, h.2))

  module _ (t : Bits) (at : slice_get b n ≡ Some t) where
    pub union_meets : MeetsOther union n t → MeetInUnion a b
    union_meets m = record { index = n; other = m.other; apart = m.apart; bit = m.bit; here = (t, at, m.shared); there = in_union m.other m.bit m.there }

    bit_of : (bit : ℕ) → HasAt b n bit → has t bit ≡ true
    bit_of bit h = ap (λ s. has s bit) (same_some t h.0 (sym at ∙ h.1)) ∙ h.2

    module _ (new : List Bits) (j : IsJoinedIn n t union new) (apart : ¬ MeetsOther union n t) where
      joined_more : (k : ℕ) (s w : Bits) → k < n + 1 → slice_get a k ≡ Some s → slice_get b k ≡ Some w → slice_get new k ≡ Some (join s w)
      joined_more k s w l at_a at_b = ⊎_elim
          (λ less. at_other n t union new j k (join s w) (λ e. absurd (omega (arith, e, less))) (u.joined k s w less at_a at_b))
          (λ most. let here : k ≡ n = omega arith in
          let was : slice_get union n ≡ Some s = u.kept n (omega arith) ∙ sym (ap (slice_get a) here) ∙ at_a in
          let is : w ≡ t = same_some w t (sym at_b ∙ ap (slice_get b) here ∙ at) in
          ap (slice_get new) here ∙ at_index n t union new j s was ∙ ap (λ x. Some (join s x)) (sym is))
          (cases_lt k n)

      kept_more : (k : ℕ) → n + 1 ≤ k → slice_get new k ≡ slice_get a k
      kept_more k l = other_kept n t union new j k (λ e. absurd (omega (arith, e, l))) ∙ u.kept k (omega arith)

      first_more : (i other bit : ℕ) → i < n + 1 → (other ≡ i → ⊥) → HasAt b i bit → HasAt a other bit → ⊥
      first_more i other bit l ne here there = ⊎_elim
          (λ less. u.apart_first i other bit less ne here there)
          (λ most. let same_place : i ≡ n = omega arith in
          apart (record { other = other; apart = λ e. ne (e ∙ sym same_place); bit = bit; there = has_first other bit there; shared = bit_of bit (subst (λ k. HasAt b k bit) same_place here) }))
          (cases_lt i n)

      earlier_more : (i other bit : ℕ) → i < n + 1 → other < i → HasAt b i bit → HasAt b other bit → ⊥
      earlier_more i other bit l before here there = ⊎_elim
          (λ less. u.apart_earlier i other bit less before here there)
          (λ most. let same_place : i ≡ n = omega arith in
          apart (record { other = other; apart = λ e. absurd (omega (arith, e, before, same_place)); bit = bit; there = has_second other bit (omega (arith, before, same_place)) there; shared = bit_of bit (subst (λ k. HasAt b k bit) same_place here) }))
          (cases_lt i n)

      pub union_more : IsUnionUntil a b new (n + 1)
      union_more = record { counted = j.counted ∙ u.counted; joined = joined_more; kept = kept_more; apart_first = first_more; apart_earlier = earlier_more }

  pub union_all : length b ≤ n → IsUnion a b union
  union_all l = record { counted = u.counted; joined = λ k s t at_a at_b. u.joined k s t (let w = slice_get_within b k t at_b in omega arith) at_a at_b }

  pub union_apart : length b ≤ n → ¬ MeetInUnion a b
  union_apart l m =
      let w = slice_get_within b m.index m.here.0 m.here.1 in
      ⊎_elim
      (λ x. u.apart_first m.index m.other m.bit (omega arith) m.apart m.here x)
      (λ y. let v = slice_get_within b m.other y.0 y.1 in
      ⊎_elim
      (λ before. u.apart_earlier m.index m.other m.bit (omega arith) before m.here y)
      (λ r. ⊎_elim (λ behind. u.apart_earlier m.other m.index m.bit (omega arith) behind y m.here) (λ e. absurd (m.apart e)) r)
      (places_apart m.other m.index))
      m.there

-- ---- reductions that took their columns as far as n
pub record TookUntil (actions : List Action) (columns : List Bits) (old new : List (Bits × Bor Production)) (n : ℕ) : Type 0 where
  pub counted : length new ≡ n
  pub each : (k : ℕ) (r q : Bits × Bor Production) → slice_get old k ≡ Some r → slice_get new k ≡ Some q → TookColumn actions columns r q

-- the actions before the place n do not reduce by the production, and the rest is the list from
-- this place on
pub record IsNotBefore (actions rest : List Action) (n : ℕ) (p : Production) : Type 0 where
  pub is : rest ≡ drop n actions
  pub before : (k : ℕ) → k < n → IsReductionAt actions k p → ⊥

-- the head of the rest is the action at the place
pub stands_at : (actions rest left : List Action) (n : ℕ) (action : Action) → rest ≡ drop n actions → rest ≡ action ∷ left → slice_get actions n ≡ Some action
stands_at [] rest left zero action e f = cc
stands_at [] rest left (suc n) action e f = cc
stands_at (x ∷ xs) rest left zero action e f = ap (λ ys. slice_get ys 0) (sym e ∙ f)
stands_at (x ∷ xs) rest left (suc n) action e f = stands_at xs rest left n action e f

left_behind : (actions left : List Action) (n : ℕ) (action : Action) → drop n actions ≡ action ∷ left → left ≡ drop (suc n) actions
left_behind [] left zero action f = cc
left_behind [] left (suc n) action f = cc
left_behind (x ∷ xs) left zero action f = sym (ap (drop 1) f)
left_behind (x ∷ xs) left (suc n) action f = left_behind xs left n action f

pub reduction_there : (actions rest left : List Action) (n : ℕ) (action : Action) (p : Production) → IsNotBefore actions rest n p → rest ≡ action ∷ left → Reduces action p → IsReductionAt actions n p
reduction_there actions rest left n action p i e r = record { lent = r.0; action = stands_at actions rest left n action i.is e ∙ ap Some r.1; same = r.2 }

pub not_before_more : (actions rest left : List Action) (n : ℕ) (action : Action) (p : Production) → IsNotBefore actions rest n p → rest ≡ action ∷ left → ¬ Reduces action p → IsNotBefore actions left (n + 1) p
not_before_more actions rest left n action p i e other = record {
  is = left_behind actions left n action (sym i.is ∙ e) ∙ ap (λ m. drop m actions) (let e : suc n ≡ n + 1 = omega arith in e);
  before = λ k l r. ⊎_elim
      (λ less. i.before k less r)
      (λ most. let here : k ≡ n = omega arith in other (r.lent, same_some _ _ (sym (stands_at actions rest left n action i.is e) ∙ ap (slice_get actions) (sym here) ∙ r.action), r.same))
      (cases_lt k n);
}

none_past : (actions : List Action) (n k : ℕ) (action : Action) → drop n actions ≡ [] → slice_get actions k ≡ Some action → k < n
none_past [] n k action e h = cc
none_past (x ∷ xs) zero k action e h = cc
none_past (x ∷ xs) (suc n) zero action e h = omega arith
none_past (x ∷ xs) (suc n) (suc k) action e h = omega (arith, none_past xs n k action e h)

pub nowhere : (actions rest : List Action) (n : ℕ) (p : Production) → IsNotBefore actions rest n p → rest ≡ [] → (k : ℕ) → IsReductionAt actions k p → ⊥
nowhere actions rest n p i e k r = i.before k (none_past actions n k _ (sym i.is ∙ e) r.action) r

pub took_more : (actions : List Action) (columns : List Bits) (old new : List (Bits × Bor Production)) (n place : ℕ) (r : Bits × Bor Production) (column : Bits) →
    TookUntil actions columns old new n → slice_get old n ≡ Some r → IsReductionAt actions place r.1.now → slice_get columns place ≡ Some column → TookUntil actions columns old (new ++ (column, r.1) ∷ []) (n + 1)
took_more actions columns old new n place r column t at reduces there = record {
  counted = length-append new ((column, r.1) ∷ []) ∙ ap (λ m. m + 1) t.counted;
  each = λ k s q at_s at_q. ⊎_elim
      (λ before. t.each k s q at_s before)
      (λ last. let same : s ≡ r = same_some s r (sym at_s ∙ ap (slice_get old) (last.0 ∙ t.counted) ∙ at) in
      subst (λ (x : Bits × Bor Production). TookColumn actions columns x q) (sym same)
      (subst (λ (y : Bits × Bor Production). TookColumn actions columns r y) last.1 (record { same = refl; place = place; action = reduces; column = there })))
      (push_cases new (column, r.1) k q at_q);
}

-- ---- whether a reduction is among the actions
pub reduces_there : (actions : List Action) (action : Action) (p : Production) → Contains actions action → Reduces action p → (place : ℕ) × IsReductionAt actions place p
reduces_there actions action p c r = let k = place actions action c in (k.0, record { lent = r.0; action = k.2 ∙ ap Some r.1; same = r.2 })

pub reduces_nowhere : (actions : List Action) (p : Production) → ((a : Action) → Contains actions a → ¬ Reduces a p) → ((place : ℕ) × IsReductionAt actions place p) → ⊥
reduces_nowhere actions p none h = none (Reduce h.1.lent) (contains_at actions (Reduce h.1.lent) h.0 h.1.action) (h.1.lent, refl, h.1.same)
