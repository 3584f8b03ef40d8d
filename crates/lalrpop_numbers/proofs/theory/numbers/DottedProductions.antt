-- The list of the dotted productions of a grammar: productions ascend, and each has all its dots.
use Rattle.std.proofs.Common.{◌≡◌, ◌∙◌, ◌⊎◌, inl, inr, ℕ, zero, suc, ◌+◌, ◌<◌, ◌≤◌, List, [], ◌∷◌, ◌++◌, length, map, refl, sym, ap, subst, arith}
use Rattle.std.specs.Prelude.{◌↔◌, slice_get, Some, Contains}
use Rattle.std.specs.List.{flat_map}
use Rattle.std.specs.List.Sorted.{IsStrictlySortedBy}
use Rattle.std.specs.Map.{keys_of}
use Rattle.std.specs.Ordering.{nat_cmp, on, then_cmp}
use Rattle.std.specs.declared.cmp.Ordering.{Ordering}
use Rattle.std.proofs.lemmas.List.Elements.{Contains-append_left, Contains-append_right, Contains-append_cases}
use Rattle.std.proofs.lemmas.List.FromFn.{length-map-range_with_len, get_or-map-range_with_len}
use Rattle.std.proofs.lemmas.Option.{slice_get_within}
use Rattle.lalrpop_states.specs.Words.{Dotted, Ascend, Precedes, item_of, production_order, with_dot}
use Rattle.lalrpop_grammar.specs.Words.{IsLess, Rules}
use Rattle.lalrpop_numbers.specs.Words.{AddsThose, IsStartOf, all_dots, with_dots}
use Rattle.lalrpop_numbers.specs.Words.{AreItemsOf, MovesToNext}
use Rattle.lalrpop_states.specs.Words.{shifted}
use Rattle.lalrpop_numbers.proofs.Types.{Nil, Production}
use Rattle.lalrpop_states.specs.contracts.lookahead.nil.NilOrd.TheImpl as nil_ord
use Rattle.lalrpop_grammar.proofs.theory.conflicts.ConflictLists.{ordered-head, ordered-tail, ordered-nil, ordered-append}
use Rattle.lalrpop_collections.specs.lists.CheckSets.{IsAdded}
use Rattle.lalrpop_states.proofs.theory.grammars.AscendingItems.{Table-ascend}
use Rattle.lalrpop_collections.proofs.theory.lists.Bounded.{in_flat_map}
use Rattle.lalrpop_collections.proofs.theory.lists.Members.{contains-cons, contains_head, Contains-none, contains_tail, place, of_flat}
use Rattle.lalrpop_collections.proofs.theory.lists.Places.{contains_at, same_some, slice_get-longer, slice_get_at}

-- ---- values added to a list
module _ {X : Type 0} where
  pub those_none : (Such : X → Type 0) (old : List X) → ((x : X) → Such x → Contains old x) → AddsThose Such old old
  those_none Such old known x = (λ c. inl c, λ e. elim e [ inl c ↦ c | inr s ↦ known x s ])

  pub those_one : (Such : X → Type 0) (key : X) (old new : List X) → IsAdded key old new → Such key → ((x : X) → Such x → key ≡ x) → AddsThose Such old new
  those_one Such key old new added is only x = (
    λ c. elim (added.from x c) [ inl was ↦ inl was | inr e ↦ inr (subst Such e is) ],
    λ e. elim e [ inl was ↦ added.kept x was | inr s ↦ subst (Contains new) (only x s) added.there ],
  )

  pub those_both : (P Q R : X → Type 0) (old mid new : List X) → ((x : X) → R x ↔ (P x ⊎ Q x)) → AddsThose P old mid → AddsThose Q mid new → AddsThose R old new
  those_both P Q R old mid new either first second x = (
    λ c. elim ((second x).0 c) [
      | inl was ↦ elim ((first x).0 was) [ inl first_was ↦ inl first_was | inr p ↦ inr ((either x).1 (inl p)) ]
      | inr q ↦ inr ((either x).1 (inr q))
    ],
    λ e. elim e [
      | inl was ↦ (second x).1 (inl ((first x).1 (inl was)))
      | inr r ↦ elim ((either x).0 r) [ inl p ↦ (second x).1 (inl ((first x).1 (inr p))) | inr q ↦ (second x).1 (inr q) ]
    ],
  )

-- ---- productions with the dot at the start, added to a set
pub starts_none : (ks : List (Dotted Nil)) → AddsThose (IsStartOf []) ks ks
starts_none ks = those_none (IsStartOf []) ks (λ i s. absurd (Contains-none i.production s.0))

pub starts_both : (ps qs : List Production) (old mid new : List (Dotted Nil)) → AddsThose (IsStartOf ps) old mid → AddsThose (IsStartOf qs) mid new → AddsThose (IsStartOf (ps ++ qs)) old new
starts_both ps qs old mid new = those_both (IsStartOf ps) (IsStartOf qs) (IsStartOf (ps ++ qs)) old mid new (λ i. (
  λ s. elim (Contains-append_cases ps qs i.production s.0) [ inl p ↦ inl (p, s.1) | inr q ↦ inr (q, s.1) ],
  λ e. elim e [ inl p ↦ (Contains-append_left ps qs i.production p.0, p.1) | inr q ↦ (Contains-append_right ps qs i.production q.0, q.1) ],
))

start_one : (p : Production) (old new : List (Dotted Nil)) → IsAdded (with_dot p 0) old new → AddsThose (IsStartOf (p ∷ [])) old new
start_one p old new added = those_one (IsStartOf (p ∷ [])) (with_dot p 0) old new added (contains_head p [], refl) (λ i s. elim (contains-cons p [] i.production s.0) [
  | inl e ↦ ap (λ (q : Production). with_dot q 0) e ∙ ap (with_dot i.production) (sym s.1)
  | inr none ↦ absurd (Contains-none i.production none)
])

pub starts_more : (ps : List Production) (p : Production) (old mid new : List (Dotted Nil)) → AddsThose (IsStartOf ps) old mid → IsAdded (with_dot p 0) mid new → AddsThose (IsStartOf (ps ++ p ∷ [])) old new
starts_more ps p old mid new first added = starts_both ps (p ∷ []) old mid new first (start_one p mid new added)

-- ---- the keys of a set of dotted productions ascend
abbrev pub key_order : Dotted Nil → Dotted Nil → Ordering
key_order = then_cmp (on (λ (i : Dotted Nil). i.production) production_order) (then_cmp (on (λ (i : Dotted Nil). i.index) nat_cmp) (on (λ (i : Dotted Nil). i.lookahead) nil_ord.ghosts.cmp))

keys_paired : (ks : List (Dotted Nil)) → keys_of (map (λ (k : Dotted Nil). (k, k.lookahead)) ks) ≡ ks
keys_paired [] = refl
keys_paired (k ∷ ks) = ap (λ (l : List (Dotted Nil)). k ∷ l) (keys_paired ks)

items_paired : (ks : List (Dotted Nil)) → map item_of (map (λ (k : Dotted Nil). (k, k.lookahead)) ks) ≡ ks
items_paired [] = refl
items_paired (k ∷ ks) = ap (λ (l : List (Dotted Nil)). k ∷ l) (items_paired ks)

pub keys_ascend : (ks : List (Dotted Nil)) → IsStrictlySortedBy key_order ks → Ascend ks
keys_ascend ks sorted = subst Ascend (items_paired ks) (Table-ascend (map (λ (k : Dotted Nil). (k, k.lookahead)) ks) (subst (IsStrictlySortedBy key_order) (sym (keys_paired ks)) sorted))

-- ---- all dots of a production
dot_there : (p : Production) (k : ℕ) → k ≤ length p.symbols → slice_get (with_dots p) k ≡ Some (with_dot p k)
dot_there p k l =
    let count : length (with_dots p) ≡ length p.symbols + 1 = length-map-range_with_len (with_dot p) 0 (length p.symbols + 1) in
    slice_get_at (with_dots p) k (with_dot p k) (omega arith) (sym (get_or-map-range_with_len (with_dot p) 0 (length p.symbols + 1) k k (with_dot p k) (omega arith) (omega arith)))

dot_is : (p : Production) (k : ℕ) (i : Dotted Nil) → slice_get (with_dots p) k ≡ Some i → (k ≤ length p.symbols) × (with_dot p k ≡ i)
dot_is p k i at =
    let count : length (with_dots p) ≡ length p.symbols + 1 = length-map-range_with_len (with_dot p) 0 (length p.symbols + 1) in
    let within = slice_get_within (with_dots p) k i at in
    let l : k ≤ length p.symbols = omega arith in
    (l, same_some (with_dot p k) i (sym (dot_there p k l) ∙ at))

in_dots : (p : Production) (i : Dotted Nil) → Contains (with_dots p) i → (p ≡ i.production) × (i.index ≤ length p.symbols)
in_dots p i c =
    let k = place (with_dots p) i c in
    let is = dot_is p k.0 i k.2 in
    (ap (λ (j : Dotted Nil). j.production) is.1, subst (λ (j : Dotted Nil). j.index ≤ length p.symbols) is.1 is.0)

dots_ascend : (p : Production) → Ascend (with_dots p)
dots_ascend p i j x y l at_i at_j =
    let a = dot_is p i x at_i in
    let b = dot_is p j y at_j in
    subst (λ (z : Dotted Nil). Precedes x z) b.1 (subst (λ (z : Dotted Nil). Precedes z (with_dot p j)) a.1 (inr (refl, l)))

dots_move : (p : Production) → MovesToNext (with_dots p)
dots_move p k i at l =
    let a = dot_is p k i at in
    let short : k < length p.symbols = subst (λ (z : Dotted Nil). z.index < length z.production.symbols) (sym a.1) l in
    dot_there p (k + 1) (omega arith) ∙ ap (λ (z : Dotted Nil). Some (shifted z)) a.1

-- ---- one list after another
next_place : {A : Type 0} (x : A) (xs : List A) (k : ℕ) → slice_get (x ∷ xs) (suc k + 1) ≡ slice_get xs (k + 1)
next_place x xs k = let e : suc k + 1 ≡ suc (k + 1) = omega arith in ap (slice_get (x ∷ xs)) e

moves_append : (xs ys : List (Dotted Nil)) → MovesToNext xs → MovesToNext ys → MovesToNext (xs ++ ys)
moves_append [] ys first second k i at l = second k i at l
moves_append (x ∷ xs) ys first second zero i at l = slice_get-longer (x ∷ xs) ys (zero + 1) (shifted i) (first zero i at l)
moves_append (x ∷ xs) ys first second (suc k) i at l = next_place x (xs ++ ys) k ∙ moves_append xs ys (λ n j at_j m. sym (next_place x xs n) ∙ first (suc n) j at_j m) second k i at l

-- ---- all dots of productions in order
from_start : (i j x y : Dotted Nil) → i.index ≡ 0 → j.index ≡ 0 → Precedes i j → i.production ≡ x.production → j.production ≡ y.production → Precedes x y
from_start i j x y at_i at_j (inl less) e f = inl (subst (λ (q : Production). IsLess production_order x.production q) f (subst (λ (p : Production). IsLess production_order p j.production) e less))
from_start i j x y at_i at_j (inr same) e f = absurd (omega (arith, same.1))

pub listed_ascend : (ks : List (Dotted Nil)) → ((k : Dotted Nil) → Contains ks k → k.index ≡ 0) → Ascend ks → Ascend (flat_map all_dots ks)
listed_ascend [] fronts ascend = ordered-nil Precedes
listed_ascend (k ∷ ks) fronts ascend = ordered-append Precedes (all_dots k) (flat_map all_dots ks) (dots_ascend k.production) (listed_ascend ks (λ i c. fronts i (contains_tail k ks i c)) (ordered-tail Precedes k ks ascend)) across
  where
    across : (x y : Dotted Nil) → Contains (all_dots k) x → Contains (flat_map all_dots ks) y → Precedes x y
    across x y c d =
        let j = of_flat all_dots ks y d in
        from_start k j.0 x y (fronts k (contains_head k ks)) (fronts j.0 (contains_tail k ks j.0 j.1)) (ordered-head Precedes k ks ascend j.0 j.1) (in_dots k.production x c).0 (in_dots j.0.production y j.2).0

pub listed_move : (ks : List (Dotted Nil)) → MovesToNext (flat_map all_dots ks)
listed_move [] k i at l = cc
listed_move (j ∷ ks) k i at l = moves_append (all_dots j) (flat_map all_dots ks) (dots_move j.production) (listed_move ks) k i at l

-- the dots of all productions are the dotted productions of the grammar
pub listed_items : (g : Rules) (ks items : List (Dotted Nil)) → AddsThose (IsStartOf g.productions) [] ks → Ascend ks → items ≡ flat_map all_dots ks → AreItemsOf g items
listed_items g ks items starts ascend is = rw is (record {
  each = λ i c.
      let j = of_flat all_dots ks i c in
      let d = in_dots j.0.production i j.2 in
      (subst (Contains g.productions) d.0 (start j.0 j.1).0, subst (λ (p : Production). i.index ≤ length p.symbols) d.0 d.1);
  all = λ p dot c l. in_flat_map all_dots ks (with_dot p 0) (with_dot p dot) ((starts (with_dot p 0)).1 (inr (c, refl))) (contains_at (with_dots p) (with_dot p dot) dot (dot_there p dot l));
  ascend = listed_ascend ks (λ k c. (start k c).1) ascend;
})
  where
    start : (k : Dotted Nil) → Contains ks k → IsStartOf g.productions k
    start k c = elim ((starts k).0 c) [ inl none ↦ absurd (Contains-none k none) | inr s ↦ s ]
