-- The first shortest and the last longest lists, as loops find them.
use Rattle.std.proofs.Common.{◌≡◌, ℕ, zero, suc, ◌<◌, ◌≤◌, ◌⊎◌, inl, inr, ⊎_elim, Bool, true, false, List, [], ◌∷◌, ◌++◌, map, length, refl, sym, ◌∙◌, ap, subst, arith, append_assoc, drop, get_or}
use Rattle.std.specs.Prelude.{cond, nat_lt, slice_get, Option, Some, None, unwrap_or}
use Rattle.std.proofs.lemmas.List.{append-nil, drop_all}
use Rattle.std.proofs.lemmas.Bool.{cases_Bool, ltb-true, ltb-false, lt-ltb}
use Rattle.lalrpop_states.specs.Words.{Dotted, IsLastLongest, IsFirstShortest, IsFirstShortestOrEmpty, prefix_of, nonterminal_of, has_moved, moved, AreAll, shorter_of}
use Rattle.lalrpop_states.specs.Words.{longer_of, shortest_from, longest_from}
use Rattle.lalrpop_collections.specs.Words.{EachItem}
use Rattle.lalrpop_states.proofs.Types.{NonterminalString, Symbol}

module _ {X : Type 0} where
  -- an element of a list with one more at its end is an element of the list, or the last one
  pub get_pushed : (xs : List X) (x : X) (k : ℕ) (y : X) → slice_get (xs ++ x ∷ []) k ≡ Some y → ((k < length xs) × (slice_get xs k ≡ Some y)) ⊎ ((k ≡ length xs) × (x ≡ y))
  get_pushed [] x zero y at = inr (refl, ap (λ o. unwrap_or o x) at)
  get_pushed [] x (suc k) y at = cc
  get_pushed (z ∷ xs) x zero y at = inl (omega arith, at)
  get_pushed (z ∷ xs) x (suc k) y at = ⊎_elim (λ a. inl (omega (arith, a.0), a.1)) (λ a. inr (omega (arith, a.0), a.1)) (get_pushed xs x k y at)

  pub get_before_push : (xs : List X) (x : X) (k : ℕ) (y : X) → slice_get xs k ≡ Some y → slice_get (xs ++ x ∷ []) k ≡ Some y
  get_before_push [] x k y at = cc
  get_before_push (z ∷ xs) x zero y at = at
  get_before_push (z ∷ xs) x (suc k) y at = get_before_push xs x k y at

  pub get_push : (xs : List X) (x : X) → slice_get (xs ++ x ∷ []) (length xs) ≡ Some x
  get_push [] x = refl
  get_push (z ∷ xs) x = get_push xs x

  get_below : (xs : List X) (k : ℕ) (y : X) → slice_get xs k ≡ Some y → k < length xs
  get_below [] k y at = cc
  get_below (z ∷ xs) zero y at = omega arith
  get_below (z ∷ xs) (suc k) y at = omega (arith, get_below xs k y at)

-- the best list so far is the first shortest of the lists, or none if there are no lists
abbrev IsBestSoFar : {X : Type 0} → List (List X) → Option (List X) → Type 0
IsBestSoFar lists None = lists ≡ []
IsBestSoFar lists (Some best) = IsFirstShortest lists best

module _ {X : Type 0} where
  best_alone : (next : List X) → IsFirstShortest (next ∷ []) next
  best_alone next = record {
    place = 0;
    there = refl;
    shortest = λ k other at. ⊎_elim (λ a. absurd (omega (arith, a.0))) (λ a. omega (arith, ap length a.1)) (get_pushed [] next k other at);
    first = λ k other l at. absurd (omega arith);
  }

  shorter_next : (lists : List (List X)) (best next : List X) → IsFirstShortest lists best → length next < length best → IsFirstShortest (lists ++ next ∷ []) next
  shorter_next lists best next h l = record {
    place = length lists;
    there = get_push lists next;
    shortest = λ k other at. ⊎_elim (λ a. omega (arith, h.shortest k other a.1)) (λ a. omega (arith, ap length a.1)) (get_pushed lists next k other at);
    first = λ k other less at. ⊎_elim (λ a. omega (arith, h.shortest k other a.1)) (λ a. absurd (omega (arith, a.0))) (get_pushed lists next k other at);
  }

  shorter_kept : (lists : List (List X)) (best next : List X) → IsFirstShortest lists best → length best ≤ length next → IsFirstShortest (lists ++ next ∷ []) best
  shorter_kept lists best next h l = record {
    place = h.place;
    there = get_before_push lists next h.place best h.there;
    shortest = λ k other at. ⊎_elim (λ a. h.shortest k other a.1) (λ a. omega (arith, ap length a.1)) (get_pushed lists next k other at);
    first = λ k other less at. ⊎_elim (λ a. h.first k other less a.1) (λ a. absurd (omega (arith, a.0, get_below lists h.place best h.there))) (get_pushed lists next k other at);
  }

  best_more : (lists : List (List X)) (best : Option (List X)) (next : List X) → IsBestSoFar lists best → IsBestSoFar (lists ++ next ∷ []) (shorter_of best next)
  best_more lists None next h = rw h (best_alone next)
  best_more lists (Some best) next h =
      ⊎_elim
      (λ t. rw t (shorter_next lists best next h (ltb-true _ _ t)))
      (λ f. rw f (shorter_kept lists best next h (ltb-false _ _ f)))
      (cases_Bool (nat_lt (length next) (length best)))

  abbrev shortest_of : Option (List X) → List (List X) → Option (List X)
  shortest_of best [] = best
  shortest_of best (next ∷ lists) = shortest_of (shorter_of best next) lists

  best_all : (done lists : List (List X)) (best : Option (List X)) → IsBestSoFar done best → IsBestSoFar (done ++ lists) (shortest_of best lists)
  best_all done [] best h = subst (λ (ls : List (List X)). IsBestSoFar ls best) (sym (append-nil done)) h
  best_all done (next ∷ lists) best h =
      subst (λ (ls : List (List X)). IsBestSoFar ls (shortest_of (shorter_of best next) lists)) (append_assoc done (next ∷ []) lists)
      (best_all (done ++ next ∷ []) lists (shorter_of best next) (best_more done best next h))

  or_empty : (lists : List (List X)) (best : Option (List X)) → IsBestSoFar lists best → IsFirstShortestOrEmpty lists (unwrap_or best [])
  or_empty [] None h = refl
  or_empty [] (Some best) h = let none : slice_get [] h.place ≡ Some best = h.there in cc
  or_empty (first ∷ lists) None h = cc
  or_empty (first ∷ lists) (Some best) h = h

module _ {L : Type 0} where
  shortest_lists : (view : Dotted L → List Symbol) (best : Option (List Symbol)) (items : List (Dotted L)) → shortest_from view best items ≡ shortest_of best (map view (moved items))
  shortest_lists view best [] = refl
  shortest_lists view best (item ∷ items) =
      elim (has_moved item) as (λ t. shortest_from view (cond t (shorter_of best (view item)) best) items ≡ shortest_of best (map view (cond t (item ∷ moved items) (moved items)))) [
        | true ↦ shortest_lists view (shorter_of best (view item)) items
        | false ↦ shortest_lists view best items
      ]

  -- the fold over the items gives the first shortest list
  pub shortest_is : (view : Dotted L → List Symbol) (items : List (Dotted L)) → IsFirstShortestOrEmpty (map view (moved items)) (unwrap_or (shortest_from view None items) [])
  shortest_is view items =
      subst (λ (o : Option (List Symbol)). IsFirstShortestOrEmpty (map view (moved items)) (unwrap_or o [])) (sym (shortest_lists view None items))
      (or_empty (map view (moved items)) (shortest_of None (map view (moved items))) (best_all [] (map view (moved items)) None refl))

module _ {X : Type 0} where
  longest_alone : (next : List X) → IsLastLongest (next ∷ []) next
  longest_alone next = record {
    place = 0;
    there = refl;
    longest = λ k other at. ⊎_elim (λ a. absurd (omega (arith, a.0))) (λ a. omega (arith, ap length a.1)) (get_pushed [] next k other at);
    last = λ k other l at. ⊎_elim (λ a. absurd (omega (arith, a.0))) (λ a. absurd (omega (arith, a.0))) (get_pushed [] next k other at);
  }

  longer_next : (lists : List (List X)) (best next : List X) → IsLastLongest lists best → length best ≤ length next → IsLastLongest (lists ++ next ∷ []) next
  longer_next lists best next h l = record {
    place = length lists;
    there = get_push lists next;
    longest = λ k other at. ⊎_elim (λ a. omega (arith, h.longest k other a.1)) (λ a. omega (arith, ap length a.1)) (get_pushed lists next k other at);
    last = λ k other less at. ⊎_elim (λ a. absurd (omega (arith, a.0))) (λ a. absurd (omega (arith, a.0))) (get_pushed lists next k other at);
  }

  longer_kept : (lists : List (List X)) (best next : List X) → IsLastLongest lists best → length next < length best → IsLastLongest (lists ++ next ∷ []) best
  longer_kept lists best next h l = record {
    place = h.place;
    there = get_before_push lists next h.place best h.there;
    longest = λ k other at. ⊎_elim (λ a. h.longest k other a.1) (λ a. omega (arith, ap length a.1)) (get_pushed lists next k other at);
    last = λ k other less at. ⊎_elim (λ a. h.last k other less a.1) (λ a. omega (arith, ap length a.1)) (get_pushed lists next k other at);
  }

  longest_more : (lists : List (List X)) (best next : List X) → IsLastLongest lists best → IsLastLongest (lists ++ next ∷ []) (longer_of best next)
  longest_more lists best next h =
      ⊎_elim
      (λ t. rw t (longer_kept lists best next h (ltb-true _ _ t)))
      (λ f. rw f (longer_next lists best next h (ltb-false _ _ f)))
      (cases_Bool (nat_lt (length next) (length best)))

longer_itself : (list : List Symbol) → longer_of list list ≡ list
longer_itself list = elim (nat_lt (length list) (length list)) as (λ t. cond t list list ≡ list) [ true ↦ refl | false ↦ refl ]

module _ {L : Type 0} where
  longest_all : (done : List (List Symbol)) (best : List Symbol) (items : List (Dotted L)) → IsLastLongest done best → IsLastLongest (done ++ map prefix_of items) (longest_from best items)
  longest_all done best [] h = subst (λ (ls : List (List Symbol)). IsLastLongest ls best) (sym (append-nil done)) h
  longest_all done best (item ∷ items) h =
      subst (λ (ls : List (List Symbol)). IsLastLongest ls (longest_from (longer_of best (prefix_of item)) items)) (append_assoc done (prefix_of item ∷ []) (map prefix_of items))
      (longest_all (done ++ prefix_of item ∷ []) (longer_of best (prefix_of item)) items (longest_more done best (prefix_of item) h))

  -- the fold over the items gives the last longest prefix
  pub longest_is : (first : Dotted L) (items : List (Dotted L)) → IsLastLongest (map prefix_of (first ∷ items)) (longest_from (prefix_of first) (first ∷ items))
  longest_is first items =
      subst (λ (b : List Symbol). IsLastLongest (map prefix_of (first ∷ items)) (longest_from b items)) (sym (longer_itself (prefix_of first)))
      (longest_all (prefix_of first ∷ []) (prefix_of first) items (longest_alone (prefix_of first)))

first_of : {X : Type 0} (xs : List X) → 0 < length xs → (x : X) × (slice_get xs 0 ≡ Some x)
first_of [] l = absurd (omega arith)
first_of (x ∷ xs) l = (x, refl)

module _ {L : Type 0} where
  -- the fold after the last item
  pub shortest_end : (view : Dotted L → List Symbol) (items : List (Dotted L)) (i : ℕ) (best : Option (List Symbol)) → length items ≤ i →
      shortest_from view best (drop i items) ≡ shortest_from view None items → IsFirstShortestOrEmpty (map view (moved items)) (unwrap_or best [])
  shortest_end view items i best l h =
      subst (λ (o : Option (List Symbol)). IsFirstShortestOrEmpty (map view (moved items)) (unwrap_or o []))
      (sym (ap (λ (rest : List (Dotted L)). shortest_from view best rest) (sym (drop_all i items l)) ∙ h)) (shortest_is view items)

  longest_start : (items : List (Dotted L)) (first : Dotted L) → 0 < length items → first ≡ get_or items 0 first → IsLastLongest (map prefix_of items) (longest_from (prefix_of first) items)
  longest_start [] first l is = absurd (omega arith)
  longest_start (item ∷ items) first l is = rw is (longest_is item items)

  pub longest_end : (items : List (Dotted L)) (first : Dotted L) (start best : List Symbol) (i : ℕ) → 0 < length items → first ≡ get_or items 0 first → start ≡ prefix_of first →
      length items ≤ i → longest_from best (drop i items) ≡ longest_from start items → IsLastLongest (map prefix_of items) best
  longest_end items first start best i some is e l h =
      subst (λ (b : List Symbol). IsLastLongest (map prefix_of items) b)
      (sym (ap (λ (rest : List (Dotted L)). longest_from best rest) (sym (drop_all i items l)) ∙ h ∙ ap (λ (b : List Symbol). longest_from b items) e)) (longest_start items first some is)

-- the names of the items whose dot is past the start
module _ {L : Type 0} where
  abbrev Named : List (Dotted L) → NonterminalString → Type 0
  Named items name = (j : ℕ) × (item : Dotted L) × (slice_get items j ≡ Some item) × (has_moved item ≡ true) × (nonterminal_of item ≡ name)

  named_later : (first : Dotted L) (items : List (Dotted L)) (name : NonterminalString) → Named items name → Named (first ∷ items) name
  named_later first items name (j, item, there, past, same) = (suc j, item, there, past, same)

  named_head : (first : Dotted L) (items : List (Dotted L)) (name : NonterminalString) → ((k : ℕ) → slice_get (map nonterminal_of (moved items)) k ≡ Some name → Named items name) →
      (t : Bool) → has_moved first ≡ t → (k : ℕ) → slice_get (map nonterminal_of (cond t (first ∷ moved items) (moved items))) k ≡ Some name → Named (first ∷ items) name
  named_head first items name later true is zero at = (0, first, refl, is, ap (λ o. unwrap_or o (nonterminal_of first)) at)
  named_head first items name later true is (suc k) at = named_later first items name (later k at)
  named_head first items name later false is k at = named_later first items name (later k at)

  -- each name is that of an item whose dot is past the start
  name_from : (items : List (Dotted L)) (name : NonterminalString) (k : ℕ) → slice_get (map nonterminal_of (moved items)) k ≡ Some name → Named items name
  name_from [] name k at = cc
  name_from (item ∷ items) name k at = named_head item items name (name_from items name) (has_moved item) refl k at

  abbrev Listed : List (Dotted L) → Dotted L → Type 0
  Listed items item = (k : ℕ) × (slice_get (map nonterminal_of (moved items)) k ≡ Some (nonterminal_of item))

  listed_later : (first : Dotted L) (items : List (Dotted L)) (item : Dotted L) → Listed items item → (t : Bool) → (k : ℕ) × (slice_get (map nonterminal_of (cond t (first ∷ moved items) (moved items))) k ≡ Some (nonterminal_of item))
  listed_later first items item (k, at) true = (suc k, at)
  listed_later first items item (k, at) false = (k, at)

  listed_here : (first item : Dotted L) (items : List (Dotted L)) → first ≡ item → (t : Bool) → t ≡ true → (k : ℕ) × (slice_get (map nonterminal_of (cond t (first ∷ moved items) (moved items))) k ≡ Some (nonterminal_of item))
  listed_here first item items e true h = (0, ap (λ i. Some (nonterminal_of i)) e)
  listed_here first item items e false h = cc

  -- the name of each item whose dot is past the start is listed
  name_into : (items : List (Dotted L)) (j : ℕ) (item : Dotted L) → slice_get items j ≡ Some item → has_moved item ≡ true → Listed items item
  name_into [] j item at past = cc
  name_into (first ∷ items) zero item at past =
      let same : first ≡ item = ap (λ o. unwrap_or o first) at in listed_here first item items same (has_moved first) (ap has_moved same ∙ past)
  name_into (first ∷ items) (suc j) item at past = listed_later first items item (name_into items j item at past) (has_moved first)

  pub all_named : (items : List (Dotted L)) (k : ℕ) (item : Dotted L) (name : NonterminalString) → slice_get items k ≡ Some item → 0 < item.index → nonterminal_of item ≡ name →
      EachItem (λ (other : Dotted L). 0 < other.index → other.production.nonterminal ≡ name) items → AreAll (map nonterminal_of (moved items)) name
  all_named items k item name at past same each = record {
    some = let listed = name_into items k item at (lt-ltb _ _ past) in omega (arith, get_below (map nonterminal_of (moved items)) listed.0 (nonterminal_of item) listed.1);
    each = λ j other there. let from = name_from items other j there in sym from.4 ∙ each from.0 from.1 from.2 (ltb-true _ _ from.3);
  }

  pub each_named : (items : List (Dotted L)) (k : ℕ) (item : Dotted L) (name : NonterminalString) → slice_get items k ≡ Some item → 0 < item.index → nonterminal_of item ≡ name →
      (all : NonterminalString) → AreAll (map nonterminal_of (moved items)) all → EachItem (λ (other : Dotted L). 0 < other.index → other.production.nonterminal ≡ name) items
  each_named items k item name at past same all h j other there moved_too =
      let here = name_into items k item at (lt-ltb _ _ past) in
      let listed = name_into items j other there (lt-ltb _ _ moved_too) in
      h.each listed.0 (nonterminal_of other) listed.1 ∙ sym (h.each here.0 (nonterminal_of item) here.1) ∙ same

  pub none_named : (items : List (Dotted L)) → EachItem (λ (item : Dotted L). item.index ≡ 0) items → (name : NonterminalString) → AreAll (map nonterminal_of (moved items)) name → ⊥
  none_named items each name all =
      let first = first_of (map nonterminal_of (moved items)) all.some in
      let from = name_from items first.0 0 first.1 in
      omega (arith, each from.0 from.1 from.2, ltb-true _ _ from.3)
