-- The numbers of the items of states, as the construction makes them.
use Rattle.std.proofs.Common.{◌≡◌, ◌∙◌, ℕ, List, length, map, sym, ap, subst, arith, Some, ◌<◌}
use Rattle.std.specs.Prelude.{slice_get, option_map, Contains}
use Rattle.std.proofs.lemmas.List.{length-map}
use Rattle.std.proofs.lemmas.Option.{slice_get_within, slice_get-map}
use Rattle.lalrpop_base.specs.Words.{AllDiffer, Dotted, InKernel, with_dot, dotted_at, item_by, items_by, Ascend}
use Rattle.lalrpop_states.specs.states.Items.{dotted_of}
use Rattle.lalrpop_collections.proofs.theory.lists.Members.{contains_map, place}
use Rattle.lalrpop_collections.proofs.theory.lists.Places.{contains_at, filled, one_place, same_some}
use Rattle.lr1_theory.proofs.theory.grammars.Tables.{same_lr0}
use Rattle.lalrpop_collections.proofs.theory.lists.Lists.{contains_of_map, some_of_map}
use Rattle.lalrpop_construction.proofs.Types.{Nil, Production}
use Rattle.lalrpop_construction.proofs.theory.numbers.Numbers.{stands_at}
use Rattle.lalrpop_construction.proofs.theory.states.NumberedItems.{AreNumbered}
use Rattle.lalrpop_states.proofs.theory.grammars.AscendingItems.{items_differ}
use Rattle.lalrpop_construction.proofs.theory.construction.Shifting.{of_dotted}
use Rattle.lalrpop_numbers.specs.numbers.Numbers as numbers
use Rattle.lalrpop_construction.specs.states.NumberedStates.{AreItemsAt, item_number}
use Rattle.lalrpop_numbers.specs.declared.numbers.numbered.Numbered.{Numbered}

-- items that are made from items by number have the numbers of these
pub items_at_by : {L : Type 0} (known : List (Dotted Nil)) (list : List (Numbered L)) → numbers.AreNumbered known list → AreItemsAt known (map item_number list) (items_by known list)
items_at_by {L} known list within = record {
  counted = length-map list item_number ∙ sym (length-map list (item_by known));
  each = λ j k item at at_k.
      let (e, there, is) = some_of_map (item_by known) (slice_get list j) item (sym (slice_get-map (item_by known) list j) ∙ at) in
      let number : e.number ≡ k = same_some e.number k (sym (slice_get-map item_number list j ∙ ap (option_map item_number) there) ∙ at_k) in
      let dotted : dotted_at known e.number ≡ with_dot item.production item.index = same_lr0 (dotted_at known e.number) (with_dot item.production item.index) (ap (λ (i : Dotted L). i.production) is) (ap (λ (i : Dotted L). i.index) is) in
      subst (λ (n : ℕ). slice_get known n ≡ Some (with_dot item.production item.index)) number (stands_at known e.number (within e (contains_at list e j there)) ∙ ap Some dotted);
}

module _ {L : Type 0} (known : List (Dotted Nil)) (list : List (Numbered L)) where
  -- the numbers are those of dotted productions
  pub numbers_known : numbers.AreNumbered known list → (k : ℕ) → Contains (map item_number list) k → k < length known
  numbers_known within k c = let (e, there, is) = contains_of_map item_number list k c in subst (λ (n : ℕ). n < length known) is (within e there)

  dots_at : (n : ℕ) (e : Numbered L) → slice_get list n ≡ Some e → slice_get (map dotted_of (items_by known list)) n ≡ Some (dotted_of (dotted_at known e.number))
  dots_at n e at = slice_get-map dotted_of (items_by known list) n ∙ ap (option_map dotted_of) (slice_get-map (item_by known) list n ∙ ap (option_map (item_by known)) at)

  -- the numbers differ if the dotted productions do
  pub numbers_differ : AllDiffer (map dotted_of (items_by known list)) → AllDiffer (map item_number list)
  numbers_differ differ i j k l at_i at_j =
      let (d, there, is) = some_of_map item_number (slice_get list i) k (sym (slice_get-map item_number list i) ∙ at_i) in
      let (e, other, same) = some_of_map item_number (slice_get list j) k (sym (slice_get-map item_number list j) ∙ at_j) in
      differ i j (dotted_of (dotted_at known d.number)) l (dots_at i d there) (dots_at j e other ∙ ap (λ (n : ℕ). Some (dotted_of (dotted_at known n))) (same ∙ sym is))

-- items that have the same numbers have the same dotted productions
pub same_dots : {K L : Type 0} (known : List (Dotted Nil)) (ks : List ℕ) (is : List (Dotted K)) (js : List (Dotted L)) → AreItemsAt known ks is → AreItemsAt known ks js → (p : Production) (dot : ℕ) → InKernel is p dot → InKernel js p dot
same_dots known ks is js a b p dot c =
    let (i, there, same) = of_dotted is (p, dot) c in
    let (n, within, at) = place is i there in
    let (k, at_k) = filled ks n (let counted = a.counted in omega (arith, within, counted)) in
    let (j, at_j) = filled js n (let counted = a.counted in let other = b.counted in omega (arith, within, counted, other)) in
    let one : with_dot j.production j.index ≡ with_dot i.production i.index = same_some (with_dot j.production j.index) (with_dot i.production i.index) (sym (b.each n k j at_j at_k) ∙ a.each n k i at at_k) in
    subst (Contains (map dotted_of js)) (ap (λ (d : Dotted Nil). dotted_of d) one ∙ same) (contains_map dotted_of js j (contains_at js j n at_j))

-- the numbers are those of the dotted productions of the items if the items have them one by one
pub Items-numbered : {L : Type 0} (known : List (Dotted Nil)) → Ascend known → (numbers : List ℕ) (items : List (Dotted L)) → AreItemsAt known numbers items → AreNumbered known items numbers
Items-numbered known ascend numbers items at = record {
  known = λ k c.
      let f = place numbers k c in
      let counted = at.counted in
      let j = filled items f.0 (omega (arith, f.1, counted)) in
      slice_get_within known k (with_dot (j.0).production (j.0).index) (at.each f.0 k j.0 j.1 f.2);
  numbered = λ k i at_i. (
    λ c.
        let f = place numbers k c in
        let counted = at.counted in
        let j = filled items f.0 (omega (arith, f.1, counted)) in
        let same : with_dot (j.0).production (j.0).index ≡ i = same_some (with_dot (j.0).production (j.0).index) i (sym (at.each f.0 k j.0 j.1 f.2) ∙ at_i) in
        (j.0, contains_at items j.0 f.0 j.1, ap (λ (d : Dotted Nil). d.production) same, ap (λ (d : Dotted Nil). d.index) same),
    λ h.
        let f = place items h.0 h.1 in
        let counted = at.counted in
        let m = filled numbers f.0 (omega (arith, f.1, counted)) in
        let same : with_dot (h.0).production (h.0).index ≡ i = same_lr0 (with_dot (h.0).production (h.0).index) i h.2 h.3 in
        let number : m.0 ≡ k = one_place known (items_differ known ascend) m.0 k i (at.each f.0 m.0 h.0 f.2 m.1 ∙ ap Some same) at_i in
        subst (Contains numbers) number (contains_at numbers m.0 f.0 m.1),
  );
}
