-- The items that have a terminal after their dot, one more item at a time.
use Rattle.std.proofs.Common.{◌≡◌, ◌↔◌, ℕ, ◌+◌, ◌<◌, ◌≤◌, ◌⊎◌, inl, inr, List, [], length, get_or, refl, sym, ◌∙◌, ap, subst, arith}
use Rattle.std.specs.Prelude.{slice_get, Some, Contains}
use Rattle.std.specs.BTreeSet.{BTreeSet, IsOrdered}
use Rattle.std.proofs.lemmas.Bool.{cases_lt}
use Rattle.std.proofs.lemmas.Option.{slice_get_read, slice_get_within}
use Rattle.lalrpop_collections.specs.Words.{Bits}
use Rattle.lalrpop_collections.proofs.theory.lists.Lists.{contains_of_map}
use Rattle.lalrpop_collections.proofs.theory.lists.Members.{Contains-none, contains_map, place}
use Rattle.lalrpop_collections.proofs.theory.lists.Places.{contains_at, same_some}
use Rattle.lalrpop_grammar.specs.declared.repr.Production.{Production}
use Rattle.lalrpop_grammar.specs.declared.repr.TerminalString.{TerminalString}
use Rattle.lalrpop_states.specs.declared.lookahead.nil.Nil.{Nil}
use Rattle.lalrpop_states.specs.states.Items.{Dotted, with_dot, dots}
use Rattle.conflict_causes.specs.Keys.{AddsIfBefore, IsBeforeTerminal, item_order}
use Rattle.conflict_causes.specs.Keys.AddsIfBefore.{added, same}

-- an item without its lookahead
abbrev pub bare_of : Dotted Bits → Dotted Nil
bare_of x = with_dot x.production x.index

-- the set has the items of the first ones of a list that have the terminal after their dot
pub record AreBefore (t : TerminalString) (items : List (Dotted Bits)) (count : ℕ) (set : BTreeSet (Dotted Nil)) : Type 0 where
  pub from : (q : Dotted Nil) → Contains set.keys q → Contains (dots items) (q.production, q.index) × IsBeforeTerminal t q
  pub there : (k : ℕ) (x : Dotted Bits) → k < count → slice_get items k ≡ Some x → IsBeforeTerminal t (bare_of x) → Contains set.keys (bare_of x)
  pub ordered : IsOrdered item_order set

pub none_before : (t : TerminalString) (items : List (Dotted Bits)) (set : BTreeSet (Dotted Nil)) → set.keys ≡ [] → IsOrdered item_order set → AreBefore t items 0 set
none_before t items set e ordered = record {
  from = λ q c. absurd (Contains-none q (subst (λ (ks : List (Dotted Nil)). Contains ks q) e c));
  there = λ k x l. absurd (omega (arith, l));
  ordered = ordered;
}

module _ (t : TerminalString) (items : List (Dotted Bits)) (count : ℕ) (x : Dotted Bits) (old new : BTreeSet (Dotted Nil)) (within : count < length items) (is : x ≡ get_or items count x) (before : AreBefore t items count old) (ordered : IsOrdered item_order new) where
  x_at : slice_get items count ≡ Some x
  x_at = slice_get_read items (length items) count x refl within is

  -- the item at a place is an earlier one or this one
  at_place : (k : ℕ) (y : Dotted Bits) → k < count + 1 → slice_get items k ≡ Some y → (k < count) ⊎ (x ≡ y)
  at_place k y l at = elim (cases_lt k count) [
    | inl less ↦ inl less
    | inr more ↦ let here : k ≡ count = omega (arith, l, more) in inr (same_some x y (sym x_at ∙ ap (slice_get items) (sym here) ∙ at))
  ]

  pub before_more : AddsIfBefore t (bare_of x) old.keys new.keys → AreBefore t items (count + 1) new
  before_more (added is_before adds) = record {
    from = λ q c. elim (adds.from q c) [
      | inl earlier ↦ before.from q earlier
      | inr e ↦ subst (λ (i : Dotted Nil). Contains (dots items) (i.production, i.index) × IsBeforeTerminal t i) e (contains_map (λ (i : Dotted Bits). (i.production, i.index)) items x (contains_at items x count x_at), is_before)
    ];
    there = λ k y l at is_y. elim (at_place k y l at) [
      | inl less ↦ adds.kept (bare_of y) (before.there k y less at is_y)
      | inr e ↦ subst (λ (z : Dotted Bits). Contains new.keys (bare_of z)) e adds.there
    ];
    ordered = ordered;
  }
  before_more (same not_before e) = record {
    from = λ q c. before.from q (subst (λ (ks : List (Dotted Nil)). Contains ks q) e c);
    there = λ k y l at is_y. elim (at_place k y l at) [
      | inl less ↦ subst (λ (ks : List (Dotted Nil)). Contains ks (bare_of y)) (sym e) (before.there k y less at is_y)
      | inr here ↦ absurd (not_before (subst (λ (z : Dotted Bits). IsBeforeTerminal t (bare_of z)) (sym here) is_y))
    ];
    ordered = ordered;
  }

pub all_before : (t : TerminalString) (items : List (Dotted Bits)) (count : ℕ) (set : BTreeSet (Dotted Nil)) → AreBefore t items count set → length items ≤ count → (q : Dotted Nil) → Contains set.keys q ↔ (Contains (dots items) (q.production, q.index) × IsBeforeTerminal t q)
all_before t items count set all past q = (
  all.from q,
  λ h.
      let (x, in_items, is_q) = contains_of_map (λ (i : Dotted Bits). (i.production, i.index)) items (q.production, q.index) h.0 in
      let (k, _, at) = place items x in_items in
      let same_item : bare_of x ≡ q = ap (λ (d : Production × ℕ). with_dot d.0 d.1) is_q in
      let is_x : IsBeforeTerminal t (bare_of x) = subst (IsBeforeTerminal t) (sym same_item) h.1 in
      subst (Contains set.keys) same_item (all.there k x (omega (arith, past, slice_get_within items k x at)) at is_x),
)
