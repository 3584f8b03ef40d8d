-- Lists in which each element is less than those after it, and items in their order.
use Rattle.std.proofs.Common.{◌≡◌, ℕ, ◌<◌, inl, inr, List, map, get_or, refl, sym, ◌∙◌, ap, subst, arith, Bool, true, false, cond}
use Rattle.std.specs.Prelude.{slice_get, nat_lt, ◌==◌}
use Rattle.std.specs.declared.cmp.Ordering.{Ordering}
use Rattle.std.specs.declared.cmp.Ordering.TheVariants.{Less, Equal, Greater}
use Rattle.std.specs.Ordering.{ordering_then, ordering_reverse, then_cmp, on, nat_cmp}
use Rattle.std.specs.Cmp.{IsTotalOrder}
use Rattle.std.specs.Map.{keys_of}
use Rattle.std.specs.List.Sorted.{IsStrictlySortedBy}
use Rattle.std.proofs.lemmas.Bool.{ltb-true}
use Rattle.std.proofs.lemmas.Map.Keys.{Less-from_sorted}
use Rattle.std.proofs.lemmas.Map.Lookups.{CmpEqualImpliesEq}
use Rattle.std.proofs.lemmas.Option.{slice_get_within, get_or_from_slice_get, slice_get-map}
use Rattle.lalrpop_states.specs.Words.{Dotted, production_order, Precedes, Ascend, item_of}
use Rattle.lalrpop_collections.specs.Words.{AllDiffer}
use Rattle.lalrpop_grammar.specs.contracts.repr.exact.ProductionExact.TheImpl as production_exactly
use Rattle.lalrpop_states.specs.contracts.lookahead.nil.NilOrd.TheImpl as nil_ord
use Rattle.lalrpop_grammar.specs.contracts.repr.ProductionOrd.TheImpl as production_ord
use Rattle.lalrpop_grammar.specs.contracts.repr.ProductionPartialEq.TheImpl as production_eq
use Rattle.lalrpop_states.proofs.Types.{Nil, Production}
use Rattle.lalrpop_collections.proofs.theory.lists.Lists.{some_of_map}
use Rattle.lalrpop_collections.proofs.theory.lists.Members.{less-apart}
use Rattle.lalrpop_collections.proofs.theory.lists.Updates.{exact_order, key_stands}

-- ---- the order of productions
pub production_total : IsTotalOrder production_order
production_total = production_ord.Laws.total-law

pub production_exact : CmpEqualImpliesEq production_order
production_exact = exact_order production_eq.ghosts.eq production_order production_exactly.Laws.exact-law production_ord.Laws.matches_eq-law

pub less_asymmetric : (p q : Production) → production_order p q ≡ Less → production_order q p ≡ Less → ⊥
less_asymmetric p q h k =
    let turned : Less ≡ Greater = sym h ∙ production_total.antisymm p q ∙ ap ordering_reverse k in
    cc

pub less_apart : (p q : Production) → production_order p q ≡ Less → p ≡ q → ⊥
less_apart = less-apart production_order production_total

-- ---- the order of items
module _ {L : Type 0} where
  pub precedes_asymmetric : (a b : Dotted L) → Precedes a b → Precedes b a → ⊥
  precedes_asymmetric a b (inl h) (inl k) = less_asymmetric a.production b.production h k
  precedes_asymmetric a b (inl h) (inr k) = less_apart a.production b.production h (sym k.0)
  precedes_asymmetric a b (inr h) (inl k) = less_apart b.production a.production k (sym h.0)
  precedes_asymmetric a b (inr h) (inr k) = omega (arith, h.1, k.1)

-- ---- a map from dotted productions has its keys in that order
abbrev key_order : Dotted Nil → Dotted Nil → Ordering
key_order = then_cmp (on (λ (i : Dotted Nil). i.production) production_order) (then_cmp (on (λ (i : Dotted Nil). i.index) nat_cmp) (on (λ (i : Dotted Nil). i.lookahead) nil_ord.ghosts.cmp))

pub less_number_at : (m n : ℕ) (b c : Bool) → nat_lt m n ≡ b → cond b Less (cond c Equal Greater) ≡ Less → m < n
less_number_at m n true c e h = ltb-true m n e
less_number_at m n false true e h = cc
less_number_at m n false false e h = cc

pub less_number : (m n : ℕ) → nat_cmp m n ≡ Less → m < n
less_number m n h = less_number_at m n (nat_lt m n) (m == n) refl h

lesser_index : (m n : ℕ) (o r : Ordering) → nat_cmp m n ≡ o → r ≡ Equal → ordering_then o r ≡ Less → m < n
lesser_index m n Less r e f h = less_number m n e
lesser_index m n Equal r e f h = cc
lesser_index m n Greater r e f h = cc

lesser_key : (a b : Dotted Nil) (o r : Ordering) → production_order a.production b.production ≡ o → r ≡ Equal → ordering_then o (ordering_then (nat_cmp a.index b.index) r) ≡ Less → Precedes a b
lesser_key a b Less r e f h = inl e
lesser_key a b Equal r e f h = inr (production_exact a.production b.production e, lesser_index a.index b.index (nat_cmp a.index b.index) r refl f h)
lesser_key a b Greater r e f h = cc

key_precedes : (a b : Dotted Nil) → key_order a b ≡ Less → Precedes a b
key_precedes a b h = lesser_key a b (production_order a.production b.production) (nil_ord.ghosts.cmp a.lookahead b.lookahead) refl refl h

pub Table-ascend : {L : Type 0} (es : List (Dotted Nil × L)) → IsStrictlySortedBy key_order (keys_of es) → Ascend (map item_of es)
Table-ascend {L} es s i j a b l at_i at_j =
    let e = some_of_map item_of (slice_get es i) a (sym (slice_get-map item_of es i) ∙ at_i) in
    let f = some_of_map item_of (slice_get es j) b (sym (slice_get-map item_of es j) ∙ at_j) in
    let key_i = key_stands es i e.0 e.1 in
    let key_j = key_stands es j f.0 f.1 in
    let d = e.0.0 in
    let less : key_order (get_or (keys_of es) i d) (get_or (keys_of es) j d) ≡ Less = Less-from_sorted key_order (keys_of es) i j d s l (slice_get_within (keys_of es) j f.0.0 key_j) in
    let first : key_order e.0.0 (get_or (keys_of es) j d) ≡ Less = subst (λ (k : Dotted Nil). key_order k (get_or (keys_of es) j d) ≡ Less) (get_or_from_slice_get (keys_of es) i e.0.0 d key_i) less in
    let both : key_order e.0.0 f.0.0 ≡ Less = subst (λ (k : Dotted Nil). key_order e.0.0 k ≡ Less) (get_or_from_slice_get (keys_of es) j f.0.0 d key_j) first in
    subst (λ (x : Dotted L). Precedes a x) f.2 (subst (λ (x : Dotted L). Precedes x (item_of f.0)) e.2 (key_precedes e.0.0 f.0.0 both))

-- dotted productions that ascend differ
pub items_differ : (items : List (Dotted Nil)) → Ascend items → AllDiffer items
items_differ items ascend i j x l at_i at_j = let before = ascend i j x x l at_i at_j in precedes_asymmetric x x before before
