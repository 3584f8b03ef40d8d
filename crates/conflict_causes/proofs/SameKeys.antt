-- Two conflicts have the same key if and only if they have one cause.
use Rattle.std.proofs.Common.{◌≡◌, ◌↔◌, ℕ, List, ◌∷◌, refl, sym, ◌∙◌, ap, subst, Bool, true, false}
use Rattle.std.specs.Prelude.{Contains}
use Rattle.std.specs.BTreeSet.{BTreeSet, IsOrdered, contains}
use Rattle.std.specs.Cmp.{IsTotalOrder, nat_cmp_total}
use Rattle.std.specs.Ordering.{nat_cmp, ordering_then}
use Rattle.std.specs.declared.cmp.Ordering.{Ordering}
use Rattle.std.specs.declared.cmp.Ordering.TheVariants.{Less, Equal, Greater}
use Rattle.std.proofs.lemmas.Cmp.{then_total, on_total}
use Rattle.std.proofs.lemmas.Map.Lookups.{CmpEqualImpliesEq, btree_set_from_contains, exact_unsigned}
use Rattle.std.proofs.lemmas.Map.Views.{btree_set_contains_iff}
use Rattle.lalrpop_collections.specs.Words.{Bits}
use Rattle.lalrpop_grammar.specs.declared.repr.Production.{Production}
use Rattle.lalrpop_states.proofs.theory.grammars.AscendingItems.{production_exact, production_total}
use Rattle.lalrpop_states.specs.contracts.lookahead.nil.NilOrd.TheImpl as nil_ord
use Rattle.lalrpop_states.specs.declared.lookahead.nil.Nil.{Nil}
use Rattle.lalrpop_states.specs.declared.lr1_core.state.Conflict.{Conflict}
use Rattle.lalrpop_states.specs.declared.lr1_core.state.State.{State}
use Rattle.lalrpop_states.specs.grammars.Ascending.{production_order}
use Rattle.lalrpop_states.specs.states.CheckStates.{finished}
use Rattle.lalrpop_states.specs.states.Items.{Dotted, with_dot}
use Rattle.conflict_causes.specs.Causes.{IsSameCause}
use Rattle.conflict_causes.specs.Keys.{IsKey, item_order}

-- ---- the order of items
pub item_total : IsTotalOrder item_order
item_total = then_total (on_total (λ (i : Dotted Nil). i.production) production_total) (then_total (on_total (λ (i : Dotted Nil). i.index) nat_cmp_total) (on_total (λ (i : Dotted Nil). i.lookahead) nil_ord.Laws.total-law))

both_equal : (o r : Ordering) → ordering_then o r ≡ Equal → (o ≡ Equal) × (r ≡ Equal)
both_equal Less r e = cc
both_equal Equal r e = (refl, e)
both_equal Greater r e = cc

pub item_exact : CmpEqualImpliesEq item_order
item_exact a b e =
    let make : Production → ℕ → Nil → Dotted Nil = λ p i l. record { production = p; index = i; lookahead = l } in
    let first = both_equal (production_order a.production b.production) (ordering_then (nat_cmp a.index b.index) (nil_ord.ghosts.cmp a.lookahead b.lookahead)) e in
    let second = both_equal (nat_cmp a.index b.index) (nil_ord.ghosts.cmp a.lookahead b.lookahead) first.1 in
    ap (λ (p : Production). make p a.index a.lookahead) (production_exact a.production b.production first.0)
    ∙ ap (λ (i : ℕ). make b.production i a.lookahead) (exact_unsigned a.index b.index second.0)

-- ---- ordered sets with the same members
same_test : (b d : Bool) → (b ≡ true → d ≡ true) → (d ≡ true → b ≡ true) → b ≡ d
same_test true true f g = refl
same_test true false f g = sym (f refl)
same_test false true f g = g refl
same_test false false f g = refl

pub same_members : (s t : BTreeSet (Dotted Nil)) → IsOrdered item_order s → IsOrdered item_order t → ((i : Dotted Nil) → Contains s.keys i ↔ Contains t.keys i) → s.keys ≡ t.keys
same_members s t s_ordered t_ordered same =
    let in_s = btree_set_contains_iff item_total item_exact s in
    let in_t = btree_set_contains_iff item_total item_exact t in
    btree_set_from_contains item_total s t s_ordered t_ordered (λ q. same_test (contains item_order s q) (contains item_order t q) (λ h. (in_t q).1 ((same q).0 ((in_s q).0 h))) (λ h. (in_s q).1 ((same q).1 ((in_t q).0 h)))) item_exact

-- ---- keys
module _ (states : List (State Bits)) (c d : Conflict Bits) (k l : List (Dotted Nil)) (a : IsKey states c k) (b : IsKey states d l) where
  items_of_keys : k ≡ l → a.items.keys ≡ b.items.keys
  items_of_keys e = let listed : finished c.production.now ∷ a.items.keys ≡ finished d.production.now ∷ b.items.keys = sym a.listed ∙ e ∙ b.listed in cc

  finished_of_keys : k ≡ l → finished c.production.now ≡ finished d.production.now
  finished_of_keys e = let listed : finished c.production.now ∷ a.items.keys ≡ finished d.production.now ∷ b.items.keys = sym a.listed ∙ e ∙ b.listed in cc

  cause_of_keys : k ≡ l → IsSameCause states c d
  cause_of_keys e = record {
    reduction = ap (λ (i : Dotted Nil). i.production) (finished_of_keys e);
    others = λ dotted.
        let item = with_dot dotted.0 dotted.1 in
        let same = items_of_keys e in (
          λ h. (b.others.members item).0 (subst (λ (xs : List (Dotted Nil)). Contains xs item) same ((a.others.members item).1 h)),
          λ h. (a.others.members item).0 (subst (λ (xs : List (Dotted Nil)). Contains xs item) (sym same) ((b.others.members item).1 h)),
        );
  }

  keys_of_cause : IsSameCause states c d → k ≡ l
  keys_of_cause s =
      let same = same_members a.items b.items a.others.ordered b.others.ordered (λ i. (
        λ h. (b.others.members i).1 ((s.others (i.production, i.index)).0 ((a.others.members i).0 h)),
        λ h. (a.others.members i).1 ((s.others (i.production, i.index)).1 ((b.others.members i).0 h)),
      )) in
      a.listed ∙ ap (λ (p : Production). finished p ∷ a.items.keys) s.reduction ∙ ap (λ (xs : List (Dotted Nil)). finished d.production.now ∷ xs) same ∙ sym b.listed

  pub same_key : (k ≡ l) ↔ IsSameCause states c d
  same_key = (cause_of_keys, keys_of_cause)

-- a conflict has the cause of itself
pub same_itself : (states : List (State Bits)) (c : Conflict Bits) → IsSameCause states c c
same_itself states c = record { reduction = refl; others = λ dotted. (λ h. h, λ h. h) }

-- an item without lookahead is its production and its dot
pub bare_is : (i : Dotted Nil) (p : Production) (n : ℕ) → i.production ≡ p → i.index ≡ n → i ≡ with_dot p n
bare_is i p n e f =
    let make : Production → ℕ → Dotted Nil = λ q m. record { production = q; index = m; lookahead = i.lookahead } in
    ap (λ (q : Production). make q i.index) e ∙ ap (λ (m : ℕ). make p m) f
