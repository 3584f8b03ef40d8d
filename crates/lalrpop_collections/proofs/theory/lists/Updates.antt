-- An insert into the entries of a map, as a list with the key between others.
use Rattle.std.proofs.Common.{◌≡◌, List, [], ◌∷◌, ◌++◌, refl, sym, ap, ◌∙◌, Option, Some, None, Bool, true, cond, ℕ, zero, suc, IsSome, option_map, slice_get}
use Rattle.std.specs.declared.cmp.Ordering.{Ordering}
use Rattle.std.specs.declared.cmp.Ordering.TheVariants.{Less, Equal, Greater}
use Rattle.std.specs.Ordering.{is_eq, match_ordering, eq_by_cmp}
use Rattle.std.specs.BTreeMap.{insert_entry, is_at}
use Rattle.std.specs.Map.{keys_of, lookup, set_value}
use Rattle.std.specs.Cmp.{IsTotalOrder, eq_by_cmp_equiv}
use Rattle.std.proofs.lemmas.Map.Views.{IsSome-lookup_from_Contains, Contains-from_lookup}
use Rattle.lalrpop_collections.proofs.theory.lists.Places.{same_some, one_place, differ_from_apart}
use Rattle.lalrpop_collections.proofs.theory.lists.Members.{place, apart-from_sorted}
use Rattle.std.specs.List.Sorted.{IsStrictlySortedBy}
use Rattle.std.proofs.lemmas.Map.Lookups.{CmpEqualImpliesEq}
use Rattle.std.specs.Prelude.{Contains, IsNone, option_copied}
use Rattle.lalrpop_collections.specs.Words.{AllDiffer, IsPushedAt}
use Rattle.lalrpop_collections.specs.lists.Entries.IsPushedAt.{fresh as push_fresh, known as push_known}
use Rattle.std.specs.Borrow.{Bor}

module _ {K V : Type 0} where
  pub record IsInserted (k : K) (v : V) (old new : List (K × V)) : Type 0 where
    pub front : List (K × V)
    pub back : List (K × V)
    pub before : old ≡ front ++ back
    pub after : new ≡ front ++ (k, v) ∷ back

  pub record IsReplaced (k : K) (w v : V) (old new : List (K × V)) : Type 0 where
    pub front : List (K × V)
    pub back : List (K × V)
    pub before : old ≡ front ++ (k, w) ∷ back
    pub after : new ≡ front ++ (k, v) ∷ back

  inserted_later : (e : K × V) (k : K) (v : V) (old new : List (K × V)) → IsInserted k v old new → IsInserted k v (e ∷ old) (e ∷ new)
  inserted_later e k v old new i = record { front = e ∷ i.front; back = i.back; before = ap (λ xs. e ∷ xs) i.before; after = ap (λ xs. e ∷ xs) i.after }

  replaced_later : (e : K × V) (k : K) (w v : V) (old new : List (K × V)) → IsReplaced k w v old new → IsReplaced k w v (e ∷ old) (e ∷ new)
  replaced_later e k w v old new i = record { front = e ∷ i.front; back = i.back; before = ap (λ xs. e ∷ xs) i.before; after = ap (λ xs. e ∷ xs) i.after }

  module _ (cmp : K → K → Ordering) (exact : CmpEqualImpliesEq cmp) (total : IsTotalOrder cmp) where
    inserted_at : (k : K) (v : V) (e : K × V) (es : List (K × V)) (o : Ordering) → cond (is_eq o) (Some e.1) (lookup (is_at (cmp k)) es) ≡ None → (lookup (is_at (cmp k)) es ≡ None → IsInserted k v es (insert_entry cmp es k v)) →
        IsInserted k v (e ∷ es) (match_ordering o ((k, v) ∷ e ∷ es) ((e.0, v) ∷ es) (e ∷ insert_entry cmp es k v))
    inserted_at k v e es Less h later = record { front = []; back = e ∷ es; before = refl; after = refl }
    inserted_at k v e es Equal h later = cc
    inserted_at k v e es Greater h later = inserted_later e k v es (insert_entry cmp es k v) (later h)

    pub inserted : (k : K) (v : V) (es : List (K × V)) → lookup (is_at (cmp k)) es ≡ None → IsInserted k v es (insert_entry cmp es k v)
    inserted k v [] h = record { front = []; back = []; before = refl; after = refl }
    inserted k v (e ∷ es) h = inserted_at k v e es (cmp k e.0) h (inserted k v es)

    same_entry : (k : K) (e : K × V) (w : V) → cmp k e.0 ≡ Equal → Some e.1 ≡ Some w → e ≡ (k, w)
    same_entry k e w h s =
        let key : k ≡ e.0 = exact k e.0 h in
        let value : e.1 ≡ w = cc in
        ap (λ (x : K). (x, e.1)) (sym key) ∙ ap (λ (y : V). (k, y)) value

    set_at : (k : K) (v w : V) (e : K × V) (es : List (K × V)) (o : Ordering) → cmp k e.0 ≡ o → cond (is_eq o) (Some e.1) (lookup (is_at (cmp k)) es) ≡ Some w → (lookup (is_at (cmp k)) es ≡ Some w → IsReplaced k w v es (set_value (is_at (cmp k)) es v)) →
        IsReplaced k w v (e ∷ es) (cond (is_eq o) ((e.0, v) ∷ es) (e ∷ set_value (is_at (cmp k)) es v))
    set_at k v w e es Less c h later = replaced_later e k w v es (set_value (is_at (cmp k)) es v) (later h)
    set_at k v w e es Equal c h later = record {
      front = [];
      back = es;
      before = ap (λ x. x ∷ es) (same_entry k e w c h);
      after = ap (λ (x : K). (x, v) ∷ es) (sym (exact k e.0 c));
    }
    set_at k v w e es Greater c h later = replaced_later e k w v es (set_value (is_at (cmp k)) es v) (later h)

    pub set_replaced : (k : K) (v w : V) (es : List (K × V)) → lookup (is_at (cmp k)) es ≡ Some w → IsReplaced k w v es (set_value (is_at (cmp k)) es v)
    set_replaced k v w [] h = cc
    set_replaced k v w (e ∷ es) h = set_at k v w e es (cmp k e.0) refl h (set_replaced k v w es)

-- if `==` is exact and agrees with the order, the order is exact
pub exact_order : {K : Type 0} (E : K → K → Bool) (R : K → K → Ordering) → ((x y : K) → E x y ≡ true → x ≡ y) → ((x y : K) → E x y ≡ is_eq (R x y)) → CmpEqualImpliesEq R
exact_order E R exact ties x y h = exact x y (ties x y ∙ ap is_eq h)

-- the keys of a map differ
pub keys_differ : {K V : Type 0} (R : K → K → Ordering) → IsTotalOrder R → (es : List (K × V)) → IsStrictlySortedBy R (keys_of es) → AllDiffer (keys_of es)
keys_differ R total es s = differ_from_apart (keys_of es) (apart-from_sorted R total (keys_of es) s)

module _ {K V : Type 0} (k : K) (v : V) where
  pub pushed_fresh : (vs : List V) (old new : List (K × List V)) → vs ≡ v ∷ [] → IsInserted k vs old new → IsPushedAt k v old new
  pushed_fresh vs old new e i = push_fresh i.front i.back i.before (i.after ∙ ap (λ (xs : List V). i.front ++ (k, xs) ∷ i.back) e)

  pub pushed_known : (vs ws : List V) (old new : List (K × List V)) → ws ≡ vs ++ v ∷ [] → IsReplaced k vs ws old new → IsPushedAt k v old new
  pushed_known vs ws old new e i = push_known i.front i.back vs i.before (i.after ∙ ap (λ (xs : List V). i.front ++ (k, xs) ∷ i.back) e)

-- ---- results of a look-up
none_some : {V : Type 0} (o : Option V) → o ≡ None → IsSome o → ⊥
none_some None e s = cc
none_some (Some v) e s = cc

module _ {K V : Type 0} where
  pub key_stands : (es : List (K × V)) (i : ℕ) (e : K × V) → slice_get es i ≡ Some e → slice_get (keys_of es) i ≡ Some e.0
  key_stands [] i e h = cc
  key_stands (x ∷ es) zero e h = ap (λ (o : Option (K × V)). option_map (λ (y : K × V). y.0) o) h
  key_stands (x ∷ es) (suc i) e h = key_stands es i e h

  -- if keys differ, a key has one value
  pub one_value : (es : List (K × V)) → AllDiffer (keys_of es) → (k : K) (v w : V) → Contains es (k, v) → Contains es (k, w) → v ≡ w
  one_value es differ k v w c d =
      let i = place es (k, v) c in
      let j = place es (k, w) d in
      let e = one_place (keys_of es) differ i.0 j.0 k (key_stands es i.0 (k, v) i.2) (key_stands es j.0 (k, w) j.2) in
      ap (λ (x : K × V). x.1) (same_some (k, v) (k, w) (sym i.2 ∙ ap (slice_get es) e ∙ j.2))

module _ {K V : Type 0} where
  -- the value that a look-up finds is in the map
  pub looked_found : (E : K → K → Bool) (R : K → K → Ordering) → ((x y : K) → E x y ≡ true → x ≡ y) → ((x y : K) → E x y ≡ is_eq (R x y)) → (es : List (K × V)) (k : K) (v : V) → lookup (is_at (R k)) es ≡ Some v → Contains es (k, v)
  looked_found E R exact ties es k v h = Contains-from_lookup {eq = eq_by_cmp R} (λ x y e. exact x y (ties x y ∙ e)) k v es h

  -- if a look-up finds nothing, the map does not have the key
  pub looked_none : (R : K → K → Ordering) → IsTotalOrder R → (es : List (K × V)) (k : K) → lookup (is_at (R k)) es ≡ None → ¬ Contains (keys_of es) k
  looked_none R total es k e c = none_some (lookup (is_at (R k)) es) e (IsSome-lookup_from_Contains (eq_by_cmp_equiv total) k es c)

-- a look-up that finds nothing
pub none_is : {V : Type 0} (o : Option (Bor V)) → IsNone o → option_copied o ≡ None
none_is None h = refl
none_is (Some b) h = cc
