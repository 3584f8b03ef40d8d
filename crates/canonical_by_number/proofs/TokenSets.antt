-- Numbers of sets of tokens, in a list that only grows.
use Rattle.std.proofs.Common.{◌≡◌, ◌∙◌, ◌+◌, ◌<◌, ◌≤◌, ℕ, Bool, true, false, cond, List, [], ◌∷◌, ◌++◌, length, length-append, if◌then◌else◌, nat_eq, refl, sym, ap, subst, arith, Option, Some}
use Rattle.std.specs.Prelude.{slice_get}
use Rattle.std.specs.List.{list_any}
use Rattle.std.specs.Map.{lookup}
use Rattle.std.proofs.lemmas.Option.{slice_get_within}
use Rattle.std.proofs.lemmas.Bool.Decides.{Decides-eqb}
use Rattle.indexmap.specs.IndexSet.{insert_key}
use Rattle.lalrpop_collections.specs.lists.Bits.{Bits, join}
use Rattle.lalrpop_collections.specs.lists.Exact.{Exactly}
use Rattle.lalrpop_collections.specs.lists.Places.{AllDiffer}
use Rattle.lalrpop_collections.proofs.theory.sets.BitSets.{join_within}
use Rattle.lalrpop_collections.proofs.theory.lists.Lists.{some≢none}
use Rattle.lalrpop_collections.proofs.theory.lists.Places.{filled, one_place, same_some, slice_get-longer}
use Rattle.canonical_by_number.specs.TokenSets.{AreRemembered, IsUnionIn, KeepsNumbers, pair_of, set_at, set_or_none}

-- ---- the set with a number
pub set_is : (sets : List Bits) (n : ℕ) (set : Bits) → slice_get sets n ≡ Some set → set_at sets n ≡ set
set_is sets n set at = ap set_or_none at

pub set_there : (sets : List Bits) (n : ℕ) → n < length sets → slice_get sets n ≡ Some (set_at sets n)
set_there sets n l = let x = filled sets n l in x.1 ∙ ap Some (sym (set_is sets n x.0 x.1))

-- sets that differ have different numbers
pub one_number : (sets : List Bits) → AllDiffer sets → (n m : ℕ) → n < length sets → m < length sets → set_at sets n ≡ set_at sets m → n ≡ m
one_number sets differ n m k l same = one_place sets differ n m (set_at sets n) (set_there sets n k) (set_there sets m l ∙ ap Some (sym same))

-- ---- numbers are kept
pub keeps_all : (sets : List Bits) → KeepsNumbers sets sets
keeps_all sets n set at = at

pub keeps_then : (a b c : List Bits) → KeepsNumbers a b → KeepsNumbers b c → KeepsNumbers a c
keeps_then a b c f g n set at = g n set (f n set at)

module _ (old new : List Bits) (kept : KeepsNumbers old new) where
  pub kept_within : (n : ℕ) → n < length old → n < length new
  kept_within n l = slice_get_within new n (set_at old n) (kept n (set_at old n) (set_there old n l))

  pub kept_at : (n : ℕ) → n < length old → set_at new n ≡ set_at old n
  kept_at n l = set_is new n (set_at old n) (kept n (set_at old n) (set_there old n l))

  union_kept : (a b n : ℕ) → IsUnionIn old a b n → IsUnionIn new a b n
  union_kept a b n u = record {
    first = kept_within a u.first;
    second = kept_within b u.second;
    is = kept n (join (set_at old a) (set_at old b)) u.is ∙ ap (λ (s : Bits). Some (join s (set_at old b))) (sym (kept_at a u.first)) ∙ ap (λ (s : Bits). Some (join (set_at new a) s)) (sym (kept_at b u.second));
  }

  -- a union that was added
  pub union_after : (a b n : ℕ) → a < length old → b < length old → slice_get new n ≡ Some (join (set_at old a) (set_at old b)) → IsUnionIn new a b n
  union_after a b n k l at = record {
    first = kept_within a k;
    second = kept_within b l;
    is = at ∙ ap (λ (s : Bits). Some (join s (set_at old b))) (sym (kept_at a k)) ∙ ap (λ (s : Bits). Some (join (set_at new a) s)) (sym (kept_at b l));
  }

  -- what is known stays right in the longer list
  pub remembered_more : (union_of : ℕ → Option ℕ) → AllDiffer new → length new ≤ 4294967296 → AreRemembered old union_of → AreRemembered new union_of
  remembered_more union_of differ few r = record {
    differ = differ;
    few = few;
    unions = λ a b n l at. union_kept a b n (r.unions a b n l at);
  }

-- no sets, of whose unions nothing is known
pub remembered_none : (sets : List Bits) (entries : List (ℕ × ℕ)) → sets ≡ [] → entries ≡ [] → AreRemembered sets (λ (k : ℕ). lookup (nat_eq k) entries)
remembered_none sets entries none empty = record {
  differ = subst AllDiffer (sym none) (λ i j x l at. cc);
  few = let l : length sets ≡ 0 = ap (λ (xs : List Bits). length xs) none in omega (arith, l);
  unions = λ a b n l at. absurd (some≢none (sym at ∙ ap (λ (es : List (ℕ × ℕ)). lookup (nat_eq (pair_of a b)) es) empty));
}

-- the union of a set with itself is the set
pub union_itself : (sets : List Bits) (a b : ℕ) → a < length sets → a ≡ b → slice_get sets a ≡ Some (join (set_at sets a) (set_at sets b))
union_itself sets a b l same =
    let s = set_at sets a in
    set_there sets a l ∙ ap Some (sym (join_within s s (λ bit h. h))) ∙ ap (λ (k : ℕ). Some (join s (set_at sets k))) same

-- ---- a set is inserted
module _ (E : Bits → Bits → Bool) (exact : Exactly E) (old new : List Bits) (set : Bits) (keys : new ≡ insert_key E old set) where
  kept_if : (b : Bool) → KeepsNumbers old (if b then old else old ++ set ∷ [])
  kept_if true n s at = at
  kept_if false n s at = slice_get-longer old (set ∷ []) n s at

  pub inserted_kept : KeepsNumbers old new
  inserted_kept = subst (KeepsNumbers old) (sym keys) (kept_if (list_any (E set) old))

  few_if : (b : Bool) → length (if b then old else old ++ set ∷ []) ≤ length old + 1
  few_if true = omega arith
  few_if false = let l = length-append old (set ∷ []) in omega arith

  pub inserted_few : length new ≤ length old + 1
  inserted_few = subst (λ (xs : List Bits). length xs ≤ length old + 1) (sym keys) (few_if (list_any (E set) old))

-- ---- something more is known of a pair of numbers
same_pair : (a b c d : ℕ) → b < 4294967296 → d < 4294967296 → pair_of a b ≡ pair_of c d → (a ≡ c) × (b ≡ d)
same_pair a b c d k l same = (omega arith, omega arith)

module _ {V : Type 0} (known now : ℕ → Option V) (a b : ℕ) (value : V) (small : b < 4294967296) (update : (q : ℕ) → now q ≡ cond (nat_eq (pair_of a b) q) (Some value) (known q)) where
  -- a value that is known is the new one, or was known
  pub known_by : (Right : ℕ → ℕ → V → Type 0) → Right a b value → ((c d : ℕ) (v : V) → d < 4294967296 → known (pair_of c d) ≡ Some v → Right c d v) → (c d : ℕ) (v : V) → d < 4294967296 → now (pair_of c d) ≡ Some v → Right c d v
  known_by Right here before c d v l at = by (nat_eq (pair_of a b) (pair_of c d)) refl
    where
      by : (e : Bool) → nat_eq (pair_of a b) (pair_of c d) ≡ e → Right c d v
      by true e =
          let same = same_pair a b c d small l ((Decides-eqb (pair_of a b) (pair_of c d)).0 e) in
          let is : value ≡ v = same_some value v (sym (update (pair_of c d) ∙ ap (λ (f : Bool). cond f (Some value) (known (pair_of c d))) e) ∙ at) in
          subst (λ (x : ℕ). Right x d v) same.0 (subst (λ (y : ℕ). Right a y v) same.1 (subst (Right a b) is here))
      by false e = before c d v l (sym (update (pair_of c d) ∙ ap (λ (f : Bool). cond f (Some value) (known (pair_of c d))) e) ∙ at)

-- one union more is known
pub union_known : (sets : List Bits) (union_of now : ℕ → Option ℕ) (a b n : ℕ) → b < 4294967296 → ((q : ℕ) → now q ≡ cond (nat_eq (pair_of a b) q) (Some n) (union_of q)) → IsUnionIn sets a b n → AreRemembered sets union_of → AreRemembered sets now
union_known sets union_of now a b n small update is r = record {
  differ = r.differ;
  few = r.few;
  unions = known_by union_of now a b n small update (IsUnionIn sets) is r.unions;
}
