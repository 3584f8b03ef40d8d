-- Kernels in the order of their numbers, and the number of those that were handed out.
use Rattle.std.specs.Prelude.{◌≡◌, ℕ, zero, suc, ◌-◌, ◌≤◌, ◌==◌, cond, ◌++◌, ◌∷◌, [], List, length, drop, slice_get, Option, Some, None, Contains}
use Rattle.std.specs.declared.cmp.Ordering.{Ordering}
use Rattle.std.specs.Option.{option_to_list}
use Rattle.std.specs.BTreeMap.{BTreeMap, get}

-- a list of kernels, and how many of them were handed out
pub record Kernels (K : Type 0) : Type 0 where
  pub list : List K
  pub handed : ℕ

-- the first key that has the number
abbrev pub key_numbered : {K : Type 0} → ℕ → List (K × ℕ) → Option K
key_numbered n [] = None
key_numbered n (e ∷ es) = cond (e.1 == n) (Some e.0) (key_numbered n es)

-- the keys that have the numbers below n, in the order of the numbers
abbrev pub keys_below : {K : Type 0} → ℕ → List (K × ℕ) → List K
keys_below zero es = []
keys_below (suc n) es = keys_below n es ++ option_to_list (key_numbered n es)

-- the keys of a map from keys to numbers, in the order of the numbers
abbrev pub by_number : {K : Type 0} → List (K × ℕ) → List K
by_number es = keys_below (length es) es

-- the map has the number of each kernel of the list and no other, and the pending kernels are the
-- last ones of the list
pub record IsNumbering {K : Type 0} (cmp : K → K → Ordering) (numbers : BTreeMap K ℕ) (pending : List K) : Type 0 where
  pub found : (k : K) (n : ℕ) → get cmp numbers k ≡ Some n → slice_get (by_number numbers.entries) n ≡ Some k
  pub numbered : (k : K) (n : ℕ) → slice_get (by_number numbers.entries) n ≡ Some k → get cmp numbers k ≡ Some n
  pub outside : (n : ℕ) → length numbers.entries ≤ n → key_numbered n numbers.entries ≡ None
  pub whole : length (by_number numbers.entries) ≡ length numbers.entries
  pub fewer : length pending ≤ length numbers.entries
  pub waits : pending ≡ drop (length numbers.entries - length pending) (by_number numbers.entries)

-- the new list is the old one, with the kernel at its end if the old one does not have it
pub record AddsOnce {K : Type 0} (old new : List K) (kernel : K) : Type 0 where
  pub known : Contains old kernel → new ≡ old
  pub fresh : ¬ Contains old kernel → new ≡ old ++ kernel ∷ []
