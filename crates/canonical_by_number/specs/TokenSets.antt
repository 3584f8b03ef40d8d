-- Sets of tokens by number: a list of distinct sets, which only grows.
use Rattle.std.specs.Prelude.{◌≡◌, ◌+◌, ◌*◌, ◌<◌, ◌≤◌, ℕ, List, length, slice_get, Option, Some, None, Contains}
use Rattle.lalrpop_collections.specs.lists.Bits.{Bits, join, no_bits}
use Rattle.lalrpop_collections.specs.lists.Places.{AllDiffer}

-- the set, or the empty one if there is none
abbrev pub set_or_none : Option Bits → Bits
set_or_none None = no_bits
set_or_none (Some set) = set

-- the set with the number, or the empty one if no set has it
abbrev pub set_at : List Bits → ℕ → Bits
set_at sets n = set_or_none (slice_get sets n)

-- each set of the old list has its number in the new list
abbrev pub KeepsNumbers : List Bits → List Bits → Type 0
KeepsNumbers old new = (n : ℕ) (set : Bits) → slice_get old n ≡ Some set → slice_get new n ≡ Some set

-- each value of the table is the number of a set
abbrev pub AreSetsIn : {K : Type 0} → List Bits → List (K × ℕ) → Type 0
AreSetsIn {K} sets table = (e : K × ℕ) → Contains table e → e.1 < length sets

-- two numbers below 2 to the power of 32 as one number
abbrev pub pair_of : ℕ → ℕ → ℕ
pair_of a b = a * 4294967296 + b

-- the numbers are those of two sets, and of their union
pub record IsUnionIn (sets : List Bits) (a b n : ℕ) : Type 0 where
  pub first : a < length sets
  pub second : b < length sets
  pub is : slice_get sets n ≡ Some (join (set_at sets a) (set_at sets b))

-- the sets differ, and their numbers have 32 bits;
-- what is known of a pair of numbers is the number of the union
pub record AreRemembered (sets : List Bits) (union_of : ℕ → Option ℕ) : Type 0 where
  pub differ : AllDiffer sets
  pub few : length sets ≤ 4294967296
  pub unions : (a b n : ℕ) → b < 4294967296 → union_of (pair_of a b) ≡ Some n → IsUnionIn sets a b n
