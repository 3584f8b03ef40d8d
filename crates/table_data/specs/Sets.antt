-- Token sets that all differ, with their numbers. A token set is a finite set of bits.
use Rattle.std.specs.Prelude.{◌≡◌, ℕ, ◌==◌, Bool, List, ◌⊎◌, Contains}
use Rattle.std.specs.BTreeMap.{BTreeMap, get}
use Rattle.std.specs.Cmp.Lexicographic.{slice_cmp}
use Rattle.std.specs.List.{position, position_or_len}
use Rattle.std.specs.Ordering.{nat_cmp, on}
use Rattle.std.specs.declared.cmp.Ordering.{Ordering}
use lib.Pointwise.{pointwise}
use Rattle.lalrpop_base.specs.Words.{AllDiffer, Bits, rising}

-- whether two sets have the same bits
abbrev pub is_same : Bits → Bits → Bool
is_same = on rising (pointwise ◌==◌)

-- the number of a set: its index in the list, or the length of the list if it is not in it
abbrev pub number_of : List Bits → Bits → ℕ
number_of sets set = position_or_len (λ other. is_same other set) sets

-- the lexicographic order of the ascending lists of the bits
abbrev pub set_order : Bits → Bits → Ordering
set_order = on rising (slice_cmp nat_cmp)

-- all sets differ, and the map has the index of each set, and nothing else
pub record AreNumbered (sets : List Bits) (numbers : BTreeMap Bits ℕ) : Type 0 where
  pub differ : AllDiffer sets
  pub numbered : (set : Bits) → get set_order numbers set ≡ position (λ other. is_same other set) sets

-- the new sets are the old ones and the named ones, and no others
pub record AddsSets (named old new : List Bits) : Type 0 where
  pub kept : (set : Bits) → Contains old set → Contains new set
  pub added : (set : Bits) → Contains named set → Contains new set
  pub others : (set : Bits) → Contains new set → Contains old set ⊎ Contains named set
