-- Closures of kernels, with sets of tokens by number.
use Rattle.std.specs.Prelude.{◌≡◌, ◌<◌, ◌≤◌, ◌/◌, ◌%◌, ℕ, Bool, cond, List, length, map, slice_get, Some, Contains}
use Rattle.lalrpop_base.specs.Words.{AreNumbered, Begins, Bits, Dotted, IsClosureBy, IsNullable, Rules, items_by, join, readings}
use Rattle.lalrpop_collections.specs.lists.Entries.{GathersMore}
use Rattle.lalrpop_construction.specs.Words.{IsPropagation, Propagates}
use Rattle.lalrpop_grammar.specs.declared.repr.Symbol.{Symbol}
use Rattle.lalrpop_numbers.specs.declared.numbers.Numbers.{Numbers}
use Rattle.lalrpop_numbers.specs.declared.numbers.numbered.Numbered.{Numbered}
use Rattle.lalrpop_numbers.specs.declared.numbers.suffixes.Suffix.{Suffix}
use Rattle.lalrpop_states.specs.closures.Closure.{itself}
use Rattle.canonical_by_number.specs.TokenSets.{AreSetsIn, KeepsNumbers, set_at}

-- ---- items by number
-- the item that has the first number, with the set that has the second number
abbrev pub entry_in : List Bits → ℕ × ℕ → Numbered Bits
entry_in sets e = record { number = e.0; lookahead = set_at sets e.1 }

-- the items of such pairs
abbrev pub entries_in : List Bits → List (ℕ × ℕ) → List (Numbered Bits)
entries_in sets list = map (entry_in sets) list

-- the item whose number and whose number of a set are given as one number
abbrev pub unpacked : List Bits → ℕ → Numbered Bits
unpacked sets e = record { number = e / 4294967296; lookahead = set_at sets (e % 4294967296) }

-- the items of such numbers
abbrev pub kernel_in : List Bits → List ℕ → List (Numbered Bits)
kernel_in sets kernel = map (unpacked sets) kernel

-- each of the numbers has the number of a set
abbrev pub ArePackedIn : List Bits → List ℕ → Type 0
ArePackedIn sets kernel = (e : ℕ) → Contains kernel e → e % 4294967296 < length sets

-- ---- what items give
-- tokens pass through the symbols if these are nullable
abbrev pub LetsPass : Rules → List Symbol → Type 0
LetsPass g symbols = IsNullable g.productions symbols

-- the tokens that an item gives to the nonterminal after its dot: FIRST of the symbols after it
-- and, if these are nullable, the tokens of the item
abbrev pub given_set : Bool → Bits → Bits → Bits
given_set nullable first tokens = cond nullable (join first tokens) first

-- the value at the index is the number of the set
pub record IsNumberAt (sets : List Bits) (numbers : List ℕ) (k : ℕ) (set : Bits) : Type 0 where
  pub number : ℕ
  pub there : slice_get numbers k ≡ Some number
  pub is : slice_get sets number ≡ Some set

-- the list has, for each dotted production before a nonterminal, the number of FIRST of its suffix
pub record AreFirsts (n : Numbers) (sets : List Bits) (firsts : List ℕ) : Type 0 where
  pub counted : length n.suffixes.items ≤ length firsts
  pub each : (k : ℕ) (suffix : Suffix) → slice_get n.suffixes.items k ≡ Some (Some suffix) → IsNumberAt sets firsts k suffix.first

-- the items gave their tokens to the nonterminals of the table, whose values are numbers of sets;
-- sets may have been added, and each kept its number
pub record PropagatesNumbers (g : Rules) (n : Numbers) (items : List (Dotted Bits)) (old_sets new_sets : List Bits) (old new : List (ℕ × ℕ)) (queue pushed : List ℕ) : Type 0 where
  pub kept : KeepsNumbers old_sets new_sets
  pub known : AreSetsIn new_sets new
  pub shares : Propagates Begins LetsPass g n items (readings (set_at old_sets) old) (readings (set_at new_sets) new) queue pushed

-- the table has the tokens that the nonterminals of the closure of the kernel get
abbrev pub IsNumberedPropagation : Rules → Numbers → List (Dotted Bits) → List Bits → List (ℕ × ℕ) → List ℕ → Type 0
IsNumberedPropagation g n kernel sets table queue = IsPropagation Begins LetsPass g n kernel (readings (set_at sets) table) queue

-- ---- the items of a closure
-- the table, whose values are numbers of sets, has the entries of one more list;
-- sets may have been added, and each kept its number
pub record GathersNumbers (more : List (ℕ × Bits)) (old_sets new_sets : List Bits) (old new : List (ℕ × ℕ)) : Type 0 where
  pub kept : KeepsNumbers old_sets new_sets
  pub known : AreSetsIn new_sets new
  pub gathers : GathersMore more (readings (set_at old_sets) old) (readings (set_at new_sets) new)

-- the list is the closure of the kernel; each of its values is the number of a set
pub record IsNumberedClosure (g : Rules) (n : Numbers) (kernel : List (Dotted Bits)) (sets : List Bits) (list : List (ℕ × ℕ)) : Type 0 where
  pub known : AreSetsIn sets list
  pub numbered : AreNumbered n.items.items (entries_in sets list)
  pub closed : IsClosureBy itself Begins LetsPass g kernel (items_by n.items.items (entries_in sets list))
