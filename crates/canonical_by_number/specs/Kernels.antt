-- Kernels of states whose items are packed in numbers, and the kernels to which symbols lead.
use Rattle.std.specs.Prelude.{ℕ, List, map, Contains}
use Rattle.lalrpop_base.specs.Words.{AreAllNumbered, AreGroupsOf, AreMoves, Bits, Kernels, NumberedGroups, groups_by, items_by}
use Rattle.lalrpop_numbers.specs.declared.numbers.Numbers.{Numbers}
use Rattle.lalrpop_numbers.specs.declared.numbers.numbered.Numbered.{Numbered}
use Rattle.canonical_by_number.specs.Closures.{ArePackedIn, kernel_in}

-- ---- kernels
-- the kernels that kernels of packed items are
abbrev pub kernels_in : List Bits → Kernels (List ℕ) → Kernels (List (Numbered Bits))
kernels_in sets kernels = record { list = map (kernel_in sets) kernels.list; handed = kernels.handed }

-- each item of each kernel has the number of a dotted production, and the number of a set
pub record AreKernelsIn (n : Numbers) (sets : List Bits) (kernels : List (List ℕ)) : Type 0 where
  pub known : AreAllNumbered n.items.items (map (kernel_in sets) kernels)
  pub packed : (kernel : List ℕ) → Contains kernels kernel → ArePackedIn sets kernel

-- ---- the kernels to which symbols lead
-- the groups that groups of packed items are: each has a symbol, and the items to which it leads
abbrev pub groups_in : List Bits → List (ℕ × List ℕ) → NumberedGroups Bits
groups_in sets groups = map (λ (g : ℕ × List ℕ). (g.0, kernel_in sets g.1)) groups

-- each item of each group has the number of a set
abbrev pub ArePackedGroups : List Bits → List (ℕ × List ℕ) → Type 0
ArePackedGroups sets groups = (g : ℕ × List ℕ) → Contains groups g → ArePackedIn sets g.1

-- the groups are those of the symbols after the dots of the items
pub record AreMovesIn (n : Numbers) (sets : List Bits) (items : List (Numbered Bits)) (groups : List (ℕ × List ℕ)) : Type 0 where
  pub known : AreGroupsOf n (groups_in sets groups)
  pub packed : ArePackedGroups sets groups
  pub moves : AreMoves (items_by n.items.items items) (groups_by n (groups_in sets groups))
