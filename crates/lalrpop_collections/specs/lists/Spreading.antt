-- Least sets over the edges of a graph: the least solution of F(n) = base(n) ∪ ⋃ { F(m) | an edge
-- leads from m to n }, by which DeRemer and Pennello 1982 find follow sets.
use Rattle.std.specs.Prelude.{◌≡◌, ◌≢◌, ℕ, ◌+◌, ◌<◌, ◌≤◌, ◌⊎◌, Bool, List, [], length, get_or, set, slice_get, sum_by, Contains, Option, Some, None, IsTrue, MatchBool}
use Rattle.std.specs.declared.alloc.Global.{Global}
use Rattle.std.specs.declared.vec.Vec.{Vec}
use Rattle.lalrpop_collections.specs.lists.Bits.{Bits, has, rising, join, no_bits}
use Rattle.lalrpop_collections.specs.lists.Queues.{Waiting}

-- ---- the least sets
-- the set with the number, and an empty one after the last
abbrev pub set_at : List Bits → ℕ → Bits
set_at sets n = get_or sets n no_bits

-- the set with the number holds the bit
abbrev pub HoldsBit : List Bits → ℕ → ℕ → Type 0
HoldsBit sets n bit = IsTrue (has (set_at sets n) bit)

-- the ends of the edges, if there are any
abbrev pub listed_ends : Option (Vec ℕ Global) → List ℕ
listed_ends None = []
listed_ends (Some ends) = ends.items

-- the numbers to which edges lead from the number
abbrev pub edge_ends : List (Vec ℕ Global) → ℕ → List ℕ
edge_ends edges n = listed_ends (slice_get edges n)

-- a bit is spread at a number if the set of the number holds it, or if it is spread at a number
-- from which an edge leads there
pub data IsSpread (sets : List Bits) (edges : List (Vec ℕ Global)) : ℕ → ℕ → Type 0 where
  held : (n bit : ℕ) → HoldsBit sets n bit → IsSpread sets edges n bit
  sent_on : (from to bit : ℕ) → Contains (edge_ends edges from) to → IsSpread sets edges from bit → IsSpread sets edges to bit

-- ---- steps
-- the set of the first number is joined into that of the second, and the flag says whether the
-- latter grew
pub record IsJoinedInto (grew : Bool) (from to : ℕ) (old new : List Bits) : Type 0 where
  pub joined : new ≡ set old to (join (set_at old to) (set_at old from))
  pub told : MatchBool grew (join (set_at old to) (set_at old from) ≢ set_at old to) (join (set_at old to) (set_at old from) ≡ set_at old to)

-- the number of the bits of all sets together
abbrev pub size : List Bits → ℕ
size sets = sum_by (λ s. length (rising s)) sets

-- the set of a number is joined into those of the first few ends of its edges. A bit of a new set
-- was there before or was sent. The numbers whose sets grew wait. No more numbers are queued than
-- bits are added
pub record IsSent (from : ℕ) (ends : List ℕ) (few : ℕ) (old new : List Bits) (before after : Waiting) : Type 0 where
  pub counted : length new ≡ length old
  pub limit : after.limit ≡ before.limit
  pub kept : (n bit : ℕ) → HoldsBit old n bit → HoldsBit new n bit
  pub came : (n bit : ℕ) → HoldsBit new n bit → HoldsBit old n bit ⊎ (Contains ends n × HoldsBit old from bit)
  pub sent : (k bit : ℕ) → k < few → HoldsBit old from bit → HoldsBit new (get_or ends k 0) bit
  pub waits : (n : ℕ) → Contains before.numbers n → Contains after.numbers n
  pub others : (n : ℕ) → ¬ Contains after.numbers n → set_at new n ≡ set_at old n
  pub weighed : size old + length after.numbers ≤ size new + length before.numbers
