-- The number of the bits below a number that a set has.
use Rattle.std.specs.Prelude.{◌≡◌, ◌<◌, ◌+◌, ℕ, Bool, true, cond}
use Rattle.std.proofs.Common.{zero, suc}
use Rattle.lalrpop_collections.specs.lists.Bits.{Bits, has}

-- 1 if the value is true, and 0 otherwise
abbrev pub one_if : Bool → ℕ
one_if b = cond b 1 0

-- the number of the bits of the set that are below the number
unfoldable pub count : ℕ → Bits → ℕ
count zero s = 0
count (suc m) s = one_if (has s m) + count m s

-- each bit of the set is below the number
abbrev pub IsBelow : ℕ → Bits → Type 0
IsBelow n s = (q : ℕ) → has s q ≡ true → q < n
