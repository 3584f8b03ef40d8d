-- Numbers in the memory of a caller.
use Rattle.std.specs.Prelude.{◌≡◌, ℕ, List, ◌++◌, drop, length, take}

-- a room after numbers were copied to its beginning: as many of them as fit, and then the old
-- numbers
abbrev pub filled : List ℕ → List ℕ → List ℕ
filled numbers old = take (length old) numbers ++ drop (length numbers) old

-- numbers were copied to a room, and it is known how many there are
pub record IsCopied (numbers old new : List ℕ) (count : ℕ) : Type 0 where
  pub counted : count ≡ length numbers
  pub copied : new ≡ filled numbers old
