-- Numbers that wait, each of them at most once.
use Rattle.std.specs.Prelude.{◌≡◌, ◌==◌, ◌++◌, ◌∷◌, [], ℕ, Bool, false, cond, List, slice_index_or}
use Rattle.std.specs.List.{IsDistinct, list_any}

-- the numbers that wait, in order, and the limit below which numbers may wait
pub record Waiting : Type 0 where
  pub limit : ℕ
  pub numbers : List ℕ

-- whether the number waits
abbrev pub waits : List ℕ → ℕ → Bool
waits numbers k = list_any (λ n. k == n) numbers

-- the numbers that wait, with the number at the end if it did not wait
abbrev pub waiting_with : ℕ → List ℕ → List ℕ
waiting_with n numbers = cond (waits numbers n) numbers (numbers ++ n ∷ [])

-- the mark of a number is true exactly if the number waits, and no number waits twice
pub record HasWaitingMarks (numbers : List ℕ) (marks : List Bool) : Type 0 where
  pub marked : (k : ℕ) → waits numbers k ≡ slice_index_or marks k false
  pub once : IsDistinct (λ m n. m == n) numbers
