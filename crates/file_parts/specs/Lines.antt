-- Lines of numbers, as texts: lists of bytes.
use Rattle.std.specs.Prelude.{ℕ, Bool, ◌+◌, nat_lt, cond, List, [], ◌∷◌, ◌++◌, codes, length}
use Rattle.std.specs.Fmt.{decimal}

-- a number with a comma after it
abbrev pub word_of : ℕ → List ℕ
word_of number = decimal number ++ codes ","

-- whether a space and so many bytes fit into the 100 columns of a line of which some are filled
abbrev pub fits : ℕ → ℕ → Bool
fits column len = nat_lt (column + len) 100

-- a number after those of a line: after a space, or on a new line if it does not fit
abbrev pub next_text : List ℕ → ℕ → ℕ → List ℕ
next_text indent column number = cond (fits column (length (word_of number))) (codes " " ++ word_of number) (codes "\n" ++ (indent ++ word_of number))

-- how many columns are filled after that number
abbrev pub next_column : List ℕ → ℕ → ℕ → ℕ
next_column indent column number = cond (fits column (length (word_of number))) (column + 1 + length (word_of number)) (length indent + length (word_of number))

-- numbers after those of a line of which so many columns are filled, and the end of the last line
abbrev pub rest_of : List ℕ → ℕ → List ℕ → List ℕ
rest_of indent column [] = codes "\n"
rest_of indent column (number ∷ numbers) = next_text indent column number ++ rest_of indent (next_column indent column number) numbers

-- the lines of numbers
abbrev pub number_lines : List ℕ → List ℕ → List ℕ
number_lines indent [] = indent ++ codes "\n"
number_lines indent (number ∷ numbers) = indent ++ word_of number ++ rest_of indent (length indent + length (word_of number)) numbers
