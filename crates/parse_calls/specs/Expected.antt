-- The tokens that may come next, by a list of numbers.
use Rattle.std.specs.Prelude.{◌≡◌, ◌⊎◌, ◌+◌, ◌-◌, ℕ, zero, suc, true, false, List, [], ◌∷◌, ◌++◌, Option, Some, None}
use Rattle.parse_calls.specs.Answers.{IsGiven, Numbers, counts_for}
use Rattle.parse_calls.specs.Runs.{Run, run}
use Rattle.parse_calls.specs.declared.expected.Listed.{Listed}
use Rattle.parse_calls.specs.declared.expected.May.{May}
use Rattle.parse_calls.specs.declared.expected.May.TheVariants.{Comes, DoesNot, Unknown}
use Rattle.parse_calls.specs.declared.machine.Ending.{Ending}
use Rattle.parse_calls.specs.declared.machine.Ending.TheVariants.{AllShifted, CutOff, Faulty, Finished, Refused}
use Rattle.parse_calls.specs.declared.places.Counts.{Counts}

-- the run on one token more, from a stack
abbrev pub trial : List ℕ → ℕ → List ℕ → ℕ → Run
trial tables left stack token = run tables left stack [] (token ∷ [])

-- whether a terminal may come next, by how the run on it ends: it is shifted, or it is refused. The
-- status is 1 if a step would pass the limit, and 2 for a fault
abbrev pub may_shift : Ending → May
may_shift AllShifted = Comes
may_shift Refused = DoesNot
may_shift (Finished alone) = DoesNot
may_shift CutOff = Unknown 1
may_shift Faulty = Unknown 2

-- whether the end of the input may come next, by how the run on it ends: with one tree, or not
abbrev pub may_end : Ending → May
may_end (Finished true) = Comes
may_end (Finished false) = DoesNot
may_end AllShifted = DoesNot
may_end Refused = DoesNot
may_end CutOff = Unknown 1
may_end Faulty = Unknown 2

-- the answer with a token, if it may come, and otherwise the one without it
abbrev pub by_may : May → Numbers → Numbers → Numbers
by_may Comes with_it without = with_it
by_may DoesNot with_it without = without
by_may (Unknown status) with_it without = record { status = status; numbers = [] }

-- the answer for the tokens that may come next, after those that were found. So many terminals from
-- a token on are left to try, and then the end of the input
abbrev pub expected_after : List ℕ → ℕ → List ℕ → ℕ → ℕ → List ℕ → Numbers
expected_after tables left stack zero token found =
    by_may (may_end (trial tables left stack token).ending) (record { status = 0; numbers = found ++ token ∷ [] }) (record { status = 0; numbers = found })
expected_after tables left stack (suc more) token found =
    by_may (may_shift (trial tables left stack token).ending)
    (expected_after tables left stack more (token + 1) (found ++ token ∷ []))
    (expected_after tables left stack more (token + 1) found)

-- the same from a token on, of so many terminals
abbrev pub expected_from : List ℕ → ℕ → List ℕ → ℕ → ℕ → List ℕ → Numbers
expected_from tables left stack end token found = expected_after tables left stack (end - token) token found

-- a status without numbers
abbrev pub without_numbers : ℕ → Numbers
without_numbers status = record { status = status; numbers = [] }

-- the answer for a run over tokens, by how it ended
abbrev pub expected_by : Ending → List ℕ → ℕ → ℕ → List ℕ → Numbers
expected_by AllShifted tables end left stack = expected_from tables left stack end 0 []
expected_by Refused tables end left stack = without_numbers 1
expected_by (Finished alone) tables end left stack = without_numbers 1
expected_by CutOff tables end left stack = without_numbers 1
expected_by Faulty tables end left stack = without_numbers 2

-- the answer for a run over tokens, if the number of the end of the input is known
abbrev pub expected_of : List ℕ → ℕ → Run → Numbers
expected_of tables end r = expected_by r.ending tables end r.left r.stack

-- the answer for tokens, if the counts are known
abbrev pub expected_with : List ℕ → List ℕ → ℕ → Option Counts → Numbers
expected_with tables tokens limit None = without_numbers 2
expected_with tables tokens limit (Some counts) = expected_of tables counts.terminals (run tables limit (0 ∷ []) [] tokens)

-- the answer for the tokens that may come after tokens
abbrev pub expected_answer : List ℕ → List ℕ → ℕ → Numbers
expected_answer tables tokens limit = expected_with tables tokens limit (counts_for tables tokens)

-- the answer of the code is one
pub record AreListed (answer : Numbers) (listed : Listed) : Type 0 where
  pub status : listed.status ≡ answer.status
  pub tokens : listed.tokens.items ≡ answer.numbers

-- a call has answered with the tokens that may come next, or an allocation failed
abbrev pub IsExpected : (tables tokens : List ℕ) (limit status : ℕ) (old new : List ℕ) (count : ℕ) → Type 0
IsExpected tables tokens limit status old new count =
    IsGiven (expected_answer tables tokens limit) status old new count
    ⊎ IsGiven (without_numbers 3) status old new count
