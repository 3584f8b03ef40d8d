-- A result of a program in the memory of a caller.
use Rattle.std.specs.Prelude.{◌≡◌, ◌≤◌, ◌^◌, ◌⊎◌, ℕ, List, [], ◌∷◌, ◌++◌, length, take, drop, codes, string_bytes}
use Rattle.program_answers.specs.declared.answer.Answer.{Answer}
use Rattle.program_answers.specs.declared.answer.Answer.TheVariants.{Output, Fault, Usage, TooManyActions, Memory}
use Rattle.program_answers.specs.declared.answer.Shown.{Shown}
use Rattle.program_answers.specs.Texts.{line}

-- the usage text of a call
abbrev pub usage : List ℕ
usage = line (codes "usage: START (parse LIMIT TOKEN.. | report | explain | check [--json] | conflicts | tree [--dot] TOKEN.. | json | dot [--around STATE [--depth N] | --conflicts] | html | c [--augment] [--prefix NAME] | rust [--augment] | python [--augment])")

-- the text of what is shown: its output or, if that is empty, its remark
abbrev pub shown_text : List ℕ → List ℕ → List ℕ
shown_text [] remark = remark
shown_text (b ∷ text) remark = b ∷ text

-- a room after a text was copied to its beginning: as much of the text as fits, and then the old
-- bytes
abbrev pub filled : List ℕ → List ℕ → List ℕ
filled text old = take (length old) text ++ drop (length text) old

-- a text was copied to a room, and its whole length is known
pub record IsCopied (text old new : List ℕ) (count : ℕ) : Type 0 where
  pub counted : count ≡ length text
  pub copied : new ≡ filled text old

-- what is shown was copied to a room, with its status. A text of 2 ^ 64 bytes or more is reported as
-- an allocation failure
abbrev pub IsShownGiven : Shown → ℕ → (old new : List ℕ) → ℕ → Type 0
IsShownGiven s status old new count =
    ((status ≡ s.status) × IsCopied (shown_text s.text (string_bytes s.remark)) old new count)
    ⊎ ((2 ^ 64 ≤ length s.text) × (status ≡ 3) × IsCopied (line (codes "out of memory")) old new count)

-- the text of a result was copied to a room, with a status
abbrev pub IsGiven : Answer → ℕ → (old new : List ℕ) → ℕ → Type 0
IsGiven (Output s) status old new count = IsShownGiven s status old new count
IsGiven (Fault text) status old new count = (status ≡ 2) × IsCopied (string_bytes text) old new count
IsGiven Usage status old new count = (status ≡ 2) × IsCopied usage old new count
IsGiven TooManyActions status old new count = (status ≡ 2) × IsCopied (line (codes "too many actions")) old new count
IsGiven Memory status old new count = (status ≡ 3) × IsCopied (line (codes "out of memory")) old new count
