-- What is written: an exit status, a text and a remark.
use Rattle.std.specs.Prelude.{◌≡◌, ℕ, List, string_bytes}
use Rattle.program_answers.specs.declared.answer.Shown.{Shown}

-- a status, a text and a remark are what is shown
pub record IsOutput (status : ℕ) (text remark : List ℕ) (s : Shown) : Type 0 where
  pub ended : s.status ≡ status
  pub whole : s.text ≡ text
  pub remarked : string_bytes s.remark ≡ remark
