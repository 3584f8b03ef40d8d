-- How the result of a program is written to two streams.
use Rattle.std.specs.Prelude.{◌≡◌, ℕ, List, [], Option, codes, string_bytes}
use Rattle.std.proofs.Common.{◌⊎◌}
use Rattle.std.specs.Io.KnownBytes.{Keeps, Appends}
use Rattle.program_answers.specs.declared.answer.Answer.{Answer}
use Rattle.program_answers.specs.declared.answer.Answer.TheVariants.{Output, Fault, Usage, TooManyActions, Memory}
use Rattle.program_answers.specs.Output.{AppendsBeginning}
use Rattle.program_answers.specs.Texts.{line}

-- a message went to standard error, or a beginning of it if that stream fails, and nothing to
-- standard output
pub record IsComplaint (text : List ℕ) (out_old out_new err_old err_new : Option (List ℕ)) : Type 0 where
  pub kept : Keeps out_old out_new
  pub told : AppendsBeginning err_old err_new text

-- a text went to standard output; a remark, if there is one, went to standard error, or a beginning
-- of it if that stream fails
pub record IsWritten (text remark : List ℕ) (out_old out_new err_old err_new : Option (List ℕ)) : Type 0 where
  pub written : Appends out_old out_new text
  pub told : AppendsBeginning err_old err_new remark
  pub kept : remark ≡ [] → Keeps err_old err_new

-- standard output failed: a beginning of the text went to it, and the message to standard error
pub record IsPartlyWritten (text : List ℕ) (out_old out_new err_old err_new : Option (List ℕ)) : Type 0 where
  pub written : AppendsBeginning out_old out_new text
  pub told : AppendsBeginning err_old err_new (line (codes "cannot write"))

-- a result has an exit status, and went to the two streams; each program has its own usage text
abbrev pub IsResultWritten : List ℕ → Answer → ℕ → Option (List ℕ) → Option (List ℕ) → Option (List ℕ) → Option (List ℕ) → Type 0
IsResultWritten usage (Output s) result o p e f = ((result ≡ s.status) × IsWritten s.text (string_bytes s.remark) o p e f) ⊎ ((result ≡ 2) × IsPartlyWritten s.text o p e f)
IsResultWritten usage (Fault text) result o p e f = (result ≡ 2) × IsComplaint (string_bytes text) o p e f
IsResultWritten usage Usage result o p e f = (result ≡ 2) × IsComplaint usage o p e f
IsResultWritten usage TooManyActions result o p e f = (result ≡ 2) × IsComplaint (line (codes "too many actions")) o p e f
IsResultWritten usage Memory result o p e f = (result ≡ 3) × IsComplaint (line (codes "out of memory")) o p e f
