use Rattle.std.proofs.Common.{◌≡◌, ℕ, ◌<◌, Some, true}
use Rattle.std.specs.Prelude.{slice_get}
use Rattle.std.specs.Borrow.{Bor}
use Rattle.lalrpop_base.specs.Words.{Bits, has}
use Rattle.lalrpop_check.proofs.Types.{Production}
use Rattle.lalrpop_check.proofs.check.by_number.tokens.hold_sets.Given as goal

abbrev pub invariant-loop-place : goal.invariant-loop-place
invariant-loop-place l = (j bit : ℕ) (r : Bits × Bor Production) (set : Bits) → j < l.place → slice_get l.reductions j ≡ Some r → slice_get l.sets j ≡ Some set → has set bit ≡ true → has r.0 bit ≡ true
