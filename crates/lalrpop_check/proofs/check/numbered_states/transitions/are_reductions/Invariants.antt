use Rattle.std.proofs.Common.{◌≡◌, ℕ, ◌<◌, Some, length}
use Rattle.std.specs.Prelude.{slice_get}
use Rattle.std.specs.Borrow.{Bor}
use Rattle.lalrpop_base.specs.Words.{Bits, with_dot}
use Rattle.lalrpop_check.proofs.Types.{Production}
use Rattle.lalrpop_check.proofs.check.numbered_states.transitions.are_reductions.Given as goal

abbrev pub invariant-loop-place : goal.invariant-loop-place
invariant-loop-place l = (j k : ℕ) (r : Bits × Bor Production) → j < l.place → slice_get l.reductions j ≡ Some r → slice_get l.expected j ≡ Some k → slice_get l.numbers.items.items k ≡ Some (with_dot r.1.now (length r.1.now.symbols))
