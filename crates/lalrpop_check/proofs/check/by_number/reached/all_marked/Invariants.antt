use Rattle.std.proofs.Common.{◌≡◌, ◌<◌, ℕ, Some, true}
use Rattle.std.specs.Prelude.{slice_get}
use Rattle.lalrpop_check.proofs.check.by_number.reached.all_marked.Given as goal

abbrev pub invariant-loop-mark : goal.invariant-loop-mark
invariant-loop-mark l = (s : ℕ) → s < l.mark-index → slice_get l.marks s ≡ Some true
