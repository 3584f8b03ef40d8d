use Rattle.std.proofs.Common.{◌≡◌, ℕ, ◌<◌}
use Rattle.std.specs.Prelude.{slice_get, Some}
use Rattle.lalrpop_useful.proofs.theory.useful.Undefined.{Use}
use Rattle.lalrpop_useful.proofs.undefined.is_listed.Given as goal

abbrev pub invariant-loop-listed : goal.invariant-loop-listed
invariant-loop-listed l = (k : ℕ) (u : Use) → k < l.listed-index → slice_get l.uses k ≡ Some u → u.0 ≡ l.name → ⊥
