use Rattle.std.proofs.Common.{◌≡◌, ℕ, ◌<◌, Some}
use Rattle.std.specs.Prelude.{slice_get}
use Rattle.lalrpop_base.specs.Words.{Bits, Dotted, with_dot}
use Rattle.lalrpop_check.proofs.check.numbered_states.transitions.are_items.Given as goal

abbrev pub invariant-loop-place : goal.invariant-loop-place
invariant-loop-place l = (j k : ℕ) (item : Dotted Bits) → j < l.place → slice_get l.items j ≡ Some item → slice_get l.expected j ≡ Some k → slice_get l.numbers.items.items k ≡ Some (with_dot item.production item.index)
