use Rattle.std.proofs.Common.{◌≡◌, ℕ, ◌<◌}
use Rattle.std.specs.Prelude.{slice_get, Some}
use Rattle.std.specs.BTreeSet.{BTreeSet}
use Rattle.lalrpop_base.specs.Words.{Bits, Dotted, IsRightState}
use Rattle.lalrpop_check.proofs.Types.{Nil, State}
use Rattle.lalrpop_check.proofs.check.states.are_right_states.Given as goal

abbrev pub invariant-loop-number : goal.invariant-loop-number
invariant-loop-number l = (n : ℕ) (s : State Bits) (here : BTreeSet (Dotted Nil)) → n < l.number → slice_get l.states n ≡ Some s → slice_get l.listed n ≡ Some here → IsRightState l.grammar l.start l.listed l.targets.keys n here.keys s
