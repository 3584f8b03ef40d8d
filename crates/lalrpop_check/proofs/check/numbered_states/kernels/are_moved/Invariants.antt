use Rattle.lalrpop_base.specs.Words.{EachBelow}
use Rattle.lalrpop_check.specs.Words.{IsMovedNumber}
use Rattle.lalrpop_numbers.specs.declared.numbers.numbered.Numbered.{Numbered}
use Rattle.lalrpop_check.proofs.Types.{Nil}
use Rattle.lalrpop_check.proofs.check.numbered_states.kernels.are_moved.Given as goal

abbrev pub invariant-loop-item : goal.invariant-loop-item
invariant-loop-item l = EachBelow (λ (e : Numbered Nil). IsMovedNumber l.numbers e.number) l.kernel l.item-index
