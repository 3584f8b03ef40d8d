use Rattle.lalrpop_base.specs.Words.{Bits, EachBelow, productions}
use Rattle.lalrpop_explain.specs.Words.{IsOwnConflict}
use Rattle.lalrpop_explain.proofs.Types.{Conflict}
use Rattle.lalrpop_explain.proofs.explain.own.are_own_conflicts.Given as goal

abbrev pub invariant-loop-conflict : goal.invariant-loop-conflict
invariant-loop-conflict l = EachBelow (λ (c : Conflict Bits). IsOwnConflict (productions l.grammar) c) l.conflicts l.conflict-index
