use Rattle.lalrpop_base.specs.Words.{EachBelow, HoldsTableTokens}
use Rattle.lalrpop_check.proofs.check.carrying.have_carried.Given as goal

abbrev pub invariant-loop-reduction : goal.invariant-loop-reduction
invariant-loop-reduction l = EachBelow (HoldsTableTokens l.table.entries l.state) l.reductions l.reduction-index
