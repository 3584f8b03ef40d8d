use Rattle.std.proofs.Common.{Bor, length}
use Rattle.lalrpop_states.proofs.Types.{Production}
use Rattle.lalrpop_states.specs.Words.{HasItem}
use Rattle.lalrpop_collections.specs.Words.{EachBelow}
use Rattle.lalrpop_states.proofs.lr1_core.coherent.are_finished.Given as goal

abbrev pub invariant-loop-reduction : goal.invariant-loop-reduction
invariant-loop-reduction g l = EachBelow (λ (r : g.row.L.Denot × Bor Production). HasItem l.items r.1.now (length r.1.now.symbols)) l.reductions l.reduction-index
