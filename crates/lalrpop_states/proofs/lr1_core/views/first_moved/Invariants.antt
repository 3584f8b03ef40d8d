use Rattle.std.proofs.Common.{◌≡◌}
use Rattle.lalrpop_states.specs.Words.{Dotted}
use Rattle.lalrpop_collections.specs.Words.{EachBelow}
use Rattle.lalrpop_states.proofs.lr1_core.views.first_moved.Given as goal

abbrev pub invariant-loop-item : goal.invariant-loop-item
invariant-loop-item g l = EachBelow (λ (item : Dotted g.row.L.Denot). item.index ≡ 0) l.items l.item-index
