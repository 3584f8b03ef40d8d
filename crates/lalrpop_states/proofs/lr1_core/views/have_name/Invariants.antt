use Rattle.std.proofs.Common.{◌≡◌, ◌<◌}
use Rattle.lalrpop_states.specs.Words.{Dotted}
use Rattle.lalrpop_collections.specs.Words.{EachBelow}
use Rattle.lalrpop_states.proofs.lr1_core.views.have_name.Given as goal

abbrev pub invariant-loop-item : goal.invariant-loop-item
invariant-loop-item g l = EachBelow (λ (item : Dotted g.row.L.Denot). 0 < item.index → item.production.nonterminal ≡ l.name) l.items l.item-index
