use Rattle.std.proofs.Common.{◌<◌}
use Rattle.lalrpop_states.specs.Words.{Dotted, IsShiftedFrom, symbol_of_ref}
use Rattle.lalrpop_collections.specs.Words.{EachBelow}
use Rattle.lalrpop_states.proofs.lr1_core.coherent.is_coherent_edge.Given as goal

abbrev pub invariant-loop-item : goal.invariant-loop-item
invariant-loop-item g l = EachBelow (λ (item : Dotted g.row.L.Denot). 0 < item.index → IsShiftedFrom l.source (symbol_of_ref l.symbol) item) l.target l.item-index
