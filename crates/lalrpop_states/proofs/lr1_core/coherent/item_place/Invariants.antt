use Rattle.std.proofs.Common.{◌≡◌}
use Rattle.lalrpop_states.specs.Words.{Dotted, IsAt}
use Rattle.lalrpop_collections.specs.Words.{EachBelow}
use Rattle.lalrpop_states.proofs.lr1_core.coherent.item_place.Given as goal

abbrev pub invariant-loop-place : goal.invariant-loop-place
invariant-loop-place g l = l.from ≡ 0 → EachBelow (λ (item : Dotted g.row.L.Denot). ¬ IsAt item l.production l.index) l.items l.place
