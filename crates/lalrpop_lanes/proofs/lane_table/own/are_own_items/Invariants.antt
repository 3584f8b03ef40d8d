use Rattle.std.specs.Prelude.{Contains}
use Rattle.lalrpop_base.specs.Words.{Dotted, EachBelow, productions}
use Rattle.lalrpop_lanes.proofs.lane_table.own.are_own_items.Given as goal

abbrev pub invariant-loop-item : goal.invariant-loop-item
invariant-loop-item g l = EachBelow (λ (item : Dotted g.row.L.Denot). Contains (productions l.grammar) item.production) l.items l.item-index
