use Rattle.std.specs.Prelude.{Contains}
use Rattle.lalrpop_base.specs.Words.{Dotted, EachBelow, EachItem, productions}
use Rattle.lalrpop_lanes.proofs.Types.{State}
use Rattle.lalrpop_lanes.proofs.lane_table.own.have_own_items.Given as goal

abbrev pub invariant-loop-state : goal.invariant-loop-state
invariant-loop-state g l = EachBelow (λ (state : State g.row.L.Denot). EachItem (λ (item : Dotted g.row.L.Denot). Contains (productions l.grammar) item.production) state.items.vec.items) l.states l.state-index
