-- The conflicts of a state without lookahead, in order.
use Rattle.std.specs.Prelude.{List, [], ◌∷◌, ◌++◌, map}
use Rattle.std.specs.Borrow.{Bor}
use Rattle.lalrpop_grammar.specs.declared.repr.Production.{Production}
use Rattle.lalrpop_grammar.specs.declared.repr.TerminalString.{TerminalString}
use Rattle.lalrpop_states.specs.declared.lookahead.nil.Nil.{Nil}
use Rattle.lalrpop_states.specs.declared.lr1_core.state.StateIndex.{StateIndex}
use Rattle.lalrpop_states.specs.declared.lr1_core.state.Action.{Action}
use Rattle.lalrpop_states.specs.declared.lr1_core.state.Action.TheVariants.{Shift, Reduce}
use Rattle.lalrpop_states.specs.declared.lr1_core.state.Conflict.{Conflict}
use Rattle.lalrpop_states.specs.declared.lr1_core.state.State.{State}

-- the conflict of a reduction with an action
abbrev pub nil_conflict : StateIndex → Action → Nil × Bor Production → Conflict Nil
nil_conflict index action reduction = record { state = index; lookahead = record {}; production = reduction.1; action = action }

-- the conflicts of each shift with each reduction
abbrev pub nil_shift_conflicts : StateIndex → List (Nil × Bor Production) → List (TerminalString × StateIndex) → List (Conflict Nil)
nil_shift_conflicts index reductions [] = []
nil_shift_conflicts index reductions (e ∷ es) = map (nil_conflict index (Shift e.0 e.1)) reductions ++ nil_shift_conflicts index reductions es

-- the conflicts of each reduction after the first one with the first one
abbrev pub nil_reduce_conflicts : StateIndex → List (Nil × Bor Production) → List (Conflict Nil)
nil_reduce_conflicts index [] = []
nil_reduce_conflicts index (first ∷ others) = map (nil_conflict index (Reduce first.1)) others

-- the conflicts of a state: those of each shift with each reduction, and then those of each
-- reduction after the first one with the first one
abbrev pub nil_conflicts : State Nil → List (Conflict Nil)
nil_conflicts s = nil_shift_conflicts s.index s.reductions.items s.shifts.entries ++ nil_reduce_conflicts s.index s.reductions.items
