-- What a run does next, by a list of numbers. A stack of states has the newest last.
use Rattle.std.specs.Prelude.{◌-◌, ◌==◌, ℕ, true, cond, List, length, slice_get, slice_index, Option, Some, None}
use Rattle.parse_calls.specs.Lookups.{action_at, goto_at, side_at}
use Rattle.parse_calls.specs.declared.lookups.Found.{Found}
use Rattle.parse_calls.specs.declared.lookups.Found.TheVariants.{Fault, Nothing, Reduce, Shift}
use Rattle.parse_calls.specs.declared.lookups.Target.{Target}
use Rattle.parse_calls.specs.declared.lookups.Target.TheVariants.{Fault as NoTarget, Nothing as NoGoto, State}
use Rattle.parse_calls.specs.declared.turns.Turn.{Turn}
use Rattle.parse_calls.specs.declared.turns.Turn.TheVariants.{Ends, Faulty, Reduces, Shifts, Stuck}

-- the turn of a reduction by a production that leaves so many states, by the goto of the last of
-- them. Without a goto it is the final one, and one tree is left if state 0 alone is
abbrev pub goto_turn : ℕ → ℕ → Target → Turn
goto_turn production rest NoTarget = Faulty
goto_turn production rest NoGoto = Ends production (rest == 1)
goto_turn production rest (State target) = Reduces production rest target

-- the turn of a reduction by a production to a nonterminal that leaves so many states. If it leaves
-- none, it is the final one, and one tree is left
abbrev pub rest_turn : List ℕ → List ℕ → ℕ → ℕ → ℕ → Turn
rest_turn numbers stack production name rest = cond (rest == 0) (Ends production true) (goto_turn production rest (goto_at numbers (slice_index stack (rest - 1)) name))

-- the turn of a reduction by a production, of which the nonterminal and the length are known. It
-- takes as many states from the stack as its right side is long
abbrev pub side_turn : List ℕ → List ℕ → ℕ → Option (ℕ × ℕ) → Turn
side_turn numbers stack production None = Faulty
side_turn numbers stack production (Some side) = rest_turn numbers stack production side.0 (length stack - side.1)

-- the turn of a reduction by the production with a number
abbrev pub reduction_turn : List ℕ → List ℕ → ℕ → Turn
reduction_turn numbers stack production = side_turn numbers stack production (side_at numbers production)

-- the turn by an action
abbrev pub action_turn : List ℕ → List ℕ → Found → Turn
action_turn numbers stack Fault = Faulty
action_turn numbers stack Nothing = Stuck
action_turn numbers stack (Shift target) = Shifts target
action_turn numbers stack (Reduce production) = reduction_turn numbers stack production

-- the turn by the action of a state on a token, if there is a state on the stack
abbrev pub top_turn : List ℕ → List ℕ → ℕ → Option ℕ → Turn
top_turn numbers stack token None = Faulty
top_turn numbers stack token (Some state) = action_turn numbers stack (action_at numbers state token)

-- the turn of a stack of states on a token
abbrev pub turn_at : List ℕ → List ℕ → ℕ → Turn
turn_at numbers stack token = top_turn numbers stack token (slice_get stack (length stack - 1))
