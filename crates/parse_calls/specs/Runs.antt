-- Runs over tokens, by a list of numbers.
use Rattle.std.specs.Prelude.{◌≡◌, ◌≤◌, ℕ, zero, suc, List, [], ◌∷◌, ◌++◌, drop, length, take}
use Rattle.parse_calls.specs.Turns.{turn_at}
use Rattle.parse_calls.specs.declared.machine.Ending.{Ending}
use Rattle.parse_calls.specs.declared.machine.Ending.TheVariants.{AllShifted, CutOff, Faulty as FaultyEnd, Finished, Refused}
use Rattle.parse_calls.specs.declared.machine.Machine.{Machine}
use Rattle.parse_calls.specs.declared.machine.Step.{Step}
use Rattle.parse_calls.specs.declared.machine.Step.TheVariants.{Ended, GoesOn, Shifted}
use Rattle.parse_calls.specs.declared.turns.Turn.{Turn}
use Rattle.parse_calls.specs.declared.turns.Turn.TheVariants.{Ends, Faulty, Reduces, Shifts, Stuck}

-- what a turn does with its token: it shifts it, it goes on with it, or it ends the run
abbrev pub step_of : Turn → Step
step_of Faulty = Ended FaultyEnd
step_of Stuck = Ended Refused
step_of (Shifts target) = Shifted
step_of (Reduces production rest target) = GoesOn
step_of (Ends production alone) = Ended (Finished alone)

-- the stack after a turn. A shift pushes its state. A reduction leaves so many states and pushes
-- its state
abbrev pub stack_after : Turn → List ℕ → List ℕ
stack_after Faulty stack = stack
stack_after Stuck stack = stack
stack_after (Shifts target) stack = stack ++ target ∷ []
stack_after (Reduces production rest target) stack = take rest stack ++ target ∷ []
stack_after (Ends production alone) stack = stack

-- the numbers of events after a turn on a token: 0 and the token for a shift, and 1 and the
-- production for a reduction
abbrev pub events_after : Turn → ℕ → List ℕ → List ℕ
events_after Faulty token events = events
events_after Stuck token events = events
events_after (Shifts target) token events = events ++ 0 ∷ token ∷ []
events_after (Reduces production rest target) token events = events ++ 1 ∷ production ∷ []
events_after (Ends production alone) token events = events ++ 1 ∷ production ∷ []

-- how a run ends by a turn if no step is left
abbrev pub halted : Turn → Ending
halted Faulty = FaultyEnd
halted Stuck = Refused
halted (Shifts target) = CutOff
halted (Reduces production rest target) = CutOff
halted (Ends production alone) = CutOff

-- a run over tokens: how it ended, its stack and the numbers of its events at the end, how many
-- steps are left, and the tokens that were not shifted
pub record Run : Type 0 where
  pub ending : Ending
  pub stack : List ℕ
  pub events : List ℕ
  pub left : ℕ
  pub unread : List ℕ

-- the run that goes on after a step: with the tokens after the shifted one, with the same tokens,
-- or not at all
abbrev pub after_step : Step → Run → Run → (Ending → Run) → Run
after_step Shifted shifted same ended = shifted
after_step GoesOn shifted same ended = same
after_step (Ended ending) shifted same ended = ended ending

-- the run over tokens from a stack, with at most so many steps, after events with these numbers
abbrev pub run : List ℕ → ℕ → List ℕ → List ℕ → List ℕ → Run
run numbers left stack events [] = record { ending = AllShifted; stack = stack; events = events; left = left; unread = [] }
run numbers zero stack events (token ∷ tokens) = record { ending = halted (turn_at numbers stack token); stack = stack; events = events; left = zero; unread = token ∷ tokens }
run numbers (suc left) stack events (token ∷ tokens) =
    let turn = turn_at numbers stack token in
    after_step (step_of turn) (run numbers left (stack_after turn stack) (events_after turn token events) tokens)
    (run numbers left (stack_after turn stack) (events_after turn token events) (token ∷ tokens))
    (λ ending. record { ending = ending; stack = stack_after turn stack; events = events_after turn token events; left = left; unread = token ∷ tokens })

-- a machine has made a run over tokens, of which so many were shifted
pub record IsRun (numbers : List ℕ) (old : Machine) (tokens : List ℕ) (ending : Ending) (read : ℕ) (new : Machine) : Type 0 where
  pub same : run numbers old.left old.stack.items old.events.items tokens ≡ record { ending = ending; stack = new.stack.items; events = new.events.items; left = new.left; unread = drop read tokens }
  pub within : read ≤ length tokens
