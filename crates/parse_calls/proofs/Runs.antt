-- One turn of a run, at a place of the tokens.
use Rattle.std.proofs.Common.{◌≡◌, ◌+◌, ◌<◌, ℕ, suc, List, ◌∷◌, drop, length, get_or, ap, ◌∙◌, sym, add-one}
use Rattle.std.proofs.lemmas.List.{drop_more}
use Rattle.parse_calls.specs.Runs.{Run, after_step, events_after, run, stack_after, step_of}
use Rattle.parse_calls.specs.Turns.{turn_at}
use Rattle.parse_calls.specs.declared.machine.Ending.{Ending}
use Rattle.parse_calls.specs.declared.machine.Step.{Step}
use Rattle.parse_calls.specs.declared.machine.Step.TheVariants.{Ended, GoesOn, Shifted}
use Rattle.parse_calls.specs.declared.turns.Turn.{Turn}

-- the tokens from a place on
from_place : (tokens : List ℕ) (at token : ℕ) → at < length tokens → token ≡ get_or tokens at 0 → drop at tokens ≡ token ∷ drop (at + 1) tokens
from_place tokens at token within is = drop_more tokens at 0 within ∙ ap (λ x. x ∷ drop (at + 1) tokens) (sym is)

module _ (numbers : List ℕ) (left new : ℕ) (stack events : List ℕ) (stack_now events_now tokens : List ℕ) (at token : ℕ) (turn : Turn)
    (spent : new + 1 ≡ left) (within : at < length tokens) (is : token ≡ get_or tokens at 0) (next : turn ≡ turn_at numbers stack token)
    (stacked : stack_now ≡ stack_after turn stack) (noted : events_now ≡ events_after turn token events) where
  -- the run after a step
  abbrev goes : List ℕ → List ℕ → Step → Run
  goes s e step = after_step step (run numbers new s e (drop (at + 1) tokens)) (run numbers new s e (token ∷ drop (at + 1) tokens))
      (λ ending. record { ending = ending; stack = s; events = e; left = new; unread = token ∷ drop (at + 1) tokens })

  -- the run makes the turn
  one_turn : (step : Step) → step ≡ step_of turn → run numbers left stack events (drop at tokens) ≡ goes stack_now events_now step
  one_turn step made =
      ap (λ k. run numbers k stack events (drop at tokens)) (sym spent ∙ add-one new)
      ∙ ap (run numbers (suc new) stack events) (from_place tokens at token within is)
      ∙ sym (ap (λ (t : Turn). goes (stack_after t stack) (events_after t token events) (step_of t)) next)
      ∙ sym (ap (goes (stack_after turn stack) (events_after turn token events)) made)
      ∙ sym (ap (λ s. goes s (events_after turn token events) step) stacked)
      ∙ sym (ap (λ e. goes stack_now e step) noted)

  -- after a shift it goes on with the next token
  pub shifted : Shifted ≡ step_of turn → run numbers new stack_now events_now (drop (at + 1) tokens) ≡ run numbers left stack events (drop at tokens)
  shifted made = sym (one_turn Shifted made)

  -- after a reduction it goes on with the same token
  pub goes_on : GoesOn ≡ step_of turn → run numbers new stack_now events_now (drop at tokens) ≡ run numbers left stack events (drop at tokens)
  goes_on made = ap (run numbers new stack_now events_now) (from_place tokens at token within is) ∙ sym (one_turn GoesOn made)

  -- or it ends
  pub has_ended : (ending : Ending) → Ended ending ≡ step_of turn → run numbers left stack events (drop at tokens) ≡ record { ending = ending; stack = stack_now; events = events_now; left = new; unread = drop at tokens }
  has_ended ending made = one_turn (Ended ending) made ∙ ap (λ (r : List ℕ). record { ending = ending; stack = stack_now; events = events_now; left = new; unread = r }) (sym (from_place tokens at token within is))
