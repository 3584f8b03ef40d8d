-- One token more that is tried.
use Rattle.std.proofs.Common.{◌≡◌, ◌+◌, ◌-◌, ◌<◌, ℕ, zero, suc, List, [], ◌∷◌, ◌++◌, ap, ◌∙◌, sym, arith}
use Rattle.parse_calls.specs.Expected.{by_may, expected_after, expected_from, may_end, may_shift, trial}
use Rattle.parse_calls.specs.declared.expected.May.{May}
use Rattle.parse_calls.specs.declared.expected.May.TheVariants.{Comes, DoesNot, Unknown}
use Rattle.parse_calls.specs.declared.machine.Ending.{Ending}
use Rattle.parse_calls.specs.declared.machine.Ending.TheVariants.{Refused}
use Rattle.parse_calls.specs.declared.turns.Turn.{Turn}
use Rattle.parse_calls.specs.declared.turns.Turn.TheVariants.{Stuck}
use Rattle.parse_calls.specs.Runs.{after_step, events_after, halted, run, stack_after, step_of}
use Rattle.parse_calls.specs.Turns.{turn_at}

-- a token without an action is refused, whatever steps are left
pub stuck_is_refused : (tables : List ℕ) (left : ℕ) (stack : List ℕ) (token : ℕ) → Stuck ≡ turn_at tables stack token → (trial tables left stack token).ending ≡ Refused
stuck_is_refused tables zero stack token none = sym (ap halted none)
stuck_is_refused tables (suc left) stack token none =
    let ending : Turn → Ending = λ t. (after_step (step_of t) (run tables left (stack_after t stack) (events_after t token []) []) (run tables left (stack_after t stack) (events_after t token []) (token ∷ [])) (λ ending. record { ending = ending; stack = stack_after t stack; events = events_after t token []; left = left; unread = token ∷ [] })).ending in
    sym (ap ending none)

module _ (tables : List ℕ) (left : ℕ) (stack : List ℕ) (end token : ℕ) (found : List ℕ) where
  module _ (within : token < end) where
    -- the answer by whether the terminal may come
    one_more : (may : May) → may ≡ may_shift (trial tables left stack token).ending → expected_from tables left stack end token found ≡ by_may may (expected_from tables left stack end (token + 1) (found ++ token ∷ [])) (expected_from tables left stack end (token + 1) found)
    one_more may is =
        let more : end - token ≡ suc (end - (token + 1)) = omega arith in
        ap (λ n. expected_after tables left stack n token found) more
        ∙ sym (ap (λ (m : May). by_may m (expected_from tables left stack end (token + 1) (found ++ token ∷ [])) (expected_from tables left stack end (token + 1) found)) is)

    -- a terminal that may come is found
    pub comes : Comes ≡ may_shift (trial tables left stack token).ending → expected_from tables left stack end (token + 1) (found ++ token ∷ []) ≡ expected_from tables left stack end token found
    comes is = sym (one_more Comes is)

    -- one that may not come is passed
    pub does_not : DoesNot ≡ may_shift (trial tables left stack token).ending → expected_from tables left stack end (token + 1) found ≡ expected_from tables left stack end token found
    does_not is = sym (one_more DoesNot is)

    -- or the call cannot say
    pub unknown : (status : ℕ) → Unknown status ≡ may_shift (trial tables left stack token).ending → expected_from tables left stack end token found ≡ record { status = status; numbers = [] }
    unknown status is = one_more (Unknown status) is

  -- the answer by whether the end of the input may come
  pub at_end : end ≡ token → (may : May) → may ≡ may_end (trial tables left stack token).ending → expected_from tables left stack end token found ≡ by_may may (record { status = 0; numbers = found ++ token ∷ [] }) (record { status = 0; numbers = found })
  at_end same may is =
      let none : end - token ≡ 0 = omega arith in
      ap (λ n. expected_after tables left stack n token found) none
      ∙ sym (ap (λ (m : May). by_may m (record { status = 0; numbers = found ++ token ∷ [] }) (record { status = 0; numbers = found })) is)
