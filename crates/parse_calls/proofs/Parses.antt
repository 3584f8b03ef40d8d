-- The answer for tokens, from that for the run over them.
use Rattle.std.proofs.Common.{◌≡◌, ◌-◌, ◌≤◌, ℕ, List, [], ◌∷◌, Some, drop, length, ap, sym, ◌∙◌, arith}
use Rattle.std.proofs.lemmas.List.{length-drop}
use Rattle.parse_calls.specs.Answers.{counts_for, ended, ended_by, parse_answer, parse_with}
use Rattle.parse_calls.specs.Expected.{expected_answer, expected_by, expected_of, expected_with}
use Rattle.parse_calls.specs.Runs.{IsRun, Run, run}
use Rattle.parse_calls.specs.declared.machine.Ending.{Ending}
use Rattle.parse_calls.specs.declared.machine.Machine.{Machine}
use Rattle.parse_calls.specs.declared.places.Counts.{Counts}

-- the run that a machine has made
abbrev pub run_of : Ending → ℕ → List ℕ → Machine → Run
run_of ending read tokens new = record { ending = ending; stack = new.stack.items; events = new.events.items; left = new.left; unread = drop read tokens }

-- it is one from the stack, the events and the steps that the machine had
pub made_from : (tables tokens : List ℕ) (left : ℕ) (stack events : List ℕ) {old new : Machine} {ending : Ending} {read : ℕ} → old.stack.items ≡ stack → old.events.items ≡ events → old.left ≡ left → IsRun tables old tokens ending read new → run tables left stack events tokens ≡ run_of ending read tokens new
made_from tables tokens left stack events {old} stacked noted steps made =
    sym (ap (λ k. run tables k old.stack.items old.events.items tokens) steps
    ∙ ap (λ s. run tables left s old.events.items tokens) stacked
    ∙ ap (λ e. run tables left stack e tokens) noted)
    ∙ made.same

-- how many tokens were read
read_back : (tokens : List ℕ) (read : ℕ) → read ≤ length tokens → length tokens - length (drop read tokens) ≡ read
read_back tokens read within = let cut = length-drop read tokens in omega (arith, cut, within)

module _ (tables tokens : List ℕ) (limit : ℕ) (counts : Counts) {old new : Machine} {ending : Ending} {read : ℕ}
    (known : Some counts ≡ counts_for tables tokens) (stacked : old.stack.items ≡ 0 ∷ []) (no_events : old.events.items ≡ []) (left : old.left ≡ limit)
    (made : IsRun tables old tokens ending read new) where
  -- the answer of `parse`
  pub parse_is : parse_answer tables tokens limit ≡ ended_by ending tables counts.terminals read new.left new.stack.items new.events.items
  parse_is =
      ap (parse_with tables tokens limit) (sym known)
      ∙ ap (ended tables tokens counts.terminals) (made_from tables tokens limit (0 ∷ []) [] stacked no_events left made)
      ∙ ap (λ k. ended_by ending tables counts.terminals k new.left new.stack.items new.events.items) (read_back tokens read made.within)

  -- the answer of `expected`
  pub expected_is : expected_answer tables tokens limit ≡ expected_by ending tables counts.terminals new.left new.stack.items
  expected_is =
      ap (expected_with tables tokens limit) (sym known)
      ∙ ap (expected_of tables counts.terminals) (made_from tables tokens limit (0 ∷ []) [] stacked no_events left made)
