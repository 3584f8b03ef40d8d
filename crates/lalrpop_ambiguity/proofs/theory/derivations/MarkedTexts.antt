-- The text of steps with a mark, step by step.
use Rattle.std.proofs.Common.{◌≡◌, ◌==◌, zero, suc, Bool, false, List, [], ◌∷◌, ◌++◌, Option, None, Some, is_some, ℕ, refl, ap, append_assoc, arith}
use Rattle.std.proofs.lemmas.Bool.Decides.{nat_tests}
use Rattle.lalrpop_ambiguity.specs.Words.{Step, enters, meets_leaf, leaves_node, is_entering, step_text, steps_text}
use Rattle.lalrpop_ambiguity.specs.Words.{is_marked, left_after, mark_if, mark_text, marked_step_text, marked_steps, text_left}

not_zero : (n : ℕ) → (suc n == 0) ≡ false
not_zero n = grind (arith, nat_tests)

-- a step writes its text, with the mark before it if that is here. Then the other steps go on
pub turned : (left : Option ℕ) (is_first : Bool) (step : Step) (steps : List Step) →
    marked_step_text (is_marked left step) is_first step ++ text_left (left_after left step) (is_entering step) steps ≡ text_left left is_first (step ∷ steps)
turned None is_first step steps = refl
turned (Some n) is_first (enters p) steps = refl
turned (Some zero) is_first (meets_leaf x) steps = append_assoc (mark_text is_first) (step_text false (meets_leaf x)) (steps_text false steps)
turned (Some zero) is_first leaves_node steps = append_assoc (mark_text is_first) (step_text false leaves_node) (steps_text false steps)
turned (Some (suc n)) is_first (meets_leaf x) steps = ap (λ b. marked_step_text b is_first (meets_leaf x) ++ marked_steps n false steps) (not_zero n)
turned (Some (suc n)) is_first leaves_node steps = ap (λ b. marked_step_text b is_first leaves_node ++ marked_steps n false steps) (not_zero n)

-- after the last step the mark is written, if it was not before
pub ended : (left : Option ℕ) (is_first : Bool) → mark_if (is_some left) is_first ≡ text_left left is_first []
ended None is_first = refl
ended (Some n) is_first = refl
