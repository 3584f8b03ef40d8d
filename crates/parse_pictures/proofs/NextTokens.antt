-- Runs that shift all of a list, and those that stop before its end.
use Rattle.std.proofs.Common.{◌≡◌, ◌≤◌, ◌⊎◌, inl, inr, ℕ, List, [], ◌∷◌, ◌++◌, reverse, refl, sym, subst, ◌∙◌, arith}
use Rattle.lalrpop_base.specs.Words.{Configuration, Contents, Outcome, begin}
use Rattle.lalrpop_parser.specs.Words.{HasPartialOutcome, PartialOutcome, Reads, Stack, Stop, StopsReading, all_read, before, cut_off, early_end, stopped, stuck}
use Rattle.lalrpop_parser.specs.runs.Reading.{read}
use Rattle.lalrpop_grammar.specs.declared.repr.TerminalString.{TerminalString}
use Rattle.lalrpop_grammar.proofs.theory.runs.Steps.{Halts, ends_halts, stands_halts, goes_on_from, same_goes}
use Rattle.parse_pictures.specs.NextTokens.{AreNext, DoesNotShiftAll, ShiftsAll, IsAllShifted, next_first, no_next, other_first}

-- a run that shifts all of a list is at no configuration with a terminal left from which it does
-- not go on, nor at one after as many steps
never_all : {states : ℕ → Contents} {n m : ℕ} {b c d : Configuration} {t : TerminalString} {rest : List TerminalString} → Reads states n b c → c.rest ≡ [] → Reads states m b d → d.rest ≡ t ∷ rest → Halts states d ⊎ (n ≤ m) → ⊥
never_all {t = t} {rest} read e read f s = let h : [] ≡ t ∷ rest = sym e ∙ f in cc
never_all read e (before x r i h q) f s = let k : [] ≡ x ∷ r = sym e ∙ i in cc
never_all {states} {b = b} (before {d = c} x r i h q) e read f (inl halts) = goes_on_from states b c h halts
never_all (before x r i h q) e read f (inr less) = absurd (omega (arith, less))
never_all {states} {d = d} (before x r i h q) e (before {n = m} y z j k p) f (inl halts) =
    never_all q e (subst (λ g. Reads states m g d) (same_goes (sym k ∙ h)) p) f (inl halts)
never_all {states} {d = d} (before {n} x r i h q) e (before {n = m} y z j k p) f (inr less) =
    never_all q e (subst (λ g. Reads states m g d) (same_goes (sym k ∙ h)) p) f (inr (let l : n ≤ m = omega (arith, less) in l))

-- a run that stops while terminals are left does not shift all of them
stops_before : {states : ℕ → Contents} {b c : Configuration} {limit n : ℕ} {o : Outcome} → StopsReading states b limit o → n ≤ limit → Reads states n b c → c.rest ≡ [] → ⊥
stops_before {states} (stuck m d t rest l r i e) within reads ended = never_all reads ended r i (inl (stands_halts states d e))
stops_before {states} (early_end m d trees t rest l r i e) within reads ended = never_all reads ended r i (inl (ends_halts states d e))
stops_before (cut_off d t rest r i e) within reads ended = never_all reads ended r i (inr within)

-- a run has a stop or a stack, and not both
pub stop_or_stack : {states : ℕ → Contents} {b : Configuration} {limit : ℕ} (o : Outcome) → HasPartialOutcome states b limit (Stop o) → (stack : List ℕ) × HasPartialOutcome states b limit (Stack stack) → ⊥
stop_or_stack {states} {b} {limit} o stop shifted = go (Stop o) (Stack shifted.0) stop shifted.1 refl refl
  where
    go : (p q : PartialOutcome) → HasPartialOutcome states b limit p → HasPartialOutcome states b limit q → p ≡ Stop o → q ≡ Stack shifted.0 → ⊥
    go _ _ (all_read n c l r e) k f g = cc
    go _ _ (stopped u h) (all_read n c l r e) f g = stops_before h l r e
    go _ _ (stopped u h) (stopped v k) f g = cc

-- one more terminal with which the beginning goes on
pub next_after : {states : ℕ → Contents} {limit : ℕ} {w : List TerminalString} {ts us : List TerminalString} (t : TerminalString) → ShiftsAll states limit (w ++ t ∷ []) → AreNext states limit w ts us → AreNext states limit w (ts ++ t ∷ []) (us ++ t ∷ [])
next_after t goes no_next = next_first t [] [] goes no_next
next_after t goes (next_first x ts us h k) = next_first x (ts ++ t ∷ []) (us ++ t ∷ []) h (next_after t goes k)
next_after t goes (other_first x ts us h k) = other_first x (ts ++ t ∷ []) (us ++ t ∷ []) h (next_after t goes k)

-- one more terminal with which it does not
pub other_after : {states : ℕ → Contents} {limit : ℕ} {w : List TerminalString} {ts us : List TerminalString} (t : TerminalString) → DoesNotShiftAll states limit (w ++ t ∷ []) → AreNext states limit w ts us → AreNext states limit w (ts ++ t ∷ []) us
other_after t stops no_next = other_first t [] [] stops no_next
other_after t stops (next_first x ts us h k) = next_first x (ts ++ t ∷ []) us h (other_after t stops k)
other_after t stops (other_first x ts us h k) = other_first x (ts ++ t ∷ []) us h (other_after t stops k)

-- all of no terminals are shifted
pub none_shifted : (states : ℕ → Contents) (limit : ℕ) → IsAllShifted states limit []
none_shifted states limit = (reverse (0 ∷ []), all_read 0 (begin []) (omega arith) read refl)
