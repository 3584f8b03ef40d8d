-- Runs put together, and the outcomes of the rest of runs.
use Rattle.std.proofs.Common.{◌≡◌, ℕ, ◌+◌, List, [], ◌∷◌, sym, subst, ap, ◌∙◌, arith}
use Rattle.lalrpop_parser.proofs.Types.{State, TerminalString}
use Rattle.lalrpop_base.specs.Words.{Contents, Tree, Configuration, next_token, Reaches, here, further, begin, Outcome, Refused, Limit, IsParse, HasOutcome}
use Rattle.lalrpop_base.specs.Words.{parsed, stuck as stuck_at, other_end, cut_off as cut_off_at}
use Rattle.lalrpop_parser.specs.Words.{Reads, before, StopsReading, stuck, early_end, cut_off, HasOutcomeFrom, parsed_from, stuck_from, other_end_from, cut_off_from, IsFailure}
use Rattle.lalrpop_parser.specs.runs.Reading.{read}
use Rattle.lalrpop_parser.specs.declared.interpret.error.InterpretError.{InterpretError}
use Rattle.lalrpop_parser.specs.declared.interpret.error.InterpretError.TheVariants.{Refused as RefusedBy, Limit as LimitPassed, Memory}
use Rattle.lalrpop_grammar.proofs.theory.runs.Steps.{Reaches-append}

pub Reads-append : {states : ℕ → Contents} {n m : ℕ} {c d e : Configuration} → Reads states n c d → Reads states m d e → Reads states (n + m) c e
Reads-append {states} {m = m} {e = e} (read {c}) s = subst (λ k. Reads states k c e) (omega arith) s
Reads-append {states} {m = m} {e = e} (before {n} {c} t rest i h r) s = subst (λ k. Reads states k c e) (omega arith) (before t rest i h (Reads-append r s))

-- steps on terminals are steps
pub reads_reaches : {states : ℕ → Contents} {n : ℕ} {c d : Configuration} → Reads states n c d → Reaches states n c d
reads_reaches read = here
reads_reaches (before t rest i h r) = further h (reads_reaches r)

-- no parse has a terminal left
not_used_up : (trees : List Tree) (input : List TerminalString) (t : TerminalString) (rest : List TerminalString) → input ≡ t ∷ rest → (u : Tree) → IsParse trees input u → ⊥
not_used_up trees input t rest e u p = let h : t ∷ rest ≡ [] = sym e ∙ p.1 in cc

-- a stop while terminals are left is an outcome
pub stop_outcome : {states : ℕ → Contents} {b : Configuration} {left : ℕ} {o : Outcome} → StopsReading states b left o → HasOutcomeFrom states b left o
stop_outcome {states} {b} {left} (stuck n c t rest l r i e) = subst (λ u. HasOutcomeFrom states b left (Refused c.state u)) (ap next_token i) (stuck_from n c l (reads_reaches r) e)
stop_outcome {states} {b} {left} (early_end n c trees t rest l r i e) =
    subst (λ u. HasOutcomeFrom states b left (Refused c.state u)) (ap next_token i) (other_end_from n c trees l (reads_reaches r) e (not_used_up trees c.rest t rest i))
stop_outcome (cut_off c t rest r i e) = cut_off_from c (reads_reaches r) e

-- a stop after some steps is one of the whole run
pub stop_later : {states : ℕ → Contents} {b c : Configuration} {k left whole : ℕ} {o : Outcome} → Reads states k b c → k + left ≡ whole → StopsReading states c left o → StopsReading states b whole o
stop_later {k = k} r e (stuck n c t rest l s i h) = stuck (k + n) c t rest (omega arith) (Reads-append r s) i h
stop_later {k = k} r e (early_end n c trees t rest l s i h) = early_end (k + n) c trees t rest (omega arith) (Reads-append r s) i h
stop_later {states} {b} r e (cut_off c t rest s i h) = cut_off c t rest (subst (λ n. Reads states n b c) e (Reads-append r s)) i h

-- an outcome after some steps is that of the whole run
pub whole_outcome : {states : ℕ → Contents} {w : List TerminalString} {c : Configuration} {k left limit : ℕ} {o : Outcome} → Reaches states k (begin w) c → k + left ≡ limit → HasOutcomeFrom states c left o → HasOutcome states w limit o
whole_outcome {k = k} r e (parsed_from n c trees t l s h p) = parsed (k + n) c trees t (omega arith) (Reaches-append r s) h p
whole_outcome {k = k} r e (stuck_from n c l s h) = stuck_at (k + n) c (omega arith) (Reaches-append r s) h
whole_outcome {k = k} r e (other_end_from n c trees l s h p) = other_end (k + n) c trees (omega arith) (Reaches-append r s) h p
whole_outcome {states} {w} r e (cut_off_from c s h) = cut_off_at c (subst (λ n. Reaches states n (begin w) c) e (Reaches-append r s)) h

-- what follows from the outcome of an error holds of the error
pub failure_follows : {L : Type 0} (R Q : Outcome → Type 0) (states : List (State L)) → ((o : Outcome) → R o → Q o) → (e : InterpretError L) → IsFailure R states e → IsFailure Q states e
failure_follows R Q states f (RefusedBy state token) h = (h.0, h.1, f (Refused h.0 token) h.2)
failure_follows R Q states f LimitPassed h = f Limit h
failure_follows R Q states f Memory h = h
