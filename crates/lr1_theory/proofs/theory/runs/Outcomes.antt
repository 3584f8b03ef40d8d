-- Each run has exactly one outcome. One is found after as many steps as the limit allows. There is
-- no other, since each step is determined.
use Rattle.std.proofs.Common.{ap, ap₂, ◌≤◌, ◌≡◌, ℕ, zero, suc, ◌<◌, ◌⊎◌, inl, inr, List, [], ◌∷◌, sym, subst, refl, ◌∙◌, arith}
use mathlib.Core.List.{tail-eq_of_cons-eq, nil≢cons, cons≢nil}
use Rattle.lr1_theory.proofs.Types.{TerminalString, Token}
use Rattle.lalrpop_grammar.specs.Words.{Contents, Tree, Configuration, next_token, Move, Stands, Goes, Ends, move, Reaches, here, further, begin, Outcome, Parsed}
use Rattle.lalrpop_grammar.specs.Words.{Refused, Limit, HasOutcome, parsed, stuck, other_end, cut_off, IsParse}
use Rattle.lalrpop_grammar.proofs.theory.runs.Steps.{IsGoing, IsEnding, Halts, ends_halts, stands_halts, goes_on_from, together, no_longer, same_length}

-- an end is a parse, or it is not
pub parse_or_not : (trees : List Tree) (rest : List TerminalString) → ((t : Tree) × IsParse trees rest t) ⊎ ((t : Tree) → IsParse trees rest t → ⊥)
parse_or_not [] rest = inr (λ t h. nil≢cons h.0)
parse_or_not (t ∷ []) [] = inl (t, (refl, refl))
parse_or_not (t ∷ []) (x ∷ rest) = inr (λ u h. cons≢nil h.1)
parse_or_not (t ∷ u ∷ trees) rest = inr (λ v h. cons≢nil (tail-eq_of_cons-eq h.0))

-- after n steps a run has ended, or is at a configuration
pub data Came (states : ℕ → Contents) (b : Configuration) (n : ℕ) : Type 0 where
  halted : (m : ℕ) (c : Configuration) → m < n → Reaches states m b c → Halts states c → Came states b n
  goes : (c : Configuration) → Reaches states n b c → Came states b n

-- each run has ended after n steps, or is at a configuration
pub came : (states : ℕ → Contents) (n : ℕ) (b : Configuration) → Came states b n
came states zero b = goes b here
came states (suc n) b = go (move states b) refl (λ c. came states n c)
  where
    go : (m : Move) → move states b ≡ m → ((c : Configuration) → Came states c n) → Came states b (suc n)
    go Stands e more = halted 0 b (omega arith) here (stands_halts states b e)
    go (Ends trees) e more = halted 0 b (omega arith) here (ends_halts states b e)
    go (Goes c) e more = elim (more c) [
      | halted m d l r h ↦ halted (suc m) d (omega (arith, l)) (further e r) h
      | goes d r ↦ goes d (further e r)
    ]

-- each list and limit has an outcome
pub has_outcome : (states : ℕ → Contents) (w : List TerminalString) (limit : ℕ) → (o : Outcome) × HasOutcome states w limit o
has_outcome states w limit = go (came states limit (begin w))
  where
    ended : (n : ℕ) (c : Configuration) (trees : List Tree) → n < limit → Reaches states n (begin w) c → move states c ≡ Ends trees → (o : Outcome) × HasOutcome states w limit o
    ended n c trees l r e = elim (parse_or_not trees c.rest) [
      | inl p ↦ (Parsed p.0, parsed n c trees p.0 l r e p.1)
      | inr f ↦ (Refused c.state (next_token c.rest), other_end n c trees l r e f)
    ]

    early : (n : ℕ) (c : Configuration) → n < limit → Reaches states n (begin w) c → Halts states c → (m : Move) → move states c ≡ m → (o : Outcome) × HasOutcome states w limit o
    early n c l r h Stands e = (Refused c.state (next_token c.rest), stuck n c (omega (arith, l)) r e)
    early n c l r h (Ends trees) e = ended n c trees l r e
    early n c l r h (Goes d) e = absurd (goes_on_from states c d e h)

    late : (c : Configuration) → Reaches states limit (begin w) c → (m : Move) → move states c ≡ m → (o : Outcome) × HasOutcome states w limit o
    late c r Stands e = (Refused c.state (next_token c.rest), stuck limit c (omega arith) r e)
    late c r (Ends trees) e = (Limit, cut_off c r (λ k. subst IsEnding (sym e ∙ k) tt))
    late c r (Goes d) e = (Limit, cut_off c r (λ k. subst IsGoing (sym e ∙ k) tt))

    go : Came states (begin w) limit → (o : Outcome) × HasOutcome states w limit o
    go (halted n c l r h) = early n c l r h (move states c) refl
    go (goes c r) = late c r (move states c) refl

-- the outcome of a run that ends
abbrev pub verdict : ℕ → Token → List Tree → List TerminalString → Outcome
verdict s next (t ∷ []) [] = Parsed t
verdict s next _ _ = Refused s next

abbrev pub verdict_of : Configuration → Move → Outcome
verdict_of c Stands = Refused c.state (next_token c.rest)
verdict_of c (Goes d) = Limit
verdict_of c (Ends trees) = verdict c.state (next_token c.rest) trees c.rest

-- the outcome of a parse is the tree
pub verdict_parsed : (s : ℕ) (next : Token) (trees : List Tree) (rest : List TerminalString) (t : Tree) → IsParse trees rest t → verdict s next trees rest ≡ Parsed t
verdict_parsed s next trees rest t h = ap₂ (λ ts r. verdict s next ts r) h.0 h.1

-- the outcome of any other end is a refusal
pub verdict_refused : (s : ℕ) (next : Token) (trees : List Tree) (rest : List TerminalString) → ((t : Tree) → IsParse trees rest t → ⊥) → verdict s next trees rest ≡ Refused s next
verdict_refused s next [] rest h = refl
verdict_refused s next (t ∷ []) [] h = absurd (h t (refl, refl))
verdict_refused s next (t ∷ []) (x ∷ rest) h = refl
verdict_refused s next (t ∷ u ∷ trees) rest h = refl

-- an outcome is that of a configuration that halts, or the limit
pub data Came_to (states : ℕ → Contents) (w : List TerminalString) (limit : ℕ) (o : Outcome) : Type 0 where
  by_end : (n : ℕ) (c : Configuration) → (n < limit) ⊎ ((n ≤ limit) × (move states c ≡ Stands)) → Reaches states n (begin w) c → Halts states c → o ≡ verdict_of c (move states c) → Came_to states w limit o
  by_limit : (c : Configuration) → Reaches states limit (begin w) c → (move states c ≡ Stands → ⊥) → o ≡ Limit → Came_to states w limit o

-- each outcome is that of a configuration that halts, or the limit
pub came_to : {states : ℕ → Contents} {w : List TerminalString} {limit : ℕ} {o : Outcome} → HasOutcome states w limit o → Came_to states w limit o
came_to {states} (parsed n c trees t l r e p) = by_end n c (inl l) r (ends_halts states c e) (sym (ap (verdict_of c) e ∙ verdict_parsed c.state (next_token c.rest) trees c.rest t p))
came_to {states} (stuck n c l r e) = by_end n c (inr (l, e)) r (stands_halts states c e) (sym (ap (verdict_of c) e))
came_to {states} (other_end n c trees l r e f) = by_end n c (inl l) r (ends_halts states c e) (sym (ap (verdict_of c) e ∙ verdict_refused c.state (next_token c.rest) trees c.rest f))
came_to (cut_off c r h) = by_limit c r h refl

-- no run halts before the limit and reaches the limit
pub not_both_ways : {states : ℕ → Contents} {w : List TerminalString} {limit n : ℕ} {c d : Configuration} → (n < limit) ⊎ ((n ≤ limit) × (move states c ≡ Stands)) → Reaches states n (begin w) c → Halts states c → Reaches states limit (begin w) d → (move states d ≡ Stands → ⊥) → ⊥
not_both_ways (inl l) r h s k = let x = no_longer r h s in omega arith
not_both_ways {states} {w} {limit} {n} {c} (inr l) r h s k =
    let x = no_longer r h s in
    let same : n ≡ limit = omega (arith, x, l.0) in
    k (ap (move states) (sym (same_length (subst (λ i. Reaches states i (begin w) c) same r) s)) ∙ l.1)

-- a run has at most one outcome
pub one_outcome : (states : ℕ → Contents) (w : List TerminalString) (limit : ℕ) (o p : Outcome) → HasOutcome states w limit o → HasOutcome states w limit p → o ≡ p
one_outcome states w limit o p h k = go (came_to h) (came_to k)
  where
    go : Came_to states w limit o → Came_to states w limit p → o ≡ p
    go (by_end n c l r x e) (by_end m d i s y f) = e ∙ ap (λ z. verdict_of z (move states z)) (together r s x y).1 ∙ sym f
    go (by_end n c l r x e) (by_limit d s y f) = absurd (not_both_ways l r x s y)
    go (by_limit d s y f) (by_end n c l r x e) = absurd (not_both_ways l r x s y)
    go (by_limit c r x e) (by_limit d s y f) = e ∙ sym f
