-- Closures, tokens of closures, reached states and carried tokens are least: they are in each set
-- that has their first elements and is closed under their rules. The proofs are by induction.
use Rattle.std.proofs.Common.{◌≡◌, ℕ, suc, List, ◌∷◌, drop, Some}
use Rattle.std.specs.Prelude.{Contains}
use Rattle.lr1_theory.proofs.Types.{NonterminalString, Production, Symbol, TerminalString, Token}
use Rattle.lalrpop_grammar.specs.declared.repr.Symbol.TheVariants.{Nonterminal}
use Rattle.lalrpop_grammar.specs.declared.lookahead.token.Token.TheVariants.{Eof, Terminal as TokenOf}
use Rattle.lalrpop_grammar.specs.Words.{IsFirst, IsNullable, Contents, leads, InClosure, in_kernel, expanded, InTokenClosure, with_token, begins_rest, inherits}
use Rattle.lalrpop_grammar.specs.Words.{items_of, IsReached, IsCarried, eof_at_start, over, first_of_rest, through_rest}

-- a set that has the kernel, and the productions of each nonterminal after a dot, has the closure
pub closure_within :
    {g : List Production} {kernel : Production → ℕ → Type 0} (held : Production → ℕ → Type 0) → ((p : Production) (dot : ℕ) → kernel p dot → held p dot) →
    ((p q : Production) (dot : ℕ) (after : List Symbol) → held p dot → drop dot p.symbols ≡ Nonterminal q.nonterminal ∷ after → Contains g q → held q 0) → {p : Production} {dot : ℕ} → InClosure g kernel p dot → held p dot
closure_within held kernels expands {p} {dot} (in_kernel k) = kernels p dot k
closure_within held kernels expands (expanded {p} {dot} q after c e h) = expands p q dot after (closure_within held kernels expands c) e h

-- a set that has the tokens of the kernel, and those that its items give, has those of the closure
pub token_closure_within :
    {g : List Production} {items : Production → ℕ → Type 0} {kernel : Production → ℕ → Token → Type 0} (held : Production → ℕ → Token → Type 0) → ((p : Production) (dot : ℕ) (t : Token) → kernel p dot t → held p dot t) →
    ((p q : Production) (dot : ℕ) (after : List Symbol) (t : TerminalString) → items p dot → drop dot p.symbols ≡ Nonterminal q.nonterminal ∷ after → Contains g q → IsFirst g after t → held q 0 (TokenOf t)) →
    ((p q : Production) (dot : ℕ) (after : List Symbol) (t : Token) → held p dot t → drop dot p.symbols ≡ Nonterminal q.nonterminal ∷ after → Contains g q → IsNullable g after → held q 0 t) → {p : Production} {dot : ℕ} {t : Token} → InTokenClosure g items kernel p dot t → held p dot t
token_closure_within held kernels begins passes {p} {dot} {t} (with_token k) = kernels p dot t k
token_closure_within held kernels begins passes (begins_rest {p} {dot} {t} q after i e h f) = begins p q dot after t i e h f
token_closure_within held kernels begins passes (inherits {p} {dot} {t} q after c e h n) = passes p q dot after t (token_closure_within held kernels begins passes c) e h n

-- a set that has Eof at the start, and the tokens to which its tokens are carried, has all carried
-- tokens
pub carried_within :
    {g : List Production} {start : NonterminalString} {states : ℕ → Contents} (held : ℕ → Production → ℕ → Token → Type 0) → ((p : Production) → Contains g p → p.nonterminal ≡ start → held 0 p 0 Eof) →
    ((n m : ℕ) (x : Symbol) (p : Production) (dot : ℕ) (after : List Symbol) (t : Token) → held n p dot t → leads (states n) x ≡ Some m → drop dot p.symbols ≡ x ∷ after → held m p (suc dot) t) →
    ((n : ℕ) (p q : Production) (dot : ℕ) (after : List Symbol) (t : TerminalString) → IsReached states n → items_of states n p dot → drop dot p.symbols ≡ Nonterminal q.nonterminal ∷ after → Contains g q → IsFirst g after t → held n q 0 (TokenOf t)) →
    ((n : ℕ) (p q : Production) (dot : ℕ) (after : List Symbol) (t : Token) → held n p dot t → drop dot p.symbols ≡ Nonterminal q.nonterminal ∷ after → Contains g q → IsNullable g after → held n q 0 t) →
    {n : ℕ} {p : Production} {dot : ℕ} {t : Token} → IsCarried g start states n p dot t → held n p dot t
carried_within held starts shifts begins passes (eof_at_start p h e) = starts p h e
carried_within held starts shifts begins passes (over {n} {p} {dot} {t} m x after c e k) = shifts n m x p dot after t (carried_within held starts shifts begins passes c) e k
carried_within held starts shifts begins passes (first_of_rest {n} {p} {dot} {t} q after r i e h f) = begins n p q dot after t r i e h f
carried_within held starts shifts begins passes (through_rest {n} {p} {dot} {t} q after c e h k) = passes n p q dot after t (carried_within held starts shifts begins passes c) e h k
