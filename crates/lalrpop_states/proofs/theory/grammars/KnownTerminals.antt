-- Tokens and their bits, and the terminals with which a list of known symbols can begin.
use Rattle.std.proofs.Common.{◌≡◌, ℕ, ◌+◌, ◌<◌, inl, inr, List, [], ◌∷◌, ◌++◌, length, refl, sym, ◌∙◌, ap, subst, arith, Bool, true, cond, get_or, Option, Some, None}
use Rattle.std.specs.Prelude.{Contains}
use Rattle.std.proofs.lemmas.List.Elements.{Contains-append_left, Contains-append_right, Contains-append_cases}
use Rattle.std.proofs.lemmas.List.Sums.{fails_before_first}
use Rattle.std.specs.List.{position_or_len}
use Rattle.std.proofs.lemmas.Bool.{lt-ltb, cases_lt, false≢true}
use Rattle.lalrpop_collections.specs.Words.{Bits, has}
use Rattle.lalrpop_states.specs.Words.{has_at, holds_token, Begins}
use Rattle.lalrpop_grammar.specs.Words.{IsFirst, Derives, as_it_is, replace, place_in, Rules, HasKnownTerminals}
use Rattle.lalrpop_states.proofs.Types.{Production, Symbol, TerminalString, Token}
use Rattle.lalrpop_grammar.specs.declared.lookahead.token.Token.TheVariants.{Eof, Error, Terminal as TokenOf}
use Rattle.lalrpop_grammar.specs.declared.repr.Symbol.TheVariants.{Nonterminal, Terminal}
use Rattle.lalrpop_grammar.specs.contracts.repr.TerminalStringPartialEq.TheImpl as terminal_eq
use Rattle.lalrpop_grammar.specs.contracts.repr.TerminalStringEq.TheImpl as terminal_laws
use Rattle.lalrpop_collections.proofs.theory.lists.Members.{contains_head, place}
use Rattle.lalrpop_collections.proofs.theory.lists.Places.{same_some}

-- ---- the bit of a token
abbrev pub token_bit : List TerminalString → Token → Option ℕ
token_bit terminals Eof = Some (length terminals)
token_bit terminals Error = Some (length terminals + 1)
token_bit terminals (TokenOf t) = place_in terminals t

at_place : (set : Bits) (o : Option ℕ) → has_at set o ≡ true → (bit : ℕ) × (o ≡ Some bit) × (has set bit ≡ true)
at_place set None h = cc
at_place set (Some bit) h = (bit, refl, h)

pub held_bit : (terminals : List TerminalString) (set : Bits) (t : Token) → holds_token terminals set t ≡ true → (bit : ℕ) × (token_bit terminals t ≡ Some bit) × (has set bit ≡ true)
held_bit terminals set Eof h = (length terminals, refl, h)
held_bit terminals set Error h = (length terminals + 1, refl, h)
held_bit terminals set (TokenOf t) h = at_place set (place_in terminals t) h

pub bit_held : (terminals : List TerminalString) (set : Bits) (t : Token) (bit : ℕ) → token_bit terminals t ≡ Some bit → has set bit ≡ true → holds_token terminals set t ≡ true
bit_held terminals set Eof bit e h = subst (λ (n : ℕ). has set n ≡ true) (sym (same_some (length terminals) bit e)) h
bit_held terminals set Error bit e h = subst (λ (n : ℕ). has set n ≡ true) (sym (same_some (length terminals + 1) bit e)) h
bit_held terminals set (TokenOf t) bit e h = subst (λ (o : Option ℕ). has_at set o ≡ true) (sym e) h

-- a set with more bits holds more tokens
pub holds_more : (terminals : List TerminalString) (s u : Bits) (t : Token) → ((bit : ℕ) → has s bit ≡ true → has u bit ≡ true) → holds_token terminals s t ≡ true → holds_token terminals u t ≡ true
holds_more terminals s u t all h = let b = held_bit terminals s t h in bit_held terminals u t b.0 b.1 (all b.0 b.2)

-- ---- known terminals
abbrev AreKnown : List TerminalString → List Symbol → Type 0
AreKnown terminals l = (t : TerminalString) → Contains l (Terminal t) → Contains terminals t

known_of : (terminals : List TerminalString) (l : List Symbol) → HasKnownTerminals terminals l → AreKnown terminals l
known_of terminals l h t c = let at = place l (Terminal t) c in h at.0 t at.2

known_derived : (g : Rules) → ((p : Production) → Contains g.productions p → HasKnownTerminals g.terminals p.symbols) → {l m : List Symbol} → Derives g.productions l m → AreKnown g.terminals l → AreKnown g.terminals m
known_derived g known as_it_is k = k
known_derived g known (replace before after p among d) k = known_derived g known d (λ t c.
    elim (Contains-append_cases before (p.symbols ++ after) (Terminal t) c) [
      | inl f ↦ k t (Contains-append_left before (Nonterminal p.nonterminal ∷ after) (Terminal t) f)
      | inr r ↦ elim (Contains-append_cases p.symbols after (Terminal t) r) [
        | inl s ↦ known_of g.terminals p.symbols (known p among) t s
        | inr b ↦ k t (Contains-append_right before (Nonterminal p.nonterminal ∷ after) (Terminal t) (Contains-append_right (Nonterminal p.nonterminal ∷ []) after (Terminal t) b))
      ]
    ])

first_known : (g : Rules) → ((p : Production) → Contains g.productions p → HasKnownTerminals g.terminals p.symbols) → (l : List Symbol) (t : TerminalString) → HasKnownTerminals g.terminals l → IsFirst g.productions l t → Contains g.terminals t
first_known g known l t h f = known_derived g known f.1 (known_of g.terminals l h) t (contains_head (Terminal t) f.0)

-- a terminal of the list has a place
place_found : (terminals : List TerminalString) (t : TerminalString) → Contains terminals t → (bit : ℕ) × (place_in terminals t ≡ Some bit)
place_found terminals t c =
    let same : TerminalString → Bool = λ x. terminal_eq.ghosts.eq x t in
    let passes : same (get_or terminals c.0 t) ≡ true = ap same c.2 ∙ terminal_laws.Laws.laws-law.refl t in
    let within : position_or_len same terminals < length terminals = elim (cases_lt c.0 (position_or_len same terminals)) [
      | inl l ↦ absurd (false≢true (sym (fails_before_first same terminals c.0 t l) ∙ passes))
      | inr g ↦ let w = c.1 in omega arith
    ] in
    (position_or_len same terminals, ap (λ b. cond b (Some (position_or_len same terminals)) None) (lt-ltb (position_or_len same terminals) (length terminals) within))

-- a token with which a list of known symbols can begin has a bit
pub begun_bit : (g : Rules) → ((p : Production) → Contains g.productions p → HasKnownTerminals g.terminals p.symbols) → (l : List Symbol) → HasKnownTerminals g.terminals l → (t : Token) → Begins g l t → (bit : ℕ) × (token_bit g.terminals t ≡ Some bit)
begun_bit g known l h Eof b = absurd b
begun_bit g known l h Error b = absurd b
begun_bit g known l h (TokenOf t) b = place_found g.terminals t (first_known g known l t h b)
