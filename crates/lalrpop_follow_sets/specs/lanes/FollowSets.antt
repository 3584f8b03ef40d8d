-- Follow sets of nonterminals in states, and the lookahead sets of reductions (DeRemer and Pennello
-- 1982). Like lanes, the sets depend on items and edges alone.
use Rattle.std.specs.Prelude.{◌≡◌, true, ℕ, ◌↔◌, List, ◌∷◌, take, drop, Contains, Some}
use Rattle.lalrpop_grammar.specs.grammars.Grammar.{IsFirst, IsNullable}
use Rattle.lalrpop_grammar.specs.grammars.Tokens.{IsBitOf}
use Rattle.lalrpop_grammar.specs.grammars.WellFormed.{Rules}
use Rattle.lalrpop_collections.specs.lists.Bits.{Bits, has}
use Rattle.lalrpop_grammar.specs.states.States.{Contents, state_from}
use Rattle.lalrpop_states.specs.conflicts.StateConflicts.{IsConflictFree, StateReduction}
use Rattle.lalrpop_grammar.specs.declared.lookahead.token.Token.{Token}
use Rattle.lalrpop_grammar.specs.declared.lookahead.token.Token.TheVariants.{Eof, Terminal as TokenOf}
use Rattle.lalrpop_states.specs.declared.lr1_core.state.State.{State}
use Rattle.lalrpop_grammar.specs.declared.repr.NonterminalString.{NonterminalString}
use Rattle.lalrpop_grammar.specs.declared.repr.Production.{Production}
use Rattle.lalrpop_grammar.specs.declared.repr.Symbol.{Symbol}
use Rattle.lalrpop_grammar.specs.declared.repr.Symbol.TheVariants.{Nonterminal}
use Rattle.lalrpop_grammar.specs.declared.repr.TerminalString.{TerminalString}

-- the symbols, in order, lead from the first state to the second
abbrev pub LeadsOver : (ℕ → Contents) → ℕ → List Symbol → ℕ → Type 0
LeadsOver states from symbols to = state_from states from symbols ≡ Some to

-- a token follows a nonterminal in a state at once: it is in FIRST of the symbols after the
-- nonterminal in an item of the state, or it is Eof and the nonterminal is the start symbol
pub data FollowsAtOnce (g : List Production) (start : NonterminalString) (states : ℕ → Contents) : ℕ → NonterminalString → Token → Type 0 where
  is_first_behind : (s : ℕ) (a : NonterminalString) (q : Production) (dot : ℕ) (after : List Symbol) (t : TerminalString) → Contains (states s).items (q, dot) → drop dot q.symbols ≡ Nonterminal a ∷ after → IsFirst g after t → FollowsAtOnce g start states s a (TokenOf t)
  ends_input : (s : ℕ) → FollowsAtOnce g start states s start Eof

-- a nonterminal a in a state s includes the follow set of b in a state r: a is after the dot of an
-- item of s, which is of a production of b; the symbols after a are nullable, and those before the
-- dot lead from r to s
pub record IncludesFollow (g : List Production) (states : ℕ → Contents) (s : ℕ) (a : NonterminalString) (r : ℕ) (b : NonterminalString) : Type 0 where
  pub parent : Production
  pub dot : ℕ
  pub after : List Symbol
  pub item : Contains (states s).items (parent, dot)
  pub behind : drop dot parent.symbols ≡ Nonterminal a ∷ after
  pub nullable : IsNullable g after
  pub leads : LeadsOver states r (take dot parent.symbols) s
  pub own : parent.nonterminal ≡ b

-- a token is in the follow set of a nonterminal in a state: it follows at once, or it is in a
-- follow set that this one includes
pub data InFollow (g : List Production) (start : NonterminalString) (states : ℕ → Contents) : ℕ → NonterminalString → Token → Type 0 where
  at_once : {s : ℕ} {a : NonterminalString} {t : Token} → FollowsAtOnce g start states s a t → InFollow g start states s a t
  included : {r s : ℕ} {a b : NonterminalString} {t : Token} → IncludesFollow g states s a r b → InFollow g start states r b t → InFollow g start states s a t

-- a token is in the lookahead set of a production in a state: it is in the follow set of the
-- production's nonterminal in a state from which the right side leads here
pub record IsLookahead (g : List Production) (start : NonterminalString) (states : ℕ → Contents) (s : ℕ) (p : Production) (t : Token) : Type 0 where
  pub from : ℕ
  pub leads : LeadsOver states from p.symbols s
  pub follows : InFollow g start states from p.nonterminal t

module _ (g : Rules) (start : NonterminalString) (states : ℕ → Contents) (s : ℕ) where
  -- the set has exactly the bits of the lookahead set of a production
  abbrev pub HasLookaheadBits : Bits → Production → Type 0
  HasLookaheadBits set p = (bit : ℕ) → (has set bit ≡ true) ↔ ((t : Token) × IsBitOf g.terminals t bit × IsLookahead g.productions start states s p t)

  -- each reduction of the state holds exactly the bits of its lookahead set, and the state has no
  -- conflict
  pub record HoldsLookaheads (state : State Bits) : Type 0 where
    pub holds : (r : StateReduction) → Contains state.reductions.items r → HasLookaheadBits r.0 r.1.now
    pub free : IsConflictFree g.terminals state
