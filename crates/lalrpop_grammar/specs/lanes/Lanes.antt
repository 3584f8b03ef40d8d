-- States of dotted productions alone, and the tokens that are found by tracing back over them.
-- These are the lanes of Pager 1977, whose steps are the relations of DeRemer and Pennello 1982.
use Rattle.std.specs.Prelude.{◌≡◌, true, ℕ, suc, ◌↔◌, List, ◌∷◌, drop, length, Contains, Some}
use Rattle.lalrpop_grammar.specs.declared.repr.NonterminalString.{NonterminalString}
use Rattle.lalrpop_grammar.specs.declared.repr.TerminalString.{TerminalString}
use Rattle.lalrpop_grammar.specs.declared.repr.Production.{Production}
use Rattle.lalrpop_grammar.specs.declared.repr.Symbol.{Symbol}
use Rattle.lalrpop_grammar.specs.declared.repr.Symbol.TheVariants.{Nonterminal}
use Rattle.lalrpop_grammar.specs.declared.lookahead.token.Token.{Token}
use Rattle.lalrpop_grammar.specs.declared.lookahead.token.Token.TheVariants.{Eof, Terminal as TokenOf}
use Rattle.lalrpop_grammar.specs.grammars.Grammar.{IsFirst, IsNullable}
use Rattle.lalrpop_grammar.specs.parsing.Validity.{IsLive, HaveSameItems, IsLalrToken}
use Rattle.lalrpop_grammar.specs.states.States.{Contents, Reduction, leads, state_after, HaveRightItems}

-- LR(0) states: each live prefix has its state, prefixes with the same dotted productions share it,
-- and each state with an edge is the state of a live prefix
pub record AreLr0 (g : List Production) (start : NonterminalString) (states : ℕ → Contents) : Type 0 where
  pub each : HaveRightItems g start states
  pub shared : (u v : List Symbol) (n m : ℕ) → IsLive g start u → IsLive g start v → HaveSameItems g start u v → state_after states u ≡ Some n → state_after states v ≡ Some m → n ≡ m
  pub only : (n m : ℕ) (x : Symbol) → leads (states n) x ≡ Some m → (u : List Symbol) × IsLive g start u × (state_after states u ≡ Some n)

-- a pair of a state and a dotted production leads back over an edge. At the start of a production
-- it also leads back to each dotted production of the state that expands to it, if the rest of that
-- one is nullable
pub data LeadsBack (g : List Production) (states : ℕ → Contents) : ℕ → Production → ℕ → ℕ → Production → ℕ → Type 0 where
  over_edge : (r s : ℕ) (p : Production) (dot : ℕ) (x : Symbol) (after : List Symbol) → leads (states r) x ≡ Some s → drop dot p.symbols ≡ x ∷ after → LeadsBack g states s p (suc dot) r p dot
  to_parent : (s : ℕ) (p q : Production) (dot : ℕ) (after : List Symbol) → Contains (states s).items (q, dot) → drop dot q.symbols ≡ Nonterminal p.nonterminal ∷ after → IsNullable g after → LeadsBack g states s p 0 s q dot

-- the tokens that a pair gives. At the start of a production these are FIRST of the symbols after
-- its nonterminal in a dotted production of the state, and Eof for the start symbol
pub data Gives (g : List Production) (start : NonterminalString) (states : ℕ → Contents) : ℕ → Production → ℕ → Token → Type 0 where
  behind_parent : (s : ℕ) (p q : Production) (dot : ℕ) (after : List Symbol) (t : TerminalString) → Contains (states s).items (q, dot) → drop dot q.symbols ≡ Nonterminal p.nonterminal ∷ after → IsFirst g after t → Gives g start states s p 0 (TokenOf t)
  of_start : (s : ℕ) (p : Production) → p.nonterminal ≡ start → Gives g start states s p 0 Eof

-- the pairs to which a pair leads back in any number of steps, the pair itself among them
pub data IsTracedTo (g : List Production) (states : ℕ → Contents) : ℕ → Production → ℕ → ℕ → Production → ℕ → Type 0 where
  itself : {s : ℕ} {p : Production} {dot : ℕ} → IsTracedTo g states s p dot s p dot
  back : {s r n : ℕ} {p q k : Production} {dot e d : ℕ} → LeadsBack g states s p dot r q e → IsTracedTo g states r q e n k d → IsTracedTo g states s p dot n k d

-- a token in the row of a state: some pair of that state, to which the given pair leads back, gives
-- it
pub record IsLaneTokenAt (g : List Production) (start : NonterminalString) (states : ℕ → Contents) (s : ℕ) (p : Production) (dot : ℕ) (row : ℕ) (t : Token) : Type 0 where
  pub production : Production
  pub index : ℕ
  pub traced : IsTracedTo g states s p dot row production index
  pub gives : Gives g start states row production index t

-- a token in the column of a pair: it is in the row of some state
abbrev pub IsLaneToken : List Production → NonterminalString → (ℕ → Contents) → ℕ → Production → ℕ → Token → Type 0
IsLaneToken g start states s p dot t = (row : ℕ) × IsLaneTokenAt g start states s p dot row t

-- the right state is a successor of the left one if some step back over an edge leads from it to
-- the left one. The given pair leads back to the pair at which that step begins
pub record IsLaneSuccessor (g : List Production) (states : ℕ → Contents) (s : ℕ) (p : Production) (dot : ℕ) (left right : ℕ) : Type 0 where
  pub production : Production
  pub index : ℕ
  pub symbol : Symbol
  pub after : List Symbol
  pub traced : IsTracedTo g states s p dot right production (suc index)
  pub edge : leads (states left) symbol ≡ Some right
  pub behind : drop index production.symbols ≡ symbol ∷ after

-- each reduction holds exactly the tokens that tracing back finds
abbrev pub HoldLaneTokens : List Production → NonterminalString → (ℕ → Contents) → Type 0
HoldLaneTokens g start states = (n : ℕ) (r : Reduction) → Contains (states n).reductions r → (t : Token) → (r.holds t ≡ true) ↔ IsLaneToken g start states n r.production (length (r.production).symbols) t

-- each reduction of a state after a live prefix holds exactly its LALR tokens
abbrev pub HoldLalrTokens : List Production → NonterminalString → (ℕ → Contents) → Type 0
HoldLalrTokens g start states = (u : List Symbol) (n : ℕ) → IsLive g start u → state_after states u ≡ Some n → (r : Reduction) → Contains (states n).reductions r → (t : Token) → (r.holds t ≡ true) ↔ IsLalrToken g start u r.production (length (r.production).symbols) t
