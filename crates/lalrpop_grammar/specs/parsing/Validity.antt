-- Which dotted productions, tokens and actions are valid for a prefix. The notions are the
-- textbook's (Knuth 1965, section II; Aho, Sethi and Ullman, section 4.7). Their form is this
-- project's: three rules define them, and not rightmost derivations. So symbols that derive no list
-- of terminals count too. A dotted production is a production and the number of its symbols before
-- the dot. The symbols after the dot are drop dot p.symbols.
use Rattle.std.specs.Prelude.{◌≡◌, ℕ, suc, ◌⊎◌, ◌↔◌, List, [], ◌∷◌, ◌++◌, drop, length, Contains}
use Rattle.lalrpop_grammar.specs.declared.repr.NonterminalString.{NonterminalString}
use Rattle.lalrpop_grammar.specs.declared.repr.Production.{Production}
use Rattle.lalrpop_grammar.specs.declared.repr.Symbol.{Symbol}
use Rattle.lalrpop_grammar.specs.declared.repr.Symbol.TheVariants.{Nonterminal, Terminal}
use Rattle.lalrpop_grammar.specs.declared.repr.TerminalString.{TerminalString}
use Rattle.lalrpop_grammar.specs.declared.lookahead.token.Token.{Token}
use Rattle.lalrpop_grammar.specs.declared.lookahead.token.Token.TheVariants.{Eof, Terminal as TokenOf}
use Rattle.lalrpop_grammar.specs.grammars.Grammar.{IsFirst, IsNullable}

-- the dotted productions valid for a prefix. Those of the start symbol are valid for the empty
-- prefix. A shift moves the dot over the symbol that the prefix gains. If a nonterminal is after
-- the dot, its productions are valid for the same prefix
pub data Valid (g : List Production) (start : NonterminalString) : List Symbol → Production → ℕ → Type 0 where
  starts : (p : Production) → Contains g p → p.nonterminal ≡ start → Valid g start [] p 0
  shifts : {u : List Symbol} {p : Production} {dot : ℕ} (x : Symbol) (after : List Symbol) → Valid g start u p dot → drop dot p.symbols ≡ x ∷ after → Valid g start (u ++ x ∷ []) p (suc dot)
  expands : {u : List Symbol} {p : Production} {dot : ℕ} (q : Production) (after : List Symbol) → Valid g start u p dot → drop dot p.symbols ≡ Nonterminal q.nonterminal ∷ after → Contains g q → Valid g start u q 0

-- the valid tokens of a dotted production. At the start there is Eof. A shift keeps the tokens. An
-- expansion gives FIRST of the symbols after the nonterminal and, if these are nullable, the tokens
-- of the parent
pub data ValidToken (g : List Production) (start : NonterminalString) : List Symbol → Production → ℕ → Token → Type 0 where
  at_start : (p : Production) → Contains g p → p.nonterminal ≡ start → ValidToken g start [] p 0 Eof
  kept : {u : List Symbol} {p : Production} {dot : ℕ} {t : Token} (x : Symbol) (after : List Symbol) → ValidToken g start u p dot t → drop dot p.symbols ≡ x ∷ after → ValidToken g start (u ++ x ∷ []) p (suc dot) t
  begins_behind : {u : List Symbol} {p : Production} {dot : ℕ} {t : TerminalString} (q : Production) (after : List Symbol) → Valid g start u p dot → drop dot p.symbols ≡ Nonterminal q.nonterminal ∷ after → Contains g q → IsFirst g after t → ValidToken g start u q 0 (TokenOf t)
  passed_on : {u : List Symbol} {p : Production} {dot : ℕ} {t : Token} (q : Production) (after : List Symbol) → ValidToken g start u p dot t → drop dot p.symbols ≡ Nonterminal q.nonterminal ∷ after → Contains g q → IsNullable g after → ValidToken g start u q 0 t

-- a prefix is live if it is empty or a dotted production is valid for it. This is this project's
-- form of a viable prefix
abbrev pub IsLive : List Production → NonterminalString → List Symbol → Type 0
IsLive g start u = (u ≡ []) ⊎ ((p : Production) × (dot : ℕ) × Valid g start u p dot)

-- x is after the dot of a dotted production valid for u
pub record IsAwaited (g : List Production) (start : NonterminalString) (u : List Symbol) (x : Symbol) : Type 0 where
  pub production : Production
  pub dot : ℕ
  pub after : List Symbol
  pub valid : Valid g start u production dot
  pub behind : drop dot production.symbols ≡ x ∷ after

-- an action of a parser
pub data Action : Type 0 where
  Shift : TerminalString → Action
  Reduce : Production → Action

-- an action is valid for prefix u and token t in two cases. It shifts t, which is awaited. Or it
-- reduces by a production whose dot is at its end, and whose tokens have t
abbrev pub IsValidAction : List Production → NonterminalString → List Symbol → Token → Action → Type 0
IsValidAction g start u t (Shift x) = (t ≡ TokenOf x) × IsAwaited g start u (Terminal x)
IsValidAction g start u t (Reduce p) = ValidToken g start u p (length p.symbols) t

-- LR(1), as Knuth 1965 has it except for the rules above: no prefix and token have two different
-- valid actions
abbrev pub IsLR1 : List Production → NonterminalString → Type 0
IsLR1 g start = (u : List Symbol) (t : Token) (a b : Action) → IsValidAction g start u t a → IsValidAction g start u t b → a ≡ b

-- the same dotted productions are valid for two prefixes
abbrev pub HaveSameItems : List Production → NonterminalString → List Symbol → List Symbol → Type 0
HaveSameItems g start u v = (p : Production) (dot : ℕ) → Valid g start u p dot ↔ Valid g start v p dot

-- the same tokens are valid for two prefixes
abbrev pub HaveSameTokens : List Production → NonterminalString → List Symbol → List Symbol → Type 0
HaveSameTokens g start u v = (p : Production) (dot : ℕ) (t : Token) → ValidToken g start u p dot t ↔ ValidToken g start v p dot t

-- an LALR token of a dotted production at u is valid for a live prefix with the same dotted
-- productions. It is what DeRemer and Pennello 1982 compute, but over prefixes and not over states
pub record IsLalrToken (g : List Production) (start : NonterminalString) (u : List Symbol) (p : Production) (dot : ℕ) (t : Token) : Type 0 where
  pub prefix : List Symbol
  pub live : IsLive g start prefix
  pub same : HaveSameItems g start u prefix
  pub valid : ValidToken g start prefix p dot t

-- the actions at u if each reduction has its LALR tokens
abbrev pub IsLalrAction : List Production → NonterminalString → List Symbol → Token → Action → Type 0
IsLalrAction g start u t (Shift x) = (t ≡ TokenOf x) × IsAwaited g start u (Terminal x)
IsLalrAction g start u t (Reduce p) = IsLalrToken g start u p (length p.symbols) t

-- LALR(1): at no live prefix two actions share a token, if each reduction has its LALR tokens
abbrev pub IsLALR1 : List Production → NonterminalString → Type 0
IsLALR1 g start = (u : List Symbol) → IsLive g start u → (t : Token) (a b : Action) → IsLalrAction g start u t a → IsLalrAction g start u t b → a ≡ b
