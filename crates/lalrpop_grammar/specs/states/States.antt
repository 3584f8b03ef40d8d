-- States, and which of them are faithful to a grammar.
use Rattle.std.specs.Prelude.{◌≡◌, ◌<◌, ℕ, Bool, true, ◌↔◌, List, [], ◌∷◌, drop, length, slice_get, Contains, Option, Some, None}
use Rattle.lalrpop_grammar.specs.declared.repr.NonterminalString.{NonterminalString}
use Rattle.lalrpop_grammar.specs.declared.repr.TerminalString.{TerminalString}
use Rattle.lalrpop_grammar.specs.declared.repr.Production.{Production}
use Rattle.lalrpop_grammar.specs.declared.repr.Symbol.{Symbol}
use Rattle.lalrpop_grammar.specs.declared.repr.Symbol.TheVariants.{Nonterminal, Terminal}
use Rattle.lalrpop_grammar.specs.declared.lookahead.token.Token.{Token}
use Rattle.lalrpop_grammar.specs.declared.lookahead.token.Token.TheVariants.{Eof, Error, Terminal as TokenOf}
use Rattle.lalrpop_grammar.specs.parsing.Validity.{Valid, IsLive, Action, Shift, Reduce, IsValidAction}

-- a production to reduce by, and the tokens on which it is reduced
pub record Reduction : Type 0 where
  pub production : Production
  pub holds : Token → Bool

-- the contents of a state: its dotted productions, the targets of its shifts and gotos, and its
-- reductions in their order
pub record Contents : Type 0 where
  pub items : List (Production × ℕ)
  pub shift : TerminalString → Option ℕ
  pub goto : NonterminalString → Option ℕ
  pub reductions : List Reduction

-- the state to which a symbol leads from a state
abbrev pub leads : Contents → Symbol → Option ℕ
leads s (Terminal t) = s.shift t
leads s (Nonterminal a) = s.goto a

-- the result of a function at the value, if there is one
abbrev pub onward : Option ℕ → (ℕ → Option ℕ) → Option ℕ
onward None f = None
onward (Some n) f = f n

-- the state to which the shifts and gotos of a list of symbols lead from state n
abbrev pub state_from : (ℕ → Contents) → ℕ → List Symbol → Option ℕ
state_from states n [] = Some n
state_from states n (x ∷ u) = onward (leads (states n) x) (λ m. state_from states m u)

-- the state after a prefix
abbrev pub state_after : (ℕ → Contents) → List Symbol → Option ℕ
state_after states u = state_from states 0 u

-- a state allows an action on a token: a shift on its terminal, a reduction on each of its tokens
abbrev pub Allows : Contents → Token → Action → Type 0
Allows s t (Shift x) = (t ≡ TokenOf x) × ((n : ℕ) × (s.shift x ≡ Some n))
Allows s t (Reduce p) = (r : Reduction) × Contains s.reductions r × (r.production ≡ p) × (r.holds t ≡ true)

-- a symbol is after the dot of one of a state's dotted productions
pub record IsBehindDot (s : Contents) (x : Symbol) : Type 0 where
  pub production : Production
  pub dot : ℕ
  pub after : List Symbol
  pub item : Contains s.items (production, dot)
  pub behind : drop dot production.symbols ≡ x ∷ after

-- a state's shifts and gotos are exactly the symbols after its dots
abbrev pub LeadsOverDots : Contents → Type 0
LeadsOverDots s = (x : Symbol) → ((n : ℕ) × (leads s x ≡ Some n)) ↔ IsBehindDot s x

-- no two reductions of a list are by one production
abbrev pub HasNoRepeat : List Reduction → Type 0
HasNoRepeat rs = (i j : ℕ) (r q : Reduction) → i < j → slice_get rs i ≡ Some r → slice_get rs j ≡ Some q → r.production ≡ q.production → ⊥

-- a state's reductions are exactly its finished dotted productions, each once
pub record ReducesFinished (s : Contents) : Type 0 where
  pub finished : (p : Production) → ((r : Reduction) × Contains s.reductions r × (r.production ≡ p)) ↔ Contains s.items (p, length p.symbols)
  pub once : HasNoRepeat s.reductions

-- a state has the right items for a prefix if its dotted productions are exactly the valid ones.
-- Besides, its edges are the symbols after their dots, and its reductions are the finished ones.
-- The tokens of the reductions may be any
pub record HasRightItems (g : List Production) (start : NonterminalString) (u : List Symbol) (s : Contents) : Type 0 where
  pub items : (p : Production) (dot : ℕ) → Contains s.items (p, dot) ↔ Valid g start u p dot
  pub edges : LeadsOverDots s
  pub reductions : ReducesFinished s

-- the state after a prefix has the right items for it
pub record HasItemState (g : List Production) (start : NonterminalString) (states : ℕ → Contents) (u : List Symbol) : Type 0 where
  pub number : ℕ
  pub after : state_after states u ≡ Some number
  pub right : HasRightItems g start u (states number)

-- each live prefix has a state whose dotted productions are right for it
abbrev pub HaveRightItems : List Production → NonterminalString → (ℕ → Contents) → Type 0
HaveRightItems g start states = (u : List Symbol) → IsLive g start u → HasItemState g start states u

-- a token that can be next in an input: a terminal, or Eof at its end
abbrev pub CanStandNext : Token → Type 0
CanStandNext Eof = Unit {0}
CanStandNext Error = ⊥
CanStandNext (TokenOf t) = Unit {0}

-- a state is right for a prefix if its items are, every valid action is allowed, and no two actions
-- are allowed on one token
pub record IsRightFor (g : List Production) (start : NonterminalString) (u : List Symbol) (s : Contents) : Type 0 where
  pub contents : HasRightItems g start u s
  pub every : (t : Token) (a : Action) → IsValidAction g start u t a → Allows s t a
  pub one : (t : Token) → CanStandNext t → (a b : Action) → Allows s t a → Allows s t b → a ≡ b

-- the state after a prefix is right for it
pub record HasRightState (g : List Production) (start : NonterminalString) (states : ℕ → Contents) (u : List Symbol) : Type 0 where
  pub number : ℕ
  pub after : state_after states u ≡ Some number
  pub right : IsRightFor g start u (states number)

-- states are faithful to a grammar and a start symbol if each live prefix has its right state. The
-- notion is this project's, and does not depend on how the states were made
abbrev pub AreFaithful : List Production → NonterminalString → (ℕ → Contents) → Type 0
AreFaithful g start states = (u : List Symbol) → IsLive g start u → HasRightState g start states u
