-- The conflicts of a state, and the canonical conflicts of a live prefix: shift/reduce and
-- reduce/reduce conflicts of Aho, Sethi and Ullman, section 4.7, as this project lists them.
use Rattle.std.specs.Prelude.{◌≡◌, ◌<◌, ◌↔◌, ◌⊎◌, ℕ, Bool, true, List, slice_get, Some, Contains}
use Rattle.std.specs.declared.cmp.Ordering.{Ordering}
use Rattle.std.specs.declared.cmp.Ordering.TheVariants.{Less, Equal, Greater}
use Rattle.lalrpop_grammar.specs.declared.repr.NonterminalString.{NonterminalString}
use Rattle.lalrpop_grammar.specs.declared.repr.TerminalString.{TerminalString}
use Rattle.lalrpop_grammar.specs.declared.repr.Production.{Production}
use Rattle.lalrpop_grammar.specs.declared.repr.Symbol.{Symbol}
use Rattle.lalrpop_grammar.specs.declared.lookahead.token.Token.{Token}
use Rattle.lalrpop_grammar.specs.declared.lookahead.token.Token.TheVariants.{Terminal as TokenOf}
use Rattle.lalrpop_grammar.specs.parsing.Validity.{IsLive, Action, Shift, Reduce, IsValidAction}
use Rattle.lalrpop_grammar.specs.states.States.{Reduction, Contents, Allows}

-- t is in the lookahead of the conflict between a reduction by p and an action. The action is a
-- shift of t, or a reduction by a production after p
abbrev pub IsInConflict : (Production → Production → Type 0) → (Token → Action → Type 0) → Production → Action → Token → Type 0
IsInConflict before takes p (Shift x) t = (t ≡ TokenOf x) × takes t (Shift x) × takes t (Reduce p)
IsInConflict before takes p (Reduce q) t = before p q × takes t (Reduce p) × takes t (Reduce q)

-- the contents of a conflict: a production to reduce by, another action, and the tokens on which
-- both are taken
pub record ConflictContents : Type 0 where
  pub production : Production
  pub action : Action
  pub lookahead : Token → Bool

-- a conflict has exactly the tokens of its lookahead, and at least one
pub record IsConflict (before : Production → Production → Type 0) (takes : Token → Action → Type 0) (c : ConflictContents) : Type 0 where
  pub some : (t : Token) × (c.lookahead t ≡ true)
  pub exact : (t : Token) → (c.lookahead t ≡ true) ↔ IsInConflict before takes c.production c.action t

-- conflicts with a shift come before those of two reductions. The former are ordered by the
-- terminal and then by the reduction, and the latter by the first reduction and then by the second
abbrev pub ActionPrecedes : (TerminalString → TerminalString → Type 0) → (Production → Production → Type 0) → Production → Production → Action → Action → Type 0
ActionPrecedes below before p q (Shift x) (Shift y) = below x y ⊎ ((x ≡ y) × before p q)
ActionPrecedes below before p q (Shift x) (Reduce b) = Unit {0}
ActionPrecedes below before p q (Reduce a) (Shift y) = ⊥
ActionPrecedes below before p q (Reduce a) (Reduce b) = before p q ⊎ ((p ≡ q) × before a b)

-- the list has all conflicts, each once, in that order
pub record AreConflicts (below : TerminalString → TerminalString → Type 0) (before : Production → Production → Type 0) (takes : Token → Action → Type 0) (cs : List ConflictContents) : Type 0 where
  pub each : (c : ConflictContents) → Contains cs c → IsConflict before takes c
  pub all : (p : Production) (a : Action) (t : Token) → IsInConflict before takes p a t → (c : ConflictContents) × Contains cs c × (c.production ≡ p) × (c.action ≡ a)
  pub ascending : (i j : ℕ) (c d : ConflictContents) → i < j → slice_get cs i ≡ Some c → slice_get cs j ≡ Some d → ActionPrecedes below before c.production d.production c.action d.action

-- x is less than y in an order
abbrev pub IsLess : {X : Type 0} → (X → X → Ordering) → X → X → Type 0
IsLess order x y = order x y ≡ Less

-- a total order, in which only equal values tie
pub record IsOrder {X : Type 0} (order : X → X → Ordering) : Type 0 where
  pub ties : (x y : X) → order x y ≡ Equal → x ≡ y
  pub turned : (x y : X) → order x y ≡ Greater → order y x ≡ Less
  pub turned_back : (x y : X) → order x y ≡ Less → order y x ≡ Greater

-- a list has a reduction by p before one by q
pub record StandsBefore (rs : List Reduction) (p q : Production) : Type 0 where
  pub i : ℕ
  pub j : ℕ
  pub r : Reduction
  pub s : Reduction
  pub before : i < j
  pub first : slice_get rs i ≡ Some r
  pub second : slice_get rs j ≡ Some s
  pub by_p : r.production ≡ p
  pub by_q : s.production ≡ q

-- the conflicts of a state whose reductions do not repeat. First come those of each shifted
-- terminal, ascending, with each reduction that holds it. Then come those of each two reductions
-- that share a token, with the first of the two as the production
abbrev pub AreConflictsOf : (TerminalString → TerminalString → Ordering) → Contents → List ConflictContents → Type 0
AreConflictsOf terminals s cs = AreConflicts (IsLess terminals) (StandsBefore s.reductions) (Allows s) cs

-- the canonical conflicts of a prefix are made likewise from its valid actions, with the lesser
-- production first
abbrev pub AreCanonicalConflicts : (TerminalString → TerminalString → Ordering) → (Production → Production → Ordering) → List Production → NonterminalString → List Symbol → List ConflictContents → Type 0
AreCanonicalConflicts terminals productions g start u cs = AreConflicts (IsLess terminals) (IsLess productions) (IsValidAction g start u) cs

-- the reductions of a state ascend
abbrev pub ReducesInOrder : (Production → Production → Ordering) → Contents → Type 0
ReducesInOrder order s = (i j : ℕ) (r q : Reduction) → i < j → slice_get s.reductions i ≡ Some r → slice_get s.reductions j ≡ Some q → order r.production q.production ≡ Less

-- a state has no conflict if no reduction holds a terminal that is shifted, and no two reductions
-- share a token
pub record HasNoConflict (s : Contents) : Type 0 where
  pub shifts : (x : TerminalString) (n : ℕ) (r : Reduction) → s.shift x ≡ Some n → Contains s.reductions r → r.holds (TokenOf x) ≡ true → ⊥
  pub reductions : (i j : ℕ) (r q : Reduction) (t : Token) → i < j → slice_get s.reductions i ≡ Some r → slice_get s.reductions j ≡ Some q → r.holds t ≡ true → q.holds t ≡ true → ⊥

-- no live prefix has a canonical conflict
abbrev pub HasNoCanonicalConflict : (Production → Production → Ordering) → List Production → NonterminalString → Type 0
HasNoCanonicalConflict order g start = (u : List Symbol) → IsLive g start u → (p : Production) (a : Action) (t : Token) → IsInConflict (IsLess order) (IsValidAction g start u) p a t → ⊥
