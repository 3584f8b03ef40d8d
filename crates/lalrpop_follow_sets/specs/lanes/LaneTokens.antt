-- The tokens of a state's actions, as their lanes have them (Pager 1977).
use Rattle.std.specs.Prelude.{◌≡◌, ◌↔◌, ℕ, true, List, length, Some, Contains}
use Rattle.std.specs.Borrow.{Bor}
use Rattle.lalrpop_base.specs.Words.{Bits, has, IsLaneToken, Contents, IsBitOf, Action, Shift, Reduce, Rules}
use Rattle.lalrpop_states.specs.conflicts.StateConflicts.{IsConflictFree}
use Rattle.lalrpop_grammar.specs.declared.lookahead.token.Token.{Token}
use Rattle.lalrpop_grammar.specs.declared.lookahead.token.Token.TheVariants.{Terminal as TokenOf}
use Rattle.lalrpop_states.specs.declared.lr1_core.state.State.{State}
use Rattle.lalrpop_grammar.specs.declared.repr.NonterminalString.{NonterminalString}
use Rattle.lalrpop_grammar.specs.declared.repr.Production.{Production}

-- ---- resolved states
module _ (g : Rules) (start : NonterminalString) (places : ℕ → Contents) (s : ℕ) where
  -- the set has exactly the bits of the lane tokens of a production
  abbrev pub HasLaneBits : Bits → Production → Type 0
  HasLaneBits set p = (bit : ℕ) → (has set bit ≡ true) ↔ ((t : Token) × IsBitOf g.terminals t bit × IsLaneToken g.productions start places s p (length p.symbols) t)

  -- each reduction of the state holds exactly the bits of its lane tokens, and the state has no
  -- conflict
  pub record IsResolved (state : State Bits) : Type 0 where
    pub holds : (r : Bits × Bor Production) → Contains state.reductions.items r → HasLaneBits r.0 r.1.now
    pub free : IsConflictFree g.terminals state

-- ---- actions that share a token
module _ (g : List Production) (start : NonterminalString) (states : ℕ → Contents) (n : ℕ) where
  -- an action of the state, and one of its tokens: a shift has its terminal, and a reduction by a
  -- finished production has the lane tokens
  abbrev pub IsLaneAction : Token → Action → Type 0
  IsLaneAction t (Shift x) = (t ≡ TokenOf x) × ((m : ℕ) × ((states n).shift x ≡ Some m))
  IsLaneAction t (Reduce p) = Contains (states n).items (p, length p.symbols) × IsLaneToken g start states n p (length p.symbols) t

  -- two different actions of the state share a token
  pub record LanesMeet : Type 0 where
    pub first : Action
    pub second : Action
    pub apart : first ≡ second → ⊥
    pub token : Token
    pub here : IsLaneAction token first
    pub there : IsLaneAction token second
