-- A graph whose least sets are the follow sets of nonterminals in states (DeRemer and Pennello
-- 1982). Each node is a pair of a state and a nonterminal.
use Rattle.std.specs.Prelude.{◌≡◌, true, ℕ, ◌<◌, ◌↔◌, List, length, slice_get, Contains, Some}
use Rattle.std.specs.declared.alloc.Global.{Global}
use Rattle.std.specs.declared.vec.Vec.{Vec}
use Rattle.lalrpop_grammar.specs.grammars.Tokens.{IsBitOf}
use Rattle.lalrpop_grammar.specs.grammars.WellFormed.{Rules}
use Rattle.lalrpop_collections.specs.lists.Bits.{Bits, has}
use Rattle.lalrpop_collections.specs.lists.Spreading.{HoldsBit, edge_ends}
use Rattle.lalrpop_grammar.specs.states.States.{Contents}
use Rattle.lalrpop_grammar.specs.declared.lookahead.token.Token.{Token}
use Rattle.lalrpop_grammar.specs.declared.repr.NonterminalString.{NonterminalString}
use Rattle.lalrpop_grammar.specs.declared.repr.Production.{Production}
use Rattle.lalrpop_follow_sets.specs.lanes.FollowSets.{LeadsOver, FollowsAtOnce, IncludesFollow}

-- the node with the number n is the nonterminal a in the state s
abbrev pub IsFollowNode : List (ℕ × NonterminalString) → ℕ → ℕ → NonterminalString → Type 0
IsFollowNode nodes n s a = slice_get nodes n ≡ Some (s, a)

module _ (g : Rules) (start : NonterminalString) (states : ℕ → Contents) (nodes : List (ℕ × NonterminalString)) where
  -- the bit is that of a token which follows the nonterminal in the state at once
  abbrev pub HasBitAtOnce : ℕ → NonterminalString → ℕ → Type 0
  HasBitAtOnce s a bit = (t : Token) × IsBitOf g.terminals t bit × FollowsAtOnce g.productions start states s a t

  -- the sets hold the tokens that follow at once. An edge leads from a node to another exactly if
  -- the other includes its follow set. Each follow set that a node includes has a node
  pub record IsFollowGraph (sets : List Bits) (edges : List (Vec ℕ Global)) : Type 0 where
    pub counted : length edges ≡ length nodes
    pub in_range : (m n : ℕ) → Contains (edge_ends edges m) n → n < length nodes
    pub begun : (n s : ℕ) (a : NonterminalString) → IsFollowNode nodes n s a → (bit : ℕ) → HoldsBit sets n bit ↔ HasBitAtOnce s a bit
    pub edges_include : (m n r s : ℕ) (b a : NonterminalString) → IsFollowNode nodes m r b → IsFollowNode nodes n s a → Contains (edge_ends edges m) n → IncludesFollow g.productions states s a r b
    pub included_edges : (n s r : ℕ) (a b : NonterminalString) → IsFollowNode nodes n s a → IncludesFollow g.productions states s a r b → (m : ℕ) × IsFollowNode nodes m r b × Contains (edge_ends edges m) n

  -- the set has exactly the bits in the sets of some nodes: those of the production's nonterminal
  -- in the states from which the right side leads here
  abbrev pub IsUnionOver : List Bits → ℕ → Production → Bits → Type 0
  IsUnionOver sets s p set = (bit : ℕ) → (has set bit ≡ true) ↔ ((m : ℕ) × (r : ℕ) × IsFollowNode nodes m r p.nonterminal × LeadsOver states r p.symbols s × HoldsBit sets m bit)

  -- each state from which the production's right side leads here has a node for the production's
  -- nonterminal
  abbrev pub HasLookbackNodes : ℕ → Production → Type 0
  HasLookbackNodes s p = (r : ℕ) → LeadsOver states r p.symbols s → (m : ℕ) × IsFollowNode nodes m r p.nonterminal

-- each item of a state with the dot at the start has a node for its nonterminal in this state
abbrev pub HaveNodesAtStart : (ℕ → Contents) → List (ℕ × NonterminalString) → Type 0
HaveNodesAtStart states nodes = (r : ℕ) (q : Production) → Contains (states r).items (q, 0) → (m : ℕ) × IsFollowNode nodes m r q.nonterminal
