-- Reductions whose backtraces differ in their first edges alone. Each of their graphs can be made
-- from that of another.
use Rattle.std.specs.Prelude.{◌≡◌, ◌↔◌, List, Contains, take, slice_get, None}
use Rattle.lalrpop_base.specs.Words.{Bits, Dotted}
use Rattle.lalrpop_states.specs.declared.lookahead.nil.Nil.{Nil}
use Rattle.lalrpop_states.specs.declared.lr1_core.state.State.{State}
use Rattle.lalrpop_states.specs.declared.lr1_core.state.StateIndex.{StateIndex}
use Rattle.lalrpop_state_graph.specs.Words.{edges}
use Rattle.lalrpop_state_graph.specs.graphs.StateGraph.{LeadsTo}

-- the states are those in which an item of a state began
abbrev pub BeganIn : List (State Bits) → StateIndex → Dotted Nil → List StateIndex → Type 0
BeganIn states state item sources = (r : StateIndex) → Contains sources r ↔ LeadsTo (edges states) r (take item.index item.production.symbols) state

-- two finished items have the same nonterminal, and began in the same states
pub record AreAlike (states : List (State Bits)) (state : StateIndex) (item : Dotted Nil) (other : StateIndex) (like : Dotted Nil) : Type 0 where
  pub name : item.production.nonterminal ≡ like.production.nonterminal
  pub sources : (r : StateIndex) → LeadsTo (edges states) r (take item.index item.production.symbols) state ↔ LeadsTo (edges states) r (take like.index like.production.symbols) other
  pub finished : slice_get item.production.symbols item.index ≡ None
  pub finished_like : slice_get like.production.symbols like.index ≡ None
