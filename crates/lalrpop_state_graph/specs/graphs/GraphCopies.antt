-- The update of a graph after states were copied.
use Rattle.std.specs.Prelude.{◌≡◌, ℕ, Bool, false, not, ◌==◌, ◌&&◌, List, [], ◌∷◌, ◌++◌, map, filter, cond, length, Contains}
use Rattle.lalrpop_base.specs.Words.{Bits, number_in, retargeted}
use Rattle.lalrpop_grammar.specs.contracts.repr.SymbolPartialEq.TheImpl as symbol_partial_eq
use Rattle.lalrpop_grammar.specs.declared.repr.Symbol.{Symbol}
use Rattle.lalrpop_states.specs.declared.lr1_core.state.State.{State}
use Rattle.lalrpop_states.specs.declared.lr1_core.state.StateIndex.{StateIndex}
use Rattle.lalrpop_state_graph.specs.graphs.Copies.{AreCopies}
use Rattle.lalrpop_state_graph.specs.graphs.StateGraph.{Edge, edge, edges, IsGraphOf, origin_of, origins_of, targets_from, targets_of}
use Rattle.lalrpop_state_graph.specs.declared.state_graph.StateGraph.{StateGraph}

-- the origin of an edge: its symbol and its source
abbrev pub Origin : Type 0
Origin = Symbol × StateIndex

-- the edge that leads to the original of its target instead
abbrev pub retraced : List ℕ → Edge → Edge
retraced originals e = edge e.source e.symbol (retargeted (number_in originals) e.target)

-- whether the origin is not the source with the symbol
abbrev pub is_other : Symbol → StateIndex → Origin → Bool
is_other x source o = not ((o.1.0 == source.0) && symbol_partial_eq.ghosts.eq o.0 x)

-- the origins except that of the edge
abbrev pub without : Edge → List Origin → List Origin
without e os = filter (is_other e.symbol e.source) os

-- the origins of state n after an edge is moved from the state with the number `before`, to which
-- it led, to its target
abbrev pub origins_moved : ℕ → Edge → ℕ → List Origin → List Origin
origins_moved before e n os = cond (before == n) (without e os) os ++ cond (e.target.0 == n) (origin_of e ∷ []) []

-- the origins of state n after an edge is moved to its target, if the target is a copy
abbrev pub origins_after_move : List ℕ → Edge → ℕ → List Origin → List Origin
origins_after_move originals e n os = cond (number_in originals e.target.0 == e.target.0) os (origins_moved (number_in originals e.target.0) e n os)

-- the origins of state n after the edges are moved to their targets, one after the other
abbrev pub followed_all : List ℕ → List Edge → ℕ → List Origin → List Origin
followed_all originals [] n os = os
followed_all originals (e ∷ es) n os = followed_all originals es n (origins_after_move originals e n os)

-- the targets of the edges were added after the others of their sources;
-- edges to copies were moved from the originals
pub record FollowsInTurn (originals : List ℕ) (es : List Edge) (old new : StateGraph) : Type 0 where
  pub targets : (n : StateIndex) → targets_of new n ≡ targets_of old n ++ targets_from n es
  pub sources : (n : StateIndex) → origins_of new n ≡ followed_all originals es n.0 (origins_of old n)

-- the edges before and after those of the source are from other states;
-- the originals of the targets of the source, and the targets of the edges after, are no copies
pub record StandAmong (originals : List ℕ) (source : StateIndex) (front es back : List Edge) : Type 0 where
  pub before : (e : Edge) → Contains front e → e.source.0 ≡ source.0 → ⊥
  pub behind : (e : Edge) → Contains back e → e.source.0 ≡ source.0 → ⊥
  pub own : (e : Edge) → Contains (map (retraced originals) es ++ back) e → number_in originals e.target.0 ≡ e.target.0

-- if the old graph has the edges of the source to the originals of their targets, the new graph has
-- the edges to the targets in their places
abbrev pub FollowsEdges : List ℕ → StateIndex → List Edge → StateGraph → StateGraph → Type 0
FollowsEdges originals source es old new = (front back : List Edge) → StandAmong originals source front es back → IsGraphOf (front ++ (map (retraced originals) es ++ back)) old → IsGraphOf (front ++ (es ++ back)) new

-- if the states are copies of `count` states, and the old graph is that of these states, then the
-- new graph is that of the shown states
abbrev pub FollowsCopies : ℕ → List ℕ → List (State Bits) → List (State Bits) → StateGraph → StateGraph → Type 0
FollowsCopies count originals states shown old new = (handed : List (State Bits)) → length handed ≡ count → AreCopies false handed originals states → IsGraphOf (edges handed) old → IsGraphOf (edges shown) new
