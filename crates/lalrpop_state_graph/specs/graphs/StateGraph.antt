-- The edges of states, which are their shifts and gotos, and the graphs of these edges.
use Rattle.std.specs.Prelude.{◌≡◌, ℕ, suc, ◌==◌, ◌↔◌, ◌⊎◌, List, [], ◌∷◌, ◌++◌, map, filter, Option, Some, None, Contains, slice_get, cond}
use Rattle.std.specs.declared.cmp.Ordering.{Ordering}
use Rattle.std.specs.Ordering.{nat_cmp}
use Rattle.std.specs.declared.alloc.Global.{Global}
use Rattle.std.specs.declared.vec.Vec.{Vec}
use Rattle.lalrpop_grammar.specs.contracts.repr.SymbolPartialEq.TheImpl as symbol_partial_eq
use Rattle.lalrpop_grammar.specs.declared.repr.NonterminalString.{NonterminalString}
use Rattle.lalrpop_grammar.specs.declared.repr.TerminalString.{TerminalString}
use Rattle.lalrpop_grammar.specs.declared.repr.Symbol.{Symbol}
use Rattle.lalrpop_grammar.specs.declared.repr.Symbol.TheVariants.{Nonterminal, Terminal}
use Rattle.lalrpop_states.specs.declared.lr1_core.state.State.{State}
use Rattle.lalrpop_states.specs.declared.lr1_core.state.StateIndex.{StateIndex}
use Rattle.lalrpop_state_graph.specs.declared.state_graph.StateGraph.{StateGraph}

-- an edge: the symbol leads from the source to the target
pub record Edge : Type 0 where
  pub source : StateIndex
  pub symbol : Symbol
  pub target : StateIndex

-- the edge with a source, a symbol and a target
abbrev pub edge : StateIndex → Symbol → StateIndex → Edge
edge source symbol target = record { source = source; symbol = symbol; target = target }

-- the edge from a source over a symbol to a target, of which the last two are a pair
abbrev pub edge_from : StateIndex → Symbol × StateIndex → Edge
edge_from source e = edge source e.0 e.1

-- the edges of the shifts of a state, in order
abbrev pub shift_edges : StateIndex → List (TerminalString × StateIndex) → List Edge
shift_edges n shifts = map (λ (e : TerminalString × StateIndex). edge n (Terminal e.0) e.1) shifts

-- the edges of the gotos of a state, in order
abbrev pub goto_edges : StateIndex → List (NonterminalString × StateIndex) → List Edge
goto_edges n gotos = map (λ (e : NonterminalString × StateIndex). edge n (Nonterminal e.0) e.1) gotos

module _ {L : Type 0} where
  -- the edges of the state with the number: its shifts, then its gotos
  abbrev pub edges_of : StateIndex → State L → List Edge
  edges_of n state = shift_edges n state.shifts.entries ++ goto_edges n state.gotos.entries

  -- the edges of states whose numbers begin at n
  abbrev pub edges_from : ℕ → List (State L) → List Edge
  edges_from n [] = []
  edges_from n (state ∷ states) = edges_of (record { 0 = n }) state ++ edges_from (suc n) states

  -- the edges of states by rising source; the number of a state is its index in the list
  abbrev pub edges : List (State L) → List Edge
  edges states = edges_from 0 states

-- the edges lead over the symbols, in order, from the first state to the second
pub data LeadsTo (es : List Edge) : StateIndex → List Symbol → StateIndex → Type 0 where
  nowhere : {s : StateIndex} → LeadsTo es s [] s
  over : {r m s : StateIndex} {x : Symbol} {symbols : List Symbol} → Contains es (edge r x m) → LeadsTo es m symbols s → LeadsTo es r (x ∷ symbols) s

-- the target of an edge
abbrev pub edge_target : Edge → StateIndex
edge_target e = e.target

-- the symbol and source of an edge
abbrev pub origin_of : Edge → Symbol × StateIndex
origin_of e = (e.symbol, e.source)

-- the targets of the edges from a state
abbrev pub targets_from : StateIndex → List Edge → List StateIndex
targets_from n es = map edge_target (filter (λ (e : Edge). e.source.0 == n.0) es)

-- the symbols and sources of the edges to a state
abbrev pub origins : StateIndex → List Edge → List (Symbol × StateIndex)
origins n es = map origin_of (filter (λ (e : Edge). e.target.0 == n.0) es)

-- the order of states by their numbers
abbrev pub state_cmp : StateIndex → StateIndex → Ordering
state_cmp a b = nat_cmp a.0 b.0

-- the values of a list, or none if there is no list
abbrev pub listed : {X : Type 0} → Option (Vec X Global) → List X
listed None = []
listed (Some list) = list.items

-- the values of the list with a number, or none if there is no such list
abbrev pub list_at : {X : Type 0} → List (Vec X Global) → ℕ → List X
list_at lists n = listed (slice_get lists n)

-- each number has the same values as before
abbrev pub AreSameLists : {X : Type 0} → List (Vec X Global) → List (Vec X Global) → Type 0
AreSameLists old new = (n : ℕ) → list_at new n ≡ list_at old n

-- the value was added after the others of the number, and other numbers have the same values
abbrev pub IsListedAt : {X : Type 0} → ℕ → X → List (Vec X Global) → List (Vec X Global) → Type 0
IsListedAt number x old new = (n : ℕ) → list_at new n ≡ list_at old n ++ cond (number == n) (x ∷ []) []

-- the function was applied to the values of the number, and other numbers have the same values
abbrev pub IsChangedAt : {X : Type 0} → ℕ → (List X → List X) → List (Vec X Global) → List (Vec X Global) → Type 0
IsChangedAt number f old new = (n : ℕ) → list_at new n ≡ cond (number == n) (f (list_at old n)) (list_at old n)

-- the function that removes all values
abbrev pub nothing : {X : Type 0} → List X → List X
nothing xs = []

-- the targets of the edges from a state in a graph
abbrev pub targets_of : StateGraph → StateIndex → List StateIndex
targets_of graph n = list_at graph.successors.items n.0

-- the symbols and sources of the edges to a state in a graph
abbrev pub origins_of : StateGraph → StateIndex → List (Symbol × StateIndex)
origins_of graph n = list_at graph.predecessors.items n.0

-- the sources of the origins that have the symbol
abbrev pub with_symbol : Symbol → List (Symbol × StateIndex) → List StateIndex
with_symbol x list = map (λ (e : Symbol × StateIndex). e.1) (filter (λ (e : Symbol × StateIndex). symbol_partial_eq.ghosts.eq e.0 x) list)

-- the sources of the edges over the symbol to a state in a graph
abbrev pub sources_over : StateGraph → Symbol → StateIndex → List StateIndex
sources_over graph x n = with_symbol x (origins_of graph n)

-- the graph has the edges, in their order, and no others
pub record IsGraphOf (es : List Edge) (graph : StateGraph) : Type 0 where
  pub targets : (n : StateIndex) → targets_of graph n ≡ targets_from n es
  pub sources : (n : StateIndex) → origins_of graph n ≡ origins n es

-- the edges were added after the others
pub record IsGrown (es : List Edge) (old new : StateGraph) : Type 0 where
  pub targets : (n : StateIndex) → targets_of new n ≡ targets_of old n ++ targets_from n es
  pub sources : (n : StateIndex) → origins_of new n ≡ origins_of old n ++ origins n es

-- the lists have the same states
abbrev pub HaveSameStates : List StateIndex → List StateIndex → Type 0
HaveSameStates states list = (r : StateIndex) → Contains list r ↔ Contains states r

-- the states were added to the list, and no others
abbrev pub AddsStates : List StateIndex → List StateIndex → List StateIndex → Type 0
AddsStates added old new = (r : StateIndex) → Contains new r ↔ (Contains old r ⊎ Contains added r)

-- the sources are the states from which the symbol leads to one of the states
abbrev pub IsStepBack : StateGraph → Symbol → List StateIndex → List StateIndex → Type 0
IsStepBack graph x states sources = (r : StateIndex) → Contains sources r ↔ ((s : StateIndex) × Contains states s × Contains (sources_over graph x s) r)
