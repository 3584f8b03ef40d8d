-- The paths that a walk over a trace graph has left, and how far the walk can still go.
use Rattle.std.specs.Prelude.{◌≡◌, ◌⊎◌, ℕ, zero, suc, ◌+◌, ◌-◌, true, false, IsTrue, List, [], ◌∷◌, ◌++◌, length, take, reverse, cond, slice_get, Contains, Option, Some, None, Ok, Err}
use Rattle.std.specs.declared.result.Result.{Result}
use Rattle.lalrpop_base.specs.Words.{Bits, Rules, has, IsFirst, IsFirstSet}
use Rattle.lalrpop_grammar.specs.declared.repr.Symbol.{Symbol}
use Rattle.lalrpop_grammar.specs.declared.repr.TerminalString.{TerminalString}
use Rattle.lalrpop_collections.specs.declared.memory.OutOfMemory.{OutOfMemory}
use Rattle.lalrpop_traces.specs.traces.Examples.{path_of, following, IsExampleOf}
use Rattle.lalrpop_traces.specs.traces.Paths.{over, left_over}
use Rattle.lalrpop_traces.specs.traces.TraceGraphs.{node_count, numbers_to, edge_numbers_to_source}
use Rattle.lalrpop_traces.specs.declared.trace.filtered.FilteredPathEnumerator.{FilteredPathEnumerator}
use Rattle.lalrpop_traces.specs.declared.trace.node.TraceGraphNode.{TraceGraphNode}
use Rattle.lalrpop_traces.specs.declared.trace.trace_graph.TraceGraph.{TraceGraph}
use Rattle.lalrpop_traces.specs.declared.trace.example.Example.{Example}
use Rattle.lalrpop_traces.specs.declared.trace.enumerator.EnumeratorState.{EnumeratorState}
use Rattle.lalrpop_traces.specs.declared.trace.enumerator.PathEnumerator.{PathEnumerator}

-- the sum of the weights of the edges
abbrev pub total : (ℕ → ℕ) → List ℕ → ℕ
total w [] = 0
total w (k ∷ ks) = w k + total w ks

-- how many steps walks of a length over an edge can take
abbrev pub weight : TraceGraph → ℕ → ℕ → ℕ
weight g zero k = 2
weight g (suc n) k = 2 + total (weight g n) (edge_numbers_to_source g k)

-- the edges that were taken, the newest first
abbrev pub frames : PathEnumerator → List EnumeratorState
frames walk = reverse walk.stack.items

-- the numbers of the edges to the newest node of a walk
abbrev pub numbers_at : TraceGraph → TraceGraphNode → List EnumeratorState → List ℕ
numbers_at g start [] = numbers_to g start
numbers_at g start (s ∷ below) = edge_numbers_to_source g s.number

-- the weight of the edges that are left at the newest node, and at those below it
abbrev pub load_of : TraceGraph → TraceGraphNode → ℕ → List EnumeratorState → ℕ → ℕ
load_of g start n [] left = total (weight g n) (take left (numbers_to g start))
load_of g start n (s ∷ below) left = total (weight g (n - length (s ∷ below))) (take left (edge_numbers_to_source g s.number)) + suc (load_of g start n below s.left)

-- the weight of the edges that a walk has left
abbrev pub load : PathEnumerator → ℕ
load walk = load_of walk.graph.now walk.start (node_count walk.graph.now) (frames walk) walk.left

-- how many steps can follow an edge that the walk takes next
abbrev pub edge_weight : PathEnumerator → ℕ → ℕ
edge_weight walk k = weight walk.graph.now (node_count walk.graph.now - length (frames walk)) k

-- the walk is at its end
abbrev pub IsEnded : PathEnumerator → Type 0
IsEnded walk = walk.stack.items ≡ []

-- 0 at the end of a walk, else one more than the number
abbrev pub bound_of : List EnumeratorState → ℕ → ℕ
bound_of [] n = 0
bound_of (s ∷ stack) n = suc n

-- at most so many examples come
abbrev pub bound : PathEnumerator → ℕ
bound walk = cond walk.refused 1 0 + bound_of walk.stack.items (load walk)

-- how often a walk can give up an edge or a node before nothing is left
abbrev pub remaining_steps : List EnumeratorState → ℕ → ℕ
remaining_steps [] left = left
remaining_steps (s ∷ below) left = left + suc (remaining_steps below s.left)

-- how often the walk can do so
abbrev pub steps : PathEnumerator → ℕ
steps walk = remaining_steps (frames walk) walk.left

-- the paths after the current one of a walk
abbrev pub remaining : PathEnumerator → List (List ℕ)
remaining walk = left_over walk.graph.now walk.start (frames walk) walk.left

-- the path of the edges that were taken, and then the rest, or none if no edge was taken
abbrev pub and_behind : List EnumeratorState → List (List ℕ) → List (List ℕ)
and_behind [] rest = []
and_behind (s ∷ stack) rest = path_of (s ∷ stack) ∷ rest

-- the paths that a walk still has: the current one, and those after it
abbrev pub to_come : PathEnumerator → List (List ℕ)
to_come walk = and_behind walk.stack.items (remaining walk)

-- the paths over an edge that the walk takes next
abbrev pub paths_over : PathEnumerator → ℕ → List (List ℕ)
paths_over walk k = over walk.graph.now (node_count walk.graph.now - length (frames walk)) (path_of (frames walk)) k

-- the walk has no path, and none comes if it goes on
pub record IsExhausted (walk : PathEnumerator) : Type 0 where
  pub here : to_come walk ≡ []
  pub left : remaining walk ≡ []

-- the walk still has these paths, or has none and an allocation failure to report. If it has no
-- path, none comes if it goes on
abbrev pub GoesTo : List (List ℕ) → PathEnumerator → Type 0
GoesTo rest walk = ((to_come walk ≡ rest) × (walk.refused ≡ false) × (rest ≡ [] → IsExhausted walk)) ⊎ (IsExhausted walk × (walk.refused ≡ true))

-- the example is that of the first path, and the walk goes on to the others
pub record IsOfFirst (old : PathEnumerator) (example : Example) (new : PathEnumerator) : Type 0 where
  pub told : old.refused ≡ false
  pub path : List ℕ
  pub rest : List (List ℕ)
  pub spelled : IsExampleOf old.graph.now path example
  pub first : to_come old ≡ path ∷ rest
  pub others : GoesTo rest new

-- the walk gives the example of its first path, and nothing if it has none. After the last path,
-- and after an allocation failure, it is exhausted
abbrev pub GivesNext : PathEnumerator → Option (Result Example OutOfMemory) → PathEnumerator → Type 0
GivesNext old None new = (old.refused ≡ false) × (to_come old ≡ []) × IsExhausted new × (new.refused ≡ false)
GivesNext old (Some (Ok example)) new = IsOfFirst old example new
GivesNext old (Some (Err e)) new = IsExhausted new × (new.refused ≡ false)

-- FIRST of the symbols from the place of a path's example on shares a token with the lookahead
abbrev pub Meets : FilteredPathEnumerator → List ℕ → Type 0
Meets walk path = (first : Bits) × IsFirstSet walk.first_sets.now (following walk.base.graph.now path) first × (bit : ℕ) × IsTrue (has first bit) × IsTrue (has walk.lookahead bit)

-- no path of the list meets the lookahead
abbrev pub NoneMeets : FilteredPathEnumerator → List (List ℕ) → Type 0
NoneMeets walk paths = (path : List ℕ) → Contains paths path → ¬ Meets walk path

-- no token of the lookahead except Eof is in FIRST of the symbols
abbrev pub HasNoToken : Rules → Bits → List Symbol → Type 0
HasNoToken g lookahead symbols = (bit : ℕ) (t : TerminalString) → slice_get g.terminals bit ≡ Some t → IsFirst g.productions symbols t → IsTrue (has lookahead bit) → ⊥

-- the paths of the second list are left of those of the first, and the others do not meet the
-- lookahead of a walk
pub record LeavesOut (walk : FilteredPathEnumerator) (all rest : List (List ℕ)) : Type 0 where
  pub dropped : List (List ℕ)
  pub none : NoneMeets walk dropped
  pub is : all ≡ dropped ++ rest

-- both walks are over the same graph, with the same FIRST sets and lookahead
pub record IsSameFilter (old new : FilteredPathEnumerator) : Type 0 where
  pub graph : new.base.graph.now ≡ old.base.graph.now
  pub first_sets : new.first_sets.now ≡ old.first_sets.now
  pub lookahead : new.lookahead ≡ old.lookahead

-- the example is that of the first path that meets the lookahead, and the walk goes on after that
-- path
pub record IsOfFirstMeeting (old : FilteredPathEnumerator) (example : Example) (new : FilteredPathEnumerator) : Type 0 where
  pub path : List ℕ
  pub skipped : List (List ℕ)
  pub rest : List (List ℕ)
  pub spelled : IsExampleOf old.base.graph.now path example
  pub first : to_come old.base ≡ skipped ++ path ∷ rest
  pub before : NoneMeets old skipped
  pub meets : Meets old path
  pub others : GoesTo rest new.base

-- a filtered walk gives the example of its first path that meets the lookahead, and nothing if none
-- does. After the last path, and after an allocation failure, it is exhausted
abbrev pub GivesNextMeeting : FilteredPathEnumerator → Option (Result Example OutOfMemory) → FilteredPathEnumerator → Type 0
GivesNextMeeting old None new = (old.base.refused ≡ false) × NoneMeets old (to_come old.base) × IsExhausted new.base × (new.base.refused ≡ false)
GivesNextMeeting old (Some (Ok example)) new = IsOfFirstMeeting old example new
GivesNextMeeting old (Some (Err e)) new = IsExhausted new.base × (new.base.refused ≡ false)

-- the paths that a filtered walk passed over do not meet the lookahead. The walk has the others
-- left, or an allocation failure to report. One that was to be reported before still is
pub record HasSkipped (old new : FilteredPathEnumerator) : Type 0 where
  pub same : IsSameFilter old new
  pub told : new.base.refused ≡ false → old.base.refused ≡ false
  pub skipped : List (List ℕ)
  pub before : NoneMeets old skipped
  pub left : (to_come old.base ≡ skipped ++ to_come new.base) ⊎ (new.base.refused ≡ true)
