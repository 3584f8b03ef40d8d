-- The nonterminals that a trace has met, those that it can still meet, and the duties that it has
-- left.
use Rattle.std.specs.Prelude.{◌≡◌, ◌↔◌, ◌⊎◌, ℕ, ◌+◌, ◌*◌, ◌<◌, Bool, true, not, List, [], ◌∷◌, ◌++◌, map, filter, length, drop, reverse, slice_get, Contains}
use Rattle.std.specs.List.{flat_map, range_with_len, sum_by}
use Rattle.std.specs.BTreeSet.{BTreeSet, contains}
use Rattle.std.specs.declared.cmp.Ordering.{Ordering}
use Rattle.std.specs.Ordering.{then_cmp, on}
use Rattle.lalrpop_base.specs.Words.{Bits, Dotted, name_cmp}
use Rattle.lalrpop_grammar.specs.declared.repr.NonterminalString.{NonterminalString}
use Rattle.lalrpop_states.specs.declared.lr1_core.state.State.{State}
use Rattle.lalrpop_state_graph.specs.Words.{state_cmp}
use Rattle.lalrpop_traces.specs.traces.TraceGraphs.{Graph, PlainEdge, plain_edges}
use Rattle.lalrpop_traces.specs.traces.TraceOrder.{AddsInTurn, ends_of, Duty, come_to, take_up, take_up_each, items_at, Walks}
use Rattle.lalrpop_traces.specs.traces.Traces.{Backtrace, Meeting}
use Rattle.lalrpop_traces.specs.declared.trace.context.Trace.{Trace}
use Rattle.lalrpop_traces.specs.declared.trace.walk_back.Met.{Met}
use Rattle.lalrpop_traces.specs.declared.trace.walk_back.Task.{Task}
use Rattle.lalrpop_traces.specs.declared.trace.walk_back.Task.TheVariants.{Meet, MeetItems}

-- ---- what was met

-- the order of meetings: by state, then by name
abbrev pub meeting_cmp : Meeting → Meeting → Ordering
meeting_cmp a b = then_cmp (on (λ (m : Meeting). m.0) state_cmp) (on (λ (m : Meeting). m.1) name_cmp) a b

-- the new set is the old one with the value, and `fresh` says whether the value was not there
pub record IsInsertedPair (fresh : Bool) (m : Meeting) (old new : BTreeSet Meeting) : Type 0 where
  pub was : fresh ≡ not (contains meeting_cmp old m)
  pub now : (q : Meeting) → contains meeting_cmp old q ≡ true → contains meeting_cmp new q ≡ true
  pub there : contains meeting_cmp new m ≡ true
  pub only : (q : Meeting) → contains meeting_cmp new q ≡ true → (contains meeting_cmp old q ≡ true) ⊎ (m ≡ q)

-- the trace has met the nonterminal in the state
abbrev pub HasMet : Met → Meeting → Type 0
HasMet met m = contains meeting_cmp met.visited_set m ≡ true

-- the list has exactly the nonterminals that were met, with their states
abbrev pub AreMet : List Meeting → Met → Type 0
AreMet list met = (m : Meeting) → Contains list m ↔ HasMet met m

-- ---- edges that are added

-- the edges were added to those of the graph in turn, and their ends to its nodes, each once
pub record AddsInOrder (old new : Graph) (given : List PlainEdge) : Type 0 where
  pub edges : AddsInTurn (plain_edges old) given (plain_edges new)
  pub nodes : AddsInTurn old.nodes (ends_of given) new.nodes

-- ---- what is still to be done

-- the backtrace that a trace makes
abbrev pub asked : Trace → Backtrace
asked t = record { traced = t.traced; productions = t.context.now.first_sets.now.productions; states = t.context.now.states.now; state = t.state; item = t.item }

-- a trace went on from the first duties to the second. It added the edges that a walk gives on this
-- way, and has met what that walk then has met
pub record WalksFrom (b : Backtrace) (list : List Meeting) (before duties : List Duty) (old new : Met) : Type 0 where
  pub after : List Meeting
  pub are_met : AreMet after new
  pub given : List PlainEdge
  pub added : AddsInOrder old.trace_graph new.trace_graph given
  pub walk : (es : List PlainEdge) → Walks b after duties es → Walks b list before (given ++ es)

-- the trace went on so from each list of what it had met
abbrev pub WalksOn : Backtrace → List Duty → List Duty → Met → Met → Type 0
WalksOn b before duties old new = (list : List Meeting) → AreMet list old → WalksFrom b list before duties old new

module _ (b : Backtrace) where
  -- the duties of a task
  abbrev pub duties_of : Task → List Duty
  duties_of (Meet state name) = come_to (state, name.now) ∷ []
  duties_of (MeetItems state name next) = take_up_each (state, name.now) (drop next (items_at (slice_get b.states state.0)))

  -- the duties of a stack of tasks, from its top down
  abbrev pub duties_left : List Task → List Duty
  duties_left tasks = flat_map duties_of (reverse tasks)

  -- the nonterminals of the traced item and of the items of the states
  abbrev pub names_in : List NonterminalString
  names_in = b.item.production.nonterminal ∷ flat_map (λ (s : State Bits). map (λ (i : Dotted Bits). i.production.nonterminal) s.items.vec.items) b.states

  -- the duties come to these nonterminals alone
  abbrev pub AreNamed : List Duty → Type 0
  AreNamed duties = (m : Meeting) → Contains duties (come_to m) → Contains names_in m.1

  -- each of these nonterminals in each of the states
  abbrev pub meetings : List Meeting
  meetings = flat_map (λ n. map (λ a. (record { 0 = n }, a)) names_in) (range_with_len 0 (length b.states))

  -- how many of these pairs are not in the set
  abbrev pub unmet : BTreeSet Meeting → ℕ
  unmet met = length (filter (λ m. not (contains meeting_cmp met m)) meetings)

  -- how many steps follow from an item that is taken: one, and two for each state where it may
  -- begin. One of these comes to the nonterminal of the item there, and one ends a task there
  abbrev pub item_steps : ℕ
  item_steps = 2 * length b.states + 1

  -- how many steps follow from a duty, without those for the items of a nonterminal that is met by
  -- it
  abbrev pub duty_steps : Duty → ℕ
  duty_steps (come_to m) = 1
  duty_steps (take_up m item) = item_steps

  -- how many steps can follow at most, besides one for the end of each task. These are the steps of
  -- the duties, and more for each nonterminal that can still be met in a state: the steps of as
  -- many items as there are names
  abbrev pub work : Met → List Duty → ℕ
  work met duties = unmet met.visited_set * (length names_in * item_steps) + sum_by duty_steps duties

  -- a trace had these duties, of so many tasks, and did the first one. It went on to the duties of
  -- the tasks that it has now. These come to the names alone, and fewer steps can follow
  pub record IsStep (old new : Met) (duties : List Duty) (count : ℕ) (tasks : List Task) : Type 0 where
    pub walks : WalksOn b duties (duties_left tasks) old new
    pub named : AreNamed (duties_left tasks)
    pub fewer : work new (duties_left tasks) + length tasks < work old duties + count
