-- The edges of a state in the text of a graph.
use Rattle.std.specs.Prelude.{ℕ, ◌==◌, ◌||◌, ◌&&◌, Bool, true, false, List, [], ◌++◌, codes, get_or, if◌then◌else◌}
use Rattle.std.specs.Fmt.{decimal}
use Rattle.std.specs.List.{flat_map, list_any}
use Rattle.lalrpop_base.specs.Words.{Bits}
use Rattle.lalrpop_grammar.specs.contracts.repr.TerminalStringPartialEq.TheImpl as terminal_eq
use Rattle.lalrpop_grammar.specs.declared.repr.NonterminalString.{NonterminalString}
use Rattle.lalrpop_grammar.specs.declared.repr.TerminalString.{TerminalString}
use Rattle.lalrpop_states.specs.declared.lr1_core.state.Action.{Action}
use Rattle.lalrpop_states.specs.declared.lr1_core.state.Action.TheVariants.{Shift, Reduce}
use Rattle.lalrpop_states.specs.declared.lr1_core.state.Conflict.{Conflict}
use Rattle.lalrpop_states.specs.declared.lr1_core.state.State.{State}
use Rattle.lalrpop_states.specs.declared.lr1_core.state.StateIndex.{StateIndex}
use Rattle.table_pictures.specs.declared.edges.ShownStates.{ShownStates}
use Rattle.table_pictures.specs.declared.edges.ShownStates.TheVariants.{All, Around, Only}

-- whether an edge is shown: all edges are, or those that begin or end at a state, or those between
-- states whose flags are set
abbrev pub shows_edge : ShownStates → ℕ → ℕ → Bool
shows_edge All from to = true
shows_edge (Around number) from to = from == number || to == number
shows_edge (Only flags) from to = get_or flags.items from false && get_or flags.items to false

-- whether an action is the shift of a terminal
abbrev pub shifts_terminal : TerminalString → Action → Bool
shifts_terminal t (Shift other target) = terminal_eq.ghosts.eq other t
shifts_terminal t (Reduce p) = false

-- whether a conflict has the shift of a terminal in a state as its other action
abbrev pub is_shift_conflict : ℕ → TerminalString → Conflict Bits → Bool
is_shift_conflict number t conflict = shifts_terminal t conflict.action && (conflict.state.0 == number)

-- the line of an edge: the numbers of the states and what follows them
abbrev pub edge_line : ℕ → ℕ → List ℕ → List ℕ
edge_line from to style = codes "  " ++ (decimal from ++ (codes " -> " ++ (decimal to ++ style)))

-- the end of the line of a shift, which is red or not
abbrev pub shift_end : Bool → List ℕ
shift_end red = if red then codes " [color=red];\n" else codes ";\n"

-- the line of a shift, red or not
abbrev pub graph_shift_line : Bool → ℕ → ℕ → List ℕ
graph_shift_line red from to = edge_line from to (shift_end red)

-- the line of a goto, dashed
abbrev pub graph_goto_line : ℕ → ℕ → List ℕ
graph_goto_line from to = edge_line from to (codes " [style=dashed];\n")

-- the line of a shift, if it is shown; it is red if the shift is in a conflict
abbrev pub shown_shift : List (Conflict Bits) → ShownStates → ℕ → TerminalString × StateIndex → List ℕ
shown_shift conflicts shown from (t, target) = if shows_edge shown from target.0 then graph_shift_line (list_any (is_shift_conflict from t) conflicts) from target.0 else []

-- the line of a goto to a state, if it is shown
abbrev pub shown_edge : ShownStates → ℕ → StateIndex → List ℕ
shown_edge shown from target = if shows_edge shown from target.0 then graph_goto_line from target.0 else []

-- the line of a goto, if it is shown
abbrev pub shown_goto : ShownStates → ℕ → NonterminalString × StateIndex → List ℕ
shown_goto shown from (name, target) = shown_edge shown from target

-- the edges of a state that are shown, each on a line, first the shifts and then the gotos
abbrev pub graph_edges : List (Conflict Bits) → ShownStates → State Bits → List ℕ
graph_edges conflicts shown state = flat_map (shown_shift conflicts shown state.index.0) state.shifts.entries ++ flat_map (shown_goto shown state.index.0) state.gotos.entries
