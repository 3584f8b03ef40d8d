-- The text of a report, as a function of the terminals and of the result of a construction.
use Rattle.std.specs.Prelude.{ℕ, ◌==◌, Bool, true, false, List, [], ◌++◌, length, map, filter, count_by, codes, Option, Some, None, Result, Ok, Err, if◌then◌else◌}
use Rattle.std.specs.Fmt.{decimal}
use Rattle.std.specs.List.{flat_map}
use Rattle.std.specs.declared.vec.Vec.{Vec}
use Rattle.lalrpop_base.specs.Words.{Bits, bits_of, rising}
use Rattle.lalrpop_grammar.specs.declared.repr.TerminalString.{TerminalString}
use Rattle.lalrpop_states.specs.declared.lr1_core.state.State.{State}
use Rattle.lalrpop_states.specs.declared.lr1_core.state.Action.{Action}
use Rattle.lalrpop_states.specs.declared.lr1_core.state.Action.TheVariants.{Shift, Reduce}
use Rattle.lalrpop_states.specs.declared.lr1_core.state.Conflict.{Conflict}
use Rattle.lalrpop_states.specs.declared.lr1_core.state.BuildError.{BuildError}
use Rattle.lalrpop_states.specs.declared.lr1_core.state.BuildError.TheVariants.{Conflicts, Memory}
use Rattle.lalrpop_report.specs.reports.ReportStates.{state_block}

-- the header of a section
abbrev pub section_header : List ℕ → List ℕ
section_header title = codes "\n" ++ (title ++ codes "\n----------------------------------------\n")

-- the beginning of a report
abbrev pub opening : List ℕ
opening = codes "Lalrpop Report File\n========================================\n" ++ (section_header (codes "Summary") ++ codes "\n")

-- the line of a number of states
abbrev pub states_line : ℕ → List ℕ
states_line count = codes "Constructed " ++ (decimal count ++ codes " states\n")

-- the line of a number of conflicts
abbrev pub conflicts_line : ℕ → List ℕ
conflicts_line count = codes "Has " ++ (decimal count ++ codes " conflicts\n")

-- whether an action is a shift
abbrev pub is_shift : Action → Bool
is_shift (Shift t target) = true
is_shift (Reduce p) = false

-- whether an action is a reduction
abbrev pub is_reduce : Action → Bool
is_reduce (Shift t target) = false
is_reduce (Reduce p) = true

-- the line of a number of conflicts of a kind, or no line for the number 0
abbrev pub kind_line : List ℕ → ℕ → List ℕ
kind_line label count = if count == 0 then [] else (codes "    " ++ (label ++ (decimal count ++ codes "\n")))

-- the numbers of a list, rising, each once
abbrev pub ascending : List ℕ → List ℕ
ascending numbers = rising (bits_of numbers)

module _ {L : Type 0} where
  -- the number of a conflict's state
  abbrev pub state_number : Conflict L → ℕ
  state_number conflict = conflict.state.0

  -- the conflicts of the state with the number, in their order
  abbrev pub conflicts_in : List (Conflict L) → ℕ → List (Conflict L)
  conflicts_in conflicts number = filter (λ (c : Conflict L). c.state.0 == number) conflicts

  -- the line of the states that have conflicts
  abbrev pub conflict_states_line : List (Conflict L) → List ℕ
  conflict_states_line conflicts = codes "States with conflicts: " ++ (flat_map (λ n. codes " " ++ decimal n) (ascending (map state_number conflicts)) ++ codes "\n")

  -- the number of conflicts, in all and of each kind, and the states that have some
  abbrev pub conflicts_summary : List (Conflict L) → List ℕ
  conflicts_summary conflicts = conflicts_line (length conflicts) ++ (kind_line (codes "shift/reduce:  ") (count_by (λ (c : Conflict L). is_shift c.action) conflicts)
      ++ (kind_line (codes "reduce/reduce: ") (count_by (λ (c : Conflict L). is_reduce c.action) conflicts) ++ conflict_states_line conflicts))

module _ {L : Type 0} (meaning : L → Bits) (terminals : List TerminalString) where
  -- an empty line, and the block of a state with its conflicts
  abbrev pub next_state : List (Conflict L) → State L → List ℕ
  next_state conflicts state = codes "\n" ++ state_block meaning terminals (conflicts_in conflicts state.index.0) state

  -- the section of the states
  abbrev pub states_section : List (Conflict L) → List (State L) → List ℕ
  states_section conflicts states = section_header (codes "State Table") ++ flat_map (next_state conflicts) states

  -- the report of tables
  abbrev pub tables_report : List (State L) → List ℕ
  tables_report states = opening ++ (states_line (length states) ++ states_section [] states)

  -- the report of conflicts
  abbrev pub failure_report : List (State L) → List (Conflict L) → List ℕ
  failure_report states conflicts = opening ++ (codes "Failure\n" ++ (states_line (length states) ++ (conflicts_summary conflicts ++ states_section conflicts states)))

  -- the report of an error; there is none for an allocation failure
  abbrev pub error_report : BuildError L → Option (List ℕ)
  error_report (Conflicts error) = Some (failure_report error.states.items error.conflicts.items)
  error_report Memory = None

  -- the report of the result of a construction, if there is one
  abbrev pub report_text : {A : Type 0} → Result (Vec (State L) A) (BuildError L) → Option (List ℕ)
  report_text (Ok states) = Some (tables_report states.items)
  report_text (Err error) = error_report error
