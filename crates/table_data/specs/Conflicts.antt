-- Conflicts as JSON, and the items of their actions that are shown with examples.
use Rattle.std.specs.Prelude.{◌≡◌, ℕ, Bool, false, cond, List, [], ◌∷◌, ◌++◌, length, map, codes, slice_get, Option, Some, None}
use Rattle.std.specs.Fmt.{decimal}
use Rattle.std.specs.List.{All, flat_map}
use Rattle.lalrpop_base.specs.Words.{Bits, Dotted}
use Rattle.lalrpop_states.specs.declared.lr1_core.state.Action.{Action}
use Rattle.lalrpop_states.specs.declared.lr1_core.state.Action.TheVariants.{Shift, Reduce}
use Rattle.lalrpop_states.specs.declared.lr1_core.state.Conflict.{Conflict}
use Rattle.lalrpop_states.specs.declared.lr1_core.state.State.{State}
use Rattle.lalrpop_states.specs.declared.lr1_core.state.StateIndex.{StateIndex}
use Rattle.lalrpop_grammar.specs.declared.repr.Production.{Production}
use Rattle.lalrpop_grammar.specs.declared.repr.Symbol.{Symbol}
use Rattle.lalrpop_grammar.specs.declared.repr.Symbol.TheVariants.{Nonterminal, Terminal}
use Rattle.lalrpop_grammar.specs.declared.repr.TerminalString.{TerminalString}
use Rattle.lalrpop_grammar.specs.contracts.repr.TerminalStringPartialEq.TheImpl as terminal_eq
use Rattle.lalrpop_traces.specs.Words.{items_at}
use Rattle.table_data.specs.declared.conflicts.ShownConflict.{ShownConflict}
use Rattle.table_data.specs.declared.examples.ShownItem.{ShownItem}
use Rattle.table_data.specs.Json.{array}
use Rattle.table_data.specs.Names.{terminal_json}
use Rattle.table_data.specs.Examples.{shown_json}
use Rattle.table_data.specs.Sets.{number_of}

-- ---- the texts
-- a reduction: the number of its production, and its items
abbrev pub reduce_json : Production → List ShownItem → List ℕ
reduce_json p shown = codes "{\"reduce\":" ++ (decimal p.action.0 ++ (codes ",\"items\":" ++ (array (codes ",") shown_json shown ++ codes "}")))

-- a shift: its terminal, the state to which it leads, and its items
abbrev pub shift_json : TerminalString → StateIndex → List ShownItem → List ℕ
shift_json t target shown = codes "{\"shift\":" ++ (terminal_json t ++ (codes ",\"state\":" ++ (decimal target.0 ++ (codes ",\"items\":" ++ (array (codes ",") shown_json shown ++ codes "}")))))

-- an action, with its items
abbrev pub action_json : Action → List ShownItem → List ℕ
action_json (Shift t target) shown = shift_json t target shown
action_json (Reduce p) shown = reduce_json p.now shown

-- a conflict: its state, the number of the set of its tokens, its reduction and its other action
abbrev pub conflict_json : List Bits → ShownConflict → List ℕ
conflict_json sets shown = codes "{\"state\":" ++ (decimal shown.conflict.now.state.0 ++ (codes ",\"lookahead\":" ++ (decimal (number_of sets shown.conflict.now.lookahead)
    ++ (codes ",\"actions\":[" ++ (reduce_json shown.conflict.now.production.now shown.reduction.items ++ (codes "," ++ (action_json shown.conflict.now.action shown.other.items ++ codes "]}")))))))

-- ---- the items that are shown
-- whether there is a symbol and it is the terminal
abbrev pub is_terminal : TerminalString → Option Symbol → Bool
is_terminal t None = false
is_terminal t (Some (Nonterminal name)) = false
is_terminal t (Some (Terminal u)) = terminal_eq.ghosts.eq u t

-- whether the terminal comes directly after the dot of an item
abbrev pub shifts : TerminalString → Dotted Bits → Bool
shifts t item = is_terminal t (slice_get item.production.symbols item.index)

-- the number of the production of an item that is shown, and the place of its dot
abbrev pub place_of_shown : ShownItem → ℕ × ℕ
place_of_shown shown = (shown.production, shown.dot)

-- the number and the place of an item, if the test is true
abbrev pub place_if : Bool → Dotted Bits → List (ℕ × ℕ)
place_if test item = cond test ((item.production.action.0, item.index) ∷ []) []

-- the numbers and places of the items that shift a terminal
abbrev pub shifted_places : TerminalString → List (Dotted Bits) → List (ℕ × ℕ)
shifted_places t items = flat_map (λ (item : Dotted Bits). place_if (shifts t item) item) items

-- the number and the place of the finished item of a production
abbrev pub reduced_places : Production → List (ℕ × ℕ)
reduced_places p = (p.action.0, length p.symbols) ∷ []

-- the numbers and places of the items of an action in a state
abbrev pub action_places : List (State Bits) → StateIndex → Action → List (ℕ × ℕ)
action_places states state (Shift t target) = shifted_places t (items_at (slice_get states state.0))
action_places states state (Reduce p) = reduced_places p.now

-- the items that are shown of a conflict are those of its actions
pub record ShowsItems (states : List (State Bits)) (shown : ShownConflict) : Type 0 where
  pub reduction : map place_of_shown shown.reduction.items ≡ reduced_places shown.conflict.now.production.now
  pub other : map place_of_shown shown.other.items ≡ action_places states shown.conflict.now.state shown.conflict.now.action

-- all conflicts are shown, in their order, each with the items of its actions
pub record AreShown (states : List (State Bits)) (conflicts : List (Conflict Bits)) (shown : List ShownConflict) : Type 0 where
  pub each : map (λ (s : ShownConflict). s.conflict.now) shown ≡ conflicts
  pub items : All (ShowsItems states) shown
