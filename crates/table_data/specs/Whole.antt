-- The whole JSON text of a grammar and its states.
use Rattle.std.specs.Prelude.{◌≡◌, ℕ, List, ◌++◌, codes}
use Rattle.lalrpop_base.specs.Words.{Bits, productions}
use Rattle.lalrpop_grammar.specs.declared.repr.NonterminalString.{NonterminalString}
use Rattle.lalrpop_grammar.specs.declared.repr.grammar.Grammar.{Grammar}
use Rattle.lalrpop_states.specs.declared.lr1_core.state.Conflict.{Conflict}
use Rattle.lalrpop_states.specs.declared.lr1_core.state.State.{State}
use Rattle.table_data.specs.declared.causes.ShownCause.{ShownCause}
use Rattle.table_data.specs.declared.conflicts.ShownConflict.{ShownConflict}
use Rattle.table_data.specs.Causes.{AreShownCauses, cause_json}
use Rattle.table_data.specs.Conflicts.{AreShown, conflict_json}
use Rattle.table_data.specs.Json.{array}
use Rattle.table_data.specs.Names.{name_json, terminal_json, tokens_json}
use Rattle.table_data.specs.Naming.{HasEachOnce, named_sets}
use Rattle.table_data.specs.Rules.{production_json}
use Rattle.table_data.specs.States.{state_json}

-- the text of a grammar, its start symbol, token sets, its states, and what is shown of its conflicts
-- and their causes
abbrev pub tables_json : Grammar → NonterminalString → List Bits → List (State Bits) → List ShownConflict → List ShownCause → List ℕ
tables_json g start sets states shown causes = codes "{\"format\":\"lrshow\",\n\"version\":3,\n\"start\":" ++ (name_json start
    ++ (codes ",\n\"terminals\":" ++ (array (codes ",") terminal_json g.terminals
    ++ (codes ",\n\"productions\":" ++ (array (codes ",\n") production_json (productions g)
    ++ (codes ",\n\"sets\":" ++ (array (codes ",\n") (tokens_json g.terminals) sets
    ++ (codes ",\n\"states\":" ++ (array (codes ",\n") (state_json g.terminals sets) states
    ++ (codes ",\n\"conflicts\":" ++ (array (codes ",\n") (conflict_json sets) shown
    ++ (codes ",\n\"causes\":" ++ (array (codes ",\n") cause_json causes ++ codes "}\n")))))))))))))

-- a text is the JSON of a grammar, its start symbol and its states, with all conflicts, the items of
-- their actions, and each token set that is named, once
pub record IsData (g : Grammar) (start : NonterminalString) (states : List (State Bits)) (conflicts : List (Conflict Bits)) (text : List ℕ) : Type 0 where
  pub shown : List ShownConflict
  pub each : AreShown states conflicts shown
  pub causes : List ShownCause
  pub caused : AreShownCauses (productions g) states conflicts causes
  pub sets : List Bits
  pub once : HasEachOnce (named_sets g.terminals states conflicts) sets
  pub is : text ≡ tables_json g start sets states shown causes
