-- States as JSON.
use Rattle.std.specs.Prelude.{ℕ, List, ◌++◌, codes, if◌then◌else◌}
use Rattle.std.specs.Fmt.{decimal}
use Rattle.std.specs.Borrow.{Bor}
use Rattle.lalrpop_base.specs.Words.{Bits, Dotted}
use Rattle.lalrpop_grammar.specs.declared.repr.Production.{Production}
use Rattle.lalrpop_grammar.specs.declared.repr.TerminalString.{TerminalString}
use Rattle.lalrpop_states.specs.declared.lr1_core.state.State.{State}
use Rattle.table_data.specs.Json.{array, member, object}
use Rattle.table_data.specs.Names.{name_json, terminal_json}
use Rattle.table_data.specs.Naming.{all_tokens}
use Rattle.table_data.specs.Sets.{is_same, number_of}

-- a reduction: the number of its production, and the number of the set of its tokens
abbrev pub reduction_json : List Bits → Bits × Bor Production → List ℕ
reduction_json sets (lookahead, p) = codes "{\"production\":" ++ (decimal p.now.action.0 ++ (codes ",\"lookahead\":" ++ (decimal (number_of sets lookahead) ++ codes "}")))

-- the terminals, and the sets that are named by numbers
module _ (terminals : List TerminalString) (sets : List Bits) where
  -- the number of the set of an item, or null if the set has all tokens: each terminal, and the end of
  -- the input
  abbrev pub lookahead_json : Bits → List ℕ
  lookahead_json set = if is_same set (all_tokens terminals) then codes "null" else decimal (number_of sets set)

  -- an item: the number of its production, the place of its dot and its tokens
  abbrev pub item_json : Dotted Bits → List ℕ
  item_json item = codes "{\"production\":" ++ (decimal item.production.action.0 ++ (codes ",\"dot\":" ++ (decimal item.index
      ++ (codes ",\"lookahead\":" ++ (lookahead_json item.lookahead ++ codes "}")))))

  -- a state: its number, its items, the states to which terminals and nonterminals lead, and its
  -- reductions
  abbrev pub state_json : State Bits → List ℕ
  state_json state = codes "{\"number\":" ++ (decimal state.index.0 ++ (codes ",\"items\":" ++ (array (codes ",") item_json state.items.vec.items
      ++ (codes ",\"shifts\":" ++ (object (member terminal_json) state.shifts.entries ++ (codes ",\"gotos\":" ++ (object (member name_json) state.gotos.entries
      ++ (codes ",\"reductions\":" ++ (array (codes ",") (reduction_json sets) state.reductions.items ++ codes "}")))))))))
