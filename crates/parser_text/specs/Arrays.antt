-- Arrays of a parse table: by the lookups of the generated files, they have its actions and gotos.
-- The productions and nonterminals of a file may be those of another table: for an augmented grammar
-- they are those of the old one, and the new start symbol is hidden.
use Rattle.std.specs.Prelude.{◌≡◌, ℕ, ◌+◌, ◌<◌, length, slice_get, Option, None, Some}
use Rattle.lalrpop_base.specs.Words.{CanStandNext, Contents, IsBitOf, action_on}
use Rattle.lalrpop_grammar.specs.declared.lookahead.token.Token.{Token}
use Rattle.lalrpop_grammar.specs.declared.repr.NonterminalString.{NonterminalString}
use Rattle.packed_tables.specs.Lookup.{action_in, goto_in, set_place}
use Rattle.packed_tables.specs.Packed.{AreRows, IsWithin}
use Rattle.packed_tables.specs.declared.packed.PackedTables.{PackedTables}
use Rattle.parse_tables.specs.Codes.{entry_of}
use Rattle.parse_tables.specs.Tables.{IsTableOf}
use Rattle.parse_tables.specs.declared.table.ParseTable.{ParseTable}
use Rattle.parser_text.specs.Hidden.{shown_entry}

-- the lookup of an action reads no place past the end of an array
pub record ActionStaysWithin (p : PackedTables) (state bit : ℕ) : Type 0 where
  pub cell : IsWithin p.actions state bit
  pub byte : set_place p state bit < length p.sets.items

-- the lookup of a goto reads no place past the end of an array
pub record GotoStaysWithin (p : PackedTables) (state nonterminal : ℕ) : Type 0 where
  pub cell : IsWithin p.gotos state nonterminal
  pub usual : nonterminal < length p.goto_usual.items

-- the arrays are those of the table t with so many states, by the numbers of the productions and
-- nonterminals that are listed
pub record AreArraysOf (hidden : Option NonterminalString) (p : PackedTables) (listed t : ParseTable) (count : ℕ) : Type 0 where
  pub action_rows : AreRows p.actions count
  pub goto_rows : AreRows p.gotos count
  pub reductions : length p.reduction.items ≡ count
  pub state_sets : length p.set.items ≡ count
  -- the action that is looked up is that of the state, but a hidden production accepts the input
  pub actions : (states : ℕ → Contents) → IsTableOf t states → (state bit : ℕ) (token : Token) → state < count → CanStandNext token → IsBitOf t.terminals token bit → entry_of listed.productions (action_in p state bit) ≡ shown_entry hidden (action_on (states state) token)
  -- the goto that is looked up is that of the state, if it has one
  pub gotos : (states : ℕ → Contents) → IsTableOf t states → (state nonterminal target : ℕ) (name : NonterminalString) → state < count → slice_get listed.nonterminals nonterminal ≡ Some name → (states state).goto name ≡ Some target → goto_in p state nonterminal ≡ target
  -- a nonterminal on which no state has a goto has 0 in all states
  pub none : (states : ℕ → Contents) → IsTableOf t states → (nonterminal : ℕ) (name : NonterminalString) → slice_get listed.nonterminals nonterminal ≡ Some name → ((state : ℕ) → state < count → (states state).goto name ≡ None) → (state : ℕ) → state < count → goto_in p state nonterminal ≡ 0
  pub action_within : (state bit : ℕ) → state < count → bit < length t.terminals + 1 → ActionStaysWithin p state bit
  pub goto_within : (state nonterminal : ℕ) → state < count → nonterminal < length listed.nonterminals → GotoStaysWithin p state nonterminal
