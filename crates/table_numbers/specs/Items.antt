-- The items of states by number, beside those of states of the code.
use Rattle.std.specs.Prelude.{◌≡◌, ℕ, List, [], length, map, slice_get, Option, None, Some, option_map}
use Rattle.std.specs.List.{filter_map}
use Rattle.lalrpop_base.specs.Words.{AreFaithful, Bits, Contents, Dotted, bits_of, contents}
use Rattle.lalrpop_grammar.specs.declared.repr.NonterminalString.{NonterminalString}
use Rattle.lalrpop_grammar.specs.declared.repr.Production.{Production}
use Rattle.lalrpop_states.specs.declared.lr1_core.state.State.{State}
use Rattle.table_numbers.specs.Contents.{numbered_contents}
use Rattle.table_numbers.specs.Layout.{numbers_of}
use Rattle.table_numbers.specs.Lists.{AreAbout, Lists}
use Rattle.table_numbers.specs.Numbers.{AreTablesOf, with_items}
use Rattle.table_numbers.specs.declared.tables.NumberedItem.{NumberedItem}
use Rattle.table_numbers.specs.declared.tables.NumberedTables.{NumberedTables}

-- ---- items and items of the code
-- the production and the token set at the numbers of an item, and its dot
abbrev pub item_at : List Production → List Bits → NumberedItem → (Option Production × ℕ) × Option Bits
item_at productions sets i = ((slice_get productions i.production, i.dot), slice_get sets i.lookahead)

-- the production, the dot and the token set of an item of the code
abbrev pub item_parts : Dotted Bits → (Option Production × ℕ) × Option Bits
item_parts i = ((Some i.production, i.index), Some i.lookahead)

-- items by number are those of a state of the code
abbrev pub AreItemsOf : List Production → List Bits → List NumberedItem → State Bits → Type 0
AreItemsOf productions sets items state = map (item_at productions sets) items ≡ map item_parts state.items.vec.items

-- each list of items by number is that of the state of the code at its place
abbrev pub EachListIsOf : List Production → List Bits → List (State Bits) → List (List NumberedItem) → Type 0
EachListIsOf productions sets states all =
    (n : ℕ) (state : State Bits) (items : List NumberedItem) → slice_get states n ≡ Some state → slice_get all n ≡ Some items → AreItemsOf productions sets items state

-- so are all lists, and there are as many as states
pub record AreListsOf (productions : List Production) (sets : List Bits) (states : List (State Bits)) (all : List (List NumberedItem)) : Type 0 where
  pub counted : length all ≡ length states
  pub each : EachListIsOf productions sets states all

-- the list at a place, or no items if there is none
abbrev pub list_if : Option (List NumberedItem) → List NumberedItem
list_if None = []
list_if (Some items) = items

abbrev pub list_at : List (List NumberedItem) → ℕ → List NumberedItem
list_at all n = list_if (slice_get all n)

-- each state of the code has the items by number at its place
abbrev pub EachHasItems : List Production → List Bits → List (List NumberedItem) → List (State Bits) → Type 0
EachHasItems productions sets all states = (n : ℕ) (state : State Bits) → slice_get states n ≡ Some state → AreItemsOf productions sets (list_at all n) state

-- ---- contents
-- the production with the number of an item, if there is one, and the dot of the item
abbrev pub numbered_dotted : List Production → NumberedItem → Option (Production × ℕ)
numbered_dotted productions i = option_map (λ (p : Production). (p, i.dot)) (slice_get productions i.production)

-- the productions with dots of a list of items, or none if there is no list
abbrev pub dotted_if : List Production → Option (List NumberedItem) → List (Production × ℕ)
dotted_if productions None = []
dotted_if productions (Some items) = filter_map (numbered_dotted productions) items

-- the contents of the state with each number, with the items that the tables list for it
abbrev pub whole_contents : Lists → NumberedTables → ℕ → Contents
whole_contents lists t n = with_items (dotted_if lists.productions (slice_get t.items n)) (numbered_contents lists t n)

-- ---- numbers
-- the tables by number have the items of the states
abbrev pub HaveItemsOf : Lists → NumberedTables → List (State Bits) → Type 0
HaveItemsOf lists t states = AreListsOf lists.productions (map bits_of t.sets) states t.items

-- the numbers are those of tables of the states, with items
pub record AreWholeNumbersOf (lists : Lists) (numbers : List ℕ) (states : List (State Bits)) : Type 0 where
  pub tables : NumberedTables
  pub laid_out : numbers ≡ numbers_of tables
  pub right : AreTablesOf lists tables (contents lists.terminals states)
  pub items : HaveItemsOf lists tables states

-- the numbers are faithful tables of the productions of the lists, with the items that they list
pub record AreFaithfulWithItems (lists : Lists) (start : NonterminalString) (numbers : List ℕ) : Type 0 where
  pub tables : NumberedTables
  pub laid_out : numbers ≡ numbers_of tables
  pub about : AreAbout lists tables
  pub faithful : AreFaithful lists.productions start (whole_contents lists tables)
