-- Arrays that have the actions and the gotos of the rows of states.
use Rattle.std.specs.Prelude.{◌≡◌, ℕ, ◌<◌, ◌==◌, cond, List, [], length, slice_get, slice_index, Option, None, Some}
use Rattle.std.specs.declared.alloc.Global.{Global}
use Rattle.std.specs.declared.vec.Vec.{Vec}
use Rattle.packed_tables.specs.Lookup.{action_in, goto_in, place_of, set_place}
use Rattle.packed_tables.specs.declared.packed.PackedRows.{PackedRows}
use Rattle.packed_tables.specs.declared.packed.PackedTables.{PackedTables}

-- the numbers of a row, or none if there is no row
abbrev pub numbers_of : Option (Vec ℕ Global) → List ℕ
numbers_of None = []
numbers_of (Some row) = row.items

-- the numbers of the row with a number
abbrev pub row_at : List (Vec ℕ Global) → ℕ → List ℕ
row_at rows n = numbers_of (slice_get rows n)

-- the cell of a column of a row is in the arrays
abbrev pub IsWithin : PackedRows → ℕ → ℕ → Type 0
IsWithin rows row column = place_of rows row column < length rows.column.items

-- a state has an action on a terminal, and its lookup stays in the arrays
pub record HasAction (p : PackedTables) (state terminal action : ℕ) : Type 0 where
  pub found : action_in p state terminal ≡ action
  pub cell : IsWithin p.actions state terminal
  pub byte : set_place p state terminal < length p.sets.items

-- a state has the actions of a row
abbrev pub HasActions : PackedTables → ℕ → List ℕ → Type 0
HasActions p state row = (terminal : ℕ) → terminal < length row → HasAction p state terminal (slice_index row terminal)

-- what the lookup of a goto finds: the goto of the tables, or the usual one if they have none
abbrev pub goto_or : ℕ → ℕ → ℕ
goto_or goto usual = cond (goto == 0) usual goto

-- a state has a goto on a nonterminal, if it is not 0, and its lookup stays in the arrays
pub record HasGoto (p : PackedTables) (state nonterminal goto : ℕ) : Type 0 where
  pub found : goto_in p state nonterminal ≡ goto_or goto (slice_index p.goto_usual.items nonterminal)
  pub cell : IsWithin p.gotos state nonterminal
  pub usual : nonterminal < length p.goto_usual.items

-- a state has the gotos of a row
abbrev pub HasGotos : PackedTables → ℕ → List ℕ → Type 0
HasGotos p state row = (nonterminal : ℕ) → nonterminal < length row → HasGoto p state nonterminal (slice_index row nonterminal)

-- so many rows begin somewhere, and each place has a column and a number
pub record AreRows (rows : PackedRows) (count : ℕ) : Type 0 where
  pub begun : length rows.row.items ≡ count
  pub filled : length rows.cell.items ≡ length rows.column.items

-- the usual goto of a nonterminal is 0 if no state has a goto on it
abbrev pub IsUsual : List ℕ → List (Vec ℕ Global) → ℕ → Type 0
IsUsual usual gotos nonterminal = ((state : ℕ) → slice_index (row_at gotos state) nonterminal ≡ 0) → slice_index usual nonterminal ≡ 0

-- arrays have the actions and the gotos of states, of which each has a row of both
pub record ArePacked (p : PackedTables) (actions gotos : List (Vec ℕ Global)) : Type 0 where
  pub action_rows : AreRows p.actions (length actions)
  pub goto_rows : AreRows p.gotos (length gotos)
  pub reductions : length p.reduction.items ≡ length actions
  pub state_sets : length p.set.items ≡ length actions
  pub each_action : (state : ℕ) → state < length actions → HasActions p state (row_at actions state)
  pub each_goto : (state : ℕ) → state < length gotos → HasGotos p state (row_at gotos state)
  pub usual : (nonterminal : ℕ) → IsUsual p.goto_usual.items gotos nonterminal
