-- The lookup of an action and of a goto in packed arrays, as the generated files do it.
use Rattle.std.specs.Prelude.{ℕ, Bool, ◌+◌, ◌*◌, ◌/◌, ◌%◌, ◌^◌, ◌==◌, cond, slice_index}
use Rattle.packed_tables.specs.declared.packed.PackedRows.{PackedRows}
use Rattle.packed_tables.specs.declared.packed.PackedTables.{PackedTables}

-- the place of the cell of a column in a row
abbrev pub place_of : PackedRows → ℕ → ℕ → ℕ
place_of rows row column = slice_index rows.row.items row + column

-- the number in a row and a column, or another one if the cell there is of another column
abbrev pub cell_or : PackedRows → ℕ → ℕ → ℕ → ℕ
cell_or rows row column other = cond (slice_index rows.column.items (place_of rows row column) == column) (slice_index rows.cell.items (place_of rows row column)) other

-- whether a byte has a bit
abbrev pub has_bit : ℕ → ℕ → Bool
has_bit byte bit = (byte / 2 ^ bit) % 2 == 1

-- the place of the byte that has the bit of a terminal in the set of a state
abbrev pub set_place : PackedTables → ℕ → ℕ → ℕ
set_place p state terminal = slice_index p.set.items state * p.set_bytes + terminal / 8

-- that byte
abbrev pub set_byte : PackedTables → ℕ → ℕ → ℕ
set_byte p state terminal = slice_index p.sets.items (set_place p state terminal)

-- the usual reduction of a state if the terminal is in its set, and otherwise 0
abbrev pub usual_on : PackedTables → ℕ → ℕ → ℕ
usual_on p state terminal = cond (has_bit (set_byte p state terminal) (terminal % 8)) (slice_index p.reduction.items state) 0

-- the action of a state on a terminal
abbrev pub action_in : PackedTables → ℕ → ℕ → ℕ
action_in p state terminal = cell_or p.actions state terminal (usual_on p state terminal)

-- the state to which the goto of a state leads
abbrev pub goto_in : PackedTables → ℕ → ℕ → ℕ
goto_in p state nonterminal = cell_or p.gotos state nonterminal (slice_index p.goto_usual.items nonterminal)
