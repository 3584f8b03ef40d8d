-- The arrays of a file, with their names and comments.
use Rattle.std.specs.Prelude.{ℕ, Bool, if◌then◌else◌, List, [], ◌∷◌, ◌++◌, codes, map, string_bytes}
use Rattle.std.specs.Str.{str_to_ascii_uppercase}
use Rattle.file_parts.specs.declared.parts.Array.{Array}
use Rattle.packed_tables.specs.declared.packed.PackedTables.{PackedTables}

-- the name, the comment and the numbers of an array
abbrev pub Parts : Type 0
Parts = List ℕ × (List ℕ × List ℕ)

abbrev pub array_parts : Array → Parts
array_parts a = (string_bytes a.name, (string_bytes a.comment, a.numbers.items))

abbrev pub parts_of : List Array → List Parts
parts_of arrays = map array_parts arrays

-- the name of an array, in capitals or as it is
abbrev pub array_name : Bool → List ℕ → List ℕ
array_name capitals name = if capitals then str_to_ascii_uppercase name else name

-- an array with a name, a comment and numbers
abbrev pub array_of : Bool → List ℕ → List ℕ → List ℕ → Parts
array_of capitals name comment numbers = (array_name capitals name, (comment, numbers))

-- the arrays of the cells of actions
abbrev pub cell_arrays : Bool → PackedTables → List Parts
cell_arrays capitals p = array_of capitals (codes "row") (codes "where the row of a state begins in the next two arrays") p.actions.row.items
    ∷ array_of capitals (codes "column") (codes "the terminal to which a cell belongs") p.actions.column.items
    ∷ array_of capitals (codes "cell") (codes "the action in a cell") p.actions.cell.items ∷ []

-- the arrays of the usual reductions of states
abbrev pub reduction_arrays : Bool → PackedTables → List Parts
reduction_arrays capitals p = array_of capitals (codes "reduction") (codes "the usual reduction of a state, as an action, or 0") p.reduction.items
    ∷ array_of capitals (codes "set") (codes "the set of the terminals on which a state makes its usual reduction") p.set.items
    ∷ array_of capitals (codes "sets") (codes "the sets, by their bits: the lowest bit of a byte is of the first terminal") p.sets.items ∷ []

-- the arrays of gotos
abbrev pub goto_arrays : Bool → PackedTables → List Parts
goto_arrays capitals p = array_of capitals (codes "goto_row") (codes "where the row of a state begins in the next two arrays") p.gotos.row.items
    ∷ array_of capitals (codes "goto_column") (codes "the nonterminal to which a cell belongs") p.gotos.column.items
    ∷ array_of capitals (codes "goto_cell") (codes "the state to which a goto leads") p.gotos.cell.items
    ∷ array_of capitals (codes "goto_usual") (codes "where the gotos on a nonterminal lead in most states") p.goto_usual.items ∷ []

-- the arrays of the sides of productions
abbrev pub side_arrays : Bool → List ℕ → List ℕ → List Parts
side_arrays capitals left lengths = array_of capitals (codes "left") (codes "the nonterminal of a production") left
    ∷ array_of capitals (codes "length") (codes "how many symbols the right side of a production has") lengths ∷ []

-- all arrays of a file
abbrev pub file_arrays : Bool → PackedTables → List ℕ → List ℕ → List Parts
file_arrays capitals p left lengths = cell_arrays capitals p ++ (reduction_arrays capitals p ++ (goto_arrays capitals p ++ side_arrays capitals left lengths))
