-- Names that differ, of bases some of which are the same.
use Rattle.std.specs.Prelude.{ℕ, ◌+◌, Bool, ◌&&◌, ◌==◌, cond, List, [], ◌∷◌, ◌++◌, bytes_eq}
use Rattle.std.specs.Fmt.{decimal}
use Rattle.std.specs.List.{count_by}

-- how often a text is in a list
abbrev pub occurrences : List ℕ → List (List ℕ) → ℕ
occurrences text all = count_by (λ other. bytes_eq other text) all

-- whether a base is the only one, and is not taken
abbrev pub is_only : List (List ℕ) → List (List ℕ) → List ℕ → Bool
is_only bases taken base = (occurrences base bases == 1) && (occurrences base taken == 0)

-- the name of a base with a number: the base, with a mark and the number after it if it is not the
-- only one
abbrev pub name_for : Bool → List ℕ → ℕ → List ℕ → List ℕ
name_for only mark number base = cond only base (base ++ (mark ++ decimal number))

-- the names of bases, of which the first has a number
abbrev pub names_from : List (List ℕ) → List (List ℕ) → List ℕ → ℕ → List (List ℕ) → List (List ℕ)
names_from bases taken mark number [] = []
names_from bases taken mark number (base ∷ rest) = name_for (is_only bases taken base) mark number base ∷ names_from bases taken mark (number + 1) rest

-- the names of all bases
abbrev pub distinct_names : List (List ℕ) → List ℕ → List (List ℕ) → List (List ℕ)
distinct_names bases mark taken = names_from bases taken mark 0 bases
