-- Arrays and objects of JSON (RFC 8259), as texts: lists of bytes.
use Rattle.std.specs.Prelude.{ℕ, List, [], ◌∷◌, ◌++◌, codes}
use Rattle.std.specs.Fmt.{decimal}
use Rattle.std.specs.List.{flat_map}
use Rattle.lalrpop_states.specs.declared.lr1_core.state.StateIndex.{StateIndex}

-- the text of a value after a separator
abbrev pub after_separator : {X : Type 0} → List ℕ → (X → List ℕ) → X → List ℕ
after_separator separator text x = separator ++ text x

-- the texts of values, with a separator between them
abbrev pub separated : {X : Type 0} → List ℕ → (X → List ℕ) → List X → List ℕ
separated separator text [] = []
separated separator text (x ∷ xs) = text x ++ flat_map (after_separator separator text) xs

-- an array: the values between brackets
abbrev pub array : {X : Type 0} → List ℕ → (X → List ℕ) → List X → List ℕ
array separator text xs = codes "[" ++ (separated separator text xs ++ codes "]")

-- an object: its members between braces
abbrev pub object : {X : Type 0} → (X → List ℕ) → List X → List ℕ
object text xs = codes "{" ++ (separated (codes ",") text xs ++ codes "}")

-- a member of an object: a key, with the text that is given for it, and the number of a state
abbrev pub member : {X : Type 0} → (X → List ℕ) → X × StateIndex → List ℕ
member key (x, target) = key x ++ (codes ":" ++ decimal target.0)
