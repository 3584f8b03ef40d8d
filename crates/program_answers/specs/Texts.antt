-- Texts that both programs print, and their bound on copies of states.
use Rattle.std.specs.Prelude.{ℕ, List, [], ◌∷◌, ◌++◌}

-- a text and a line end
abbrev pub line : List ℕ → List ℕ
line text = text ++ 10 ∷ []

-- the greatest number of states that may be copied
abbrev pub most_copies : ℕ
most_copies = 10000
