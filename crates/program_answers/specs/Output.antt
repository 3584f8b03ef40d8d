-- What a writer has after a text was written, if that is known.
use Rattle.std.specs.Prelude.{◌≡◌, ℕ, List, ◌++◌, Option}
use Rattle.std.specs.Io.KnownBytes.{Appends}

-- a beginning of the text was written, or the whole text
abbrev pub AppendsBeginning : Option (List ℕ) → Option (List ℕ) → List ℕ → Type 0
AppendsBeginning old new text = (done : List ℕ) × (left : List ℕ) × (done ++ left ≡ text) × Appends old new done

-- bytes were put behind those of a buffer: some of them all were written, and the buffer has the
-- others
abbrev pub IsPut : Option (List ℕ) → Option (List ℕ) → List ℕ → List ℕ → List ℕ → Type 0
IsPut old new buffer_old buffer_new bytes = (done : List ℕ) × (done ++ buffer_new ≡ buffer_old ++ bytes) × Appends old new done
