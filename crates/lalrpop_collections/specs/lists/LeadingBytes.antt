-- The first bytes of a text as one number. Texts whose numbers differ are ordered as these numbers
-- are. A number is written in base 256, the greatest digit first (Knuth, "The Art of Computer
-- Programming", volume 2, section 4.1).
use Rattle.std.specs.Prelude.{ℕ, zero, suc, ◌+◌, ◌*◌, ◌<◌, List, slice_index}

-- each number is below 256
abbrev pub AreBytes : List ℕ → Type 0
AreBytes xs = (k : ℕ) → slice_index xs k < 256

-- the number that a first number and the next bytes from a place on make in base 256. The count
-- says how many bytes, and those after the last one are 0
abbrev pub written_on : ℕ → List ℕ → ℕ → ℕ → ℕ
written_on number bytes place zero = number
written_on number bytes place (suc count) = written_on (number * 256 + slice_index bytes place) bytes (suc place) count

-- the first eight bytes as one number in base 256, with the first byte as the greatest digit
unfoldable pub leading_number : List ℕ → ℕ
leading_number bytes = written_on 0 bytes 0 8
