-- The rows of states, read one after the other.
use Rattle.std.proofs.Common.{◌≡◌, ℕ, ◌<◌, List, get_or, length, ap}
use Rattle.std.proofs.lemmas.Option.{slice_get_read}
use Rattle.std.specs.declared.alloc.Global.{Global}
use Rattle.std.specs.declared.vec.Vec.{Vec}
use Rattle.packed_tables.specs.Packed.{numbers_of, row_at}

-- a row that was read is the one with its number
pub row_read : (rows : List (Vec ℕ Global)) (n i : ℕ) (row : Vec ℕ Global) → n ≡ length rows → i < n → row ≡ get_or rows i row → row_at rows i ≡ row.items
row_read rows n i row counted within is = ap numbers_of (slice_get_read rows n i row counted within is)
