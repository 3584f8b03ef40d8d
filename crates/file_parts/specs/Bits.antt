-- The smallest cells that hold all numbers of an array.
use Rattle.std.specs.Prelude.{ℕ, nat_lt, if◌then◌else◌, List, codes}
use Rattle.std.specs.List.{list_all}

-- how many bits they have, as a text
abbrev pub bits_text : List ℕ → List ℕ
bits_text numbers = if list_all (λ n. nat_lt n 256) numbers then codes "8" else if list_all (λ n. nat_lt n 65536) numbers then codes "16" else codes "32"
