-- What arguments of both programs and the environment ask for. An argument is a list of bytes.
use Rattle.std.specs.Prelude.{ℕ, ◌^◌, nat_lt, ◌&&◌, List, length, Option, None, Some, codes, if◌then◌else◌}
use Rattle.std.specs.Str.{bytes_eq, all_ascii_digits}
use Rattle.std.specs.Str.Parse.{digits_value}
use Rattle.lalrpop_construction.specs.declared.options.Method.{Method}
use Rattle.lalrpop_construction.specs.declared.options.Method.TheVariants.{Lane, Canonical}

-- the number that an argument gives in decimal digits alone, if there is a digit and the number is
-- less than 2 ^ 64
abbrev pub limit_of : List ℕ → Option ℕ
limit_of word = if all_ascii_digits word && (nat_lt 0 (length word) && nat_lt (digits_value 10 word) (2 ^ 64)) then Some (digits_value 10 word) else None

-- the method that the value of the environment variable asks for: the canonical method if it is
-- `disabled`, and else the lane method
abbrev pub method_of : List ℕ → Method
method_of word = if bytes_eq word (codes "disabled") then Canonical else Lane
