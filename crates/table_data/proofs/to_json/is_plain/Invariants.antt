use Rattle.std.proofs.Common.{◌≡◌, take}
use Rattle.json.specs.Print.{escape}
use Rattle.table_data.proofs.to_json.is_plain.Given as goal

-- the bytes so far are not escaped
abbrev pub invariant-loop-byte : goal.invariant-loop-byte
invariant-loop-byte l = escape (take l.byte-index l.shown) ≡ take l.byte-index l.shown
