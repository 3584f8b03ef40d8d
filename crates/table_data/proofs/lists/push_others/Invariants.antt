use Rattle.std.proofs.Common.{◌≡◌, ◌++◌, string_bytes, take}
use Rattle.std.specs.List.{flat_map}
use Rattle.table_data.specs.Json.{after_separator}
use Rattle.table_data.proofs.lists.push_others.Given as goal

-- each value so far is written after a separator
abbrev pub invariant-loop-value : goal.invariant-loop-value
invariant-loop-value g l =
    string_bytes l.text ≡ string_bytes l.fn.text ++ flat_map (after_separator l.separator (g.T.ToJson.json l.naming)) (take l.value-index l.values)
