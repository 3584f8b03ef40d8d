use Rattle.std.proofs.Common.{◌≡◌, ◌++◌, codes, string_bytes}
use denote.Text.{Utf8}
use denote.Shadow.{shadow}
use Rattle.table_data.specs.Json.{separated, member}
use Rattle.table_data.proofs.Loops.{going}
use Rattle.table_data.proofs.lists.push_targets.Given as goal

-- the text so far and that of the members that are left are the text of all
abbrev pub invariant-loop-symbol : goal.invariant-loop-symbol
invariant-loop-symbol g l =
    let key = member (g.K.ToJson.json l.naming) in record {
      is_text : shadow (Utf8 l.separator);
      whole : string_bytes l.text ++ going l.separator key l.symbol-iterator ≡ string_bytes l.initial.text ++ separated (codes ",") key l.targets.entries;
    }
