use Rattle.std.proofs.Common.{◌≡◌, ◌++◌, codes, map, string_bytes}
use denote.Text.{Utf8}
use denote.Shadow.{shadow}
use Rattle.lalrpop_base.specs.Words.{rising, token_of}
use Rattle.table_data.specs.Json.{separated}
use Rattle.table_data.specs.Names.{token_json}
use Rattle.table_data.proofs.Loops.{going}
use Rattle.table_data.proofs.names.push_tokens.Given as goal

-- the text so far and that of the tokens that are left are the text of all
abbrev pub invariant-loop-token : goal.invariant-loop-token
invariant-loop-token l = record {
  is_text : shadow (Utf8 l.separator);
  whole : string_bytes l.text ++ going l.separator token_json (map (token_of l.token-iterator.terminals.now) l.token-iterator.bits) ≡ string_bytes l.initial.text ++ separated (codes ",") token_json (map (token_of l.terminals) (rising l.set));
}
