use Rattle.std.proofs.Common.{◌++◌, refl, codes, string_bytes}
use Rattle.std.specs.Fmt.{decimal}
use Rattle.table_data.specs.Json.{array}
use Rattle.table_data.specs.Examples.{reduced_json, word_json}
use Rattle.table_data.proofs.Loops.{before, grew_by}
use Rattle.table_data.proofs.examples.ExampleToJson.push_json.Goals as goal

pub returns : goal.returns
returns c =
    before (string_bytes c.args.text.now) (codes "{\"symbols\":") _ _ (string_bytes c.push_str.new.self) _ c.in_ok-push_str.ensures.bytes (
    before (string_bytes c.push_str.new.self) (array (codes ",") word_json c.args.self.now.symbols.items) _ _ (string_bytes c.push_array.new.text) _ (grew_by (array (codes ",") word_json) _ _ _ _ c.in_ok-push_array.ensures c.deref.ensures.value) (
    before (string_bytes c.push_array.new.text) (codes ",\"place\":" ++ decimal c.args.self.now.cursor) _ _ (string_bytes c.push_number.new.text) _ c.in_ok-push_number.ensures (
    before (string_bytes c.push_number.new.text) (codes ",\"reductions\":") _ _ (string_bytes c.push_str-2.new.self) _ c.in_ok-push_str-2.ensures.bytes (
    before (string_bytes c.push_str-2.new.self) (array (codes ",") reduced_json c.args.self.now.reductions.items) _ _ (string_bytes c.push_array-2.new.text) _ (grew_by (array (codes ",") reduced_json) _ _ _ _ c.in_ok-push_array-2.ensures c.deref-2.ensures.value) (
    c.in_ok-push_str-3.ensures.bytes) refl) refl) refl) refl) refl
