use Rattle.std.proofs.Common.{refl, codes, string_bytes}
use Rattle.table_data.specs.Json.{array}
use Rattle.table_data.specs.States.{item_json, reduction_json}
use Rattle.table_data.proofs.Loops.{before, grew_by}
use Rattle.table_data.proofs.states.Lr1StateToJson.push_json.Goals as goal

pub returns : goal.returns
returns c =
    before (string_bytes c.args.text.now) _ _ _ _ _ c.in_ok-push_number.ensures (
    before (string_bytes c.push_number.new.text) _ _ _ _ _ c.in_ok-push_str.ensures.bytes (
    before (string_bytes c.push_str.new.self) _ _ _ _ _ (grew_by (array (codes ",") (item_json c.args.naming.now.terminals.now c.args.naming.now.sets)) _ _ _ _ c.in_ok-push_array.ensures c.deref.ensures.value) (
    before (string_bytes c.push_array.new.text) _ _ _ _ _ c.in_ok-push_str-2.ensures.bytes (
    before (string_bytes c.push_str-2.new.self) _ _ _ _ _ c.in_ok-push_targets.ensures (
    before (string_bytes c.push_targets.new.text) _ _ _ _ _ c.in_ok-push_str-3.ensures.bytes (
    before (string_bytes c.push_str-3.new.self) _ _ _ _ _ c.in_ok-push_targets-2.ensures (
    before (string_bytes c.push_targets-2.new.text) _ _ _ _ _ c.in_ok-push_str-4.ensures.bytes (
    before (string_bytes c.push_str-4.new.self) _ _ _ _ _ (grew_by (array (codes ",") (reduction_json c.args.naming.now.sets)) _ _ _ _ c.in_ok-push_array-2.ensures c.deref-2.ensures.value) (
    c.in_ok-push_str-5.ensures.bytes) refl) refl) refl) refl) refl) refl) refl) refl) refl
