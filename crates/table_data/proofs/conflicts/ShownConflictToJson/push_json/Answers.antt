use Rattle.std.proofs.Common.{◌++◌, ℕ, refl, codes, string_bytes}
use Rattle.std.specs.Fmt.{decimal}
use Rattle.table_data.specs.Conflicts.{action_json, reduce_json}
use Rattle.table_data.proofs.Loops.{before, grew_by}
use Rattle.table_data.proofs.conflicts.ShownConflictToJson.push_json.Goals as goal

pub returns : goal.returns
returns c =
    before (string_bytes c.args.text.now) _ _ _ _ _ c.in_ok-push_number.ensures (
    before (string_bytes c.push_number.new.text) _ _ _ _ _ (grew_by (λ (n : ℕ). codes ",\"lookahead\":" ++ decimal n) _ _ _ _ c.in_ok-push_number-2.ensures c.number_of-set.ensures) (
    before (string_bytes c.push_number-2.new.text) _ _ _ _ _ c.in_ok-push_str.ensures.bytes (
    before (string_bytes c.push_str.new.self) _ _ _ _ _ (grew_by (reduce_json c.args.self.now.conflict.now.production.now) _ _ _ _ c.in_ok-push_reduce.ensures c.deref.ensures.value) (
    before (string_bytes c.push_reduce.new.text) _ _ _ _ _ c.in_ok-push_str-2.ensures.bytes (
    before (string_bytes c.push_str-2.new.self) _ _ _ _ _ (grew_by (action_json c.args.self.now.conflict.now.action) _ _ _ _ c.in_ok-push_action.ensures c.deref-2.ensures.value) (
    c.in_ok-push_str-3.ensures.bytes) refl) refl) refl) refl) refl) refl
