use Rattle.std.proofs.Common.{ℕ, List, refl, string_bytes}
use Rattle.json.specs.Print.{quoted}
use Rattle.table_data.proofs.Loops.{before, grew_by}
use Rattle.lrshow_check.proofs.findings.push_finding.Goals as goal

pub returns : goal.returns
returns c =
    before (string_bytes c.args.text.now) _ _ _ _ _ c.in_ok-push_str.ensures.bytes (
    before (string_bytes c.push_str.new.self) _ _ _ _ _ (grew_by (λ (s : List ℕ). s) _ _ _ _ c.in_ok-push_str-2.ensures.bytes c.severity.ensures) (
    before (string_bytes c.push_str-2.new.self) _ _ _ _ _ c.in_ok-push_number.ensures (
    before (string_bytes c.push_number.new.text) _ _ _ _ _ c.in_ok-push_number-2.ensures (
    before (string_bytes c.push_number-2.new.text) _ _ _ _ _ c.in_ok-push_number-3.ensures (
    before (string_bytes c.push_number-3.new.text) _ _ _ _ _ c.in_ok-push_number-4.ensures (
    before (string_bytes c.push_number-4.new.text) _ _ _ _ _ c.in_ok-push_str-3.ensures.bytes (
    before (string_bytes c.push_str-3.new.self) _ _ _ _ _ (grew_by quoted _ _ _ _ c.in_ok-push_quoted.ensures c.as_str.ensures.value) (
    before (string_bytes c.push_quoted.new.text) _ _ _ _ _ c.in_ok-push_str-4.ensures.bytes (
    before (string_bytes c.push_str-4.new.self) _ _ _ _ _ (grew_by quoted _ _ _ _ c.in_ok-push_quoted-2.ensures c.as_str-2.ensures.value) (
    c.in_ok-push_str-5.ensures.bytes) refl) refl) refl) refl) refl) refl) refl) refl) refl) refl
