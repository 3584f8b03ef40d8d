use Rattle.std.proofs.Common.{◌++◌, ◌∙◌, ap, codes, refl, string_bytes, sym}
use Rattle.lalrpop_ambiguity.specs.declared.search.Search.{Search}
use Rattle.table_data.specs.Causes.{derivation_json, search_json}
use Rattle.table_data.proofs.Loops.{before}
use Rattle.table_data.proofs.causes.push_search.Goals as goal

pub returns-in_ok-push_str-in-Found-3 : goal.returns-in_ok-push_str-in-Found-3
returns-in_ok-push_str-in-Found-3 c =
    before (string_bytes c.args.text.now) (codes "\"found\",\"derivations\":[") _ _ (string_bytes c.push_str.new.self) _ c.in_ok-push_str-in-Found.ensures.bytes (
    before (string_bytes c.push_str.new.self) (derivation_json c.args.moves c.in-Found.found.left) _ _ (string_bytes c.push_derivation.new.text) _ c.in_ok-push_derivation-in-Found.ensures (
    before (string_bytes c.push_derivation.new.text) (codes ",") _ _ (string_bytes c.push_str-in-Found.new.self) _ c.in_ok-push_str-in-Found-2.ensures.bytes (
    before (string_bytes c.push_str-in-Found.new.self) (derivation_json c.args.moves c.in-Found.found.right) _ _ (string_bytes c.push_derivation-in-Found.new.text) _ c.in_ok-push_derivation-in-Found-2.ensures (
    c.in_ok-push_str-in-Found-3.ensures.bytes) refl) refl) refl) refl
    ∙ ap (λ (s : Search). string_bytes c.args.text.now ++ search_json c.args.moves s) (sym c.in-Found.is)

pub returns-in_ok-push_str-in-Exhausted : goal.returns-in_ok-push_str-in-Exhausted
returns-in_ok-push_str-in-Exhausted c = c.in_ok-push_str-in-Exhausted.ensures.bytes ∙ ap (λ (s : Search). string_bytes c.args.text.now ++ search_json c.args.moves s) (sym c.in-Exhausted.is)

pub returns-in_ok-push_str-in-Cut : goal.returns-in_ok-push_str-in-Cut
returns-in_ok-push_str-in-Cut c = c.in_ok-push_str-in-Cut.ensures.bytes ∙ ap (λ (s : Search). string_bytes c.args.text.now ++ search_json c.args.moves s) (sym c.in-Cut.is)
