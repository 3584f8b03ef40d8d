use Rattle.std.proofs.Common.{List, refl, codes, string_bytes}
use Rattle.lalrpop_grammar.specs.declared.repr.TerminalString.{TerminalString}
use Rattle.table_data.specs.Causes.{cause_json}
use Rattle.table_data.specs.Conflicts.{conflict_json}
use Rattle.table_data.specs.Json.{array}
use Rattle.table_data.specs.Names.{terminal_json, tokens_json}
use Rattle.table_data.specs.States.{state_json}
use Rattle.table_data.proofs.Loops.{before, from_nothing, grew_by}
use Rattle.table_data.proofs.NamedSets.{each_once}
use Rattle.table_data.proofs.whole.tables_json.Goals as goal

pub returns : goal.returns
returns c =
    let naming = c.in_ok-naming.naming in
    let same = c.in_ok-naming.ensures.terminals in
    record {
      shown = c.in_ok-shown.shown.items;
      each = c.in_ok-shown.ensures;
      causes = c.in_ok-causes.causes.items;
      caused = record { causes = c.in_ok-causes.ensures.causes; searches = c.in_ok-causes.ensures.searches; moves = c.in_ok-causes.ensures.moves };
      sets = naming.sets;
      once = each_once _ naming.sets c.in_ok-naming.ensures.sets c.as_slice.ensures.differ;
      is = from_nothing _ _ _ c.new-text.ensures.bytes (
          before (string_bytes c.new-text.result) _ _ _ _ _ c.in_ok-push_str.ensures.bytes (
          before (string_bytes c.push_str.new.self) _ _ _ _ _ c.in_ok-push_json.ensures (
          before (string_bytes c.push_json.new.text) _ _ _ _ _ c.in_ok-push_str-2.ensures.bytes (
          before (string_bytes c.push_str-2.new.self) _ _ _ _ _ (grew_by (array (codes ",") terminal_json) _ _ _ _ c.in_ok-push_array.ensures c.all.ensures.value) (
          before (string_bytes c.push_array.new.text) _ _ _ _ _ c.in_ok-push_str-3.ensures.bytes (
          before (string_bytes c.push_str-3.new.self) _ _ _ _ _ c.in_ok-push_productions.ensures (
          before (string_bytes c.push_productions.new.text) _ _ _ _ _ c.in_ok-push_str-4.ensures.bytes (
          before (string_bytes c.push_str-4.new.self) _ _ _ _ _
          (grew_by (λ (terminals : List TerminalString). array (codes ",\n") (tokens_json terminals) naming.sets) _ _ _ _
          (grew_by (array (codes ",\n") (tokens_json naming.terminals.now)) _ _ _ _ c.in_ok-push_array-2.ensures c.as_slice.ensures.sets) same) (
          before (string_bytes c.push_array-2.new.text) _ _ _ _ _ c.in_ok-push_str-5.ensures.bytes (
          before (string_bytes c.push_str-5.new.self) _ _ _ _ _
          (grew_by (λ (terminals : List TerminalString). array (codes ",\n") (state_json terminals naming.sets) c.args.states.now) _ _ _ _ c.in_ok-push_array-3.ensures same) (
          before (string_bytes c.push_array-3.new.text) _ _ _ _ _ c.in_ok-push_str-6.ensures.bytes (
          before (string_bytes c.push_str-6.new.self) _ _ _ _ _ (grew_by (array (codes ",\n") (conflict_json naming.sets)) _ _ _ _ c.in_ok-push_array-4.ensures c.deref.ensures.value) (
          before (string_bytes c.push_array-4.new.text) _ _ _ _ _ c.in_ok-push_str-7.ensures.bytes (
          before (string_bytes c.push_str-7.new.self) _ _ _ _ _ (grew_by (array (codes ",\n") cause_json) _ _ _ _ c.in_ok-push_array-5.ensures c.deref-2.ensures.value) (
          c.in_ok-push_str-8.ensures.bytes) refl) refl) refl) refl) refl) refl) refl) refl) refl) refl) refl) refl) refl) refl
          );
    }
