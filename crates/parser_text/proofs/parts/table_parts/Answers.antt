use Rattle.std.proofs.Common.{List, ℕ, refl, ap, ◌∙◌}
use Rattle.parser_text.specs.FileArrays.{file_arrays}
use Rattle.parser_text.proofs.parts.table_parts.Goals as goal

pub returns : goal.returns
returns c =
    let packed = c.args.packed.now in
    let capitals = c.args.capitals in
    let left = c.in_ok-left.left.items in
    let lengths = c.in_ok-lengths.lengths.items in
    record {
      texts = c.in_ok-grammar_of.ensures;
      left = left;
      left_sides = c.in_ok-left.ensures;
      lengths = lengths;
      right_lengths = c.in_ok-lengths.ensures;
      listed = c.in_ok-file_arrays.ensures
          ∙ ap (λ (x : List ℕ). file_arrays capitals packed x c.deref-2.result.now) c.deref.ensures.value
          ∙ ap (λ (y : List ℕ). file_arrays capitals packed left y) c.deref-2.ensures.value;
      bytes = refl;
    }
