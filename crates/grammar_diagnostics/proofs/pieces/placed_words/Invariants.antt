use Rattle.std.proofs.Common.{◌≡◌, ◌++◌, map, drop}
use Rattle.std.specs.Prelude.{filter}
use Rattle.std.specs.List.{flat_map}
use Rattle.grammar_diagnostics.specs.Pieces.{between_tabs, is_word, piece_view}
use Rattle.grammar_diagnostics.proofs.pieces.placed_words.Given as goal

-- the words so far, and those of the parts that are left
abbrev pub invariant-loop-part : goal.invariant-loop-part
invariant-loop-part l =
    map piece_view l.words.items ++ filter is_word (flat_map between_tabs (map piece_view (drop l.part-index l.part-items)))
    ≡ filter is_word (flat_map between_tabs (map piece_view l.part-items))
