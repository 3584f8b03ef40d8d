use Rattle.std.proofs.Common.{◌≡◌, ◌++◌, map, drop}
use Rattle.std.specs.Prelude.{filter}
use Rattle.grammar_diagnostics.specs.Pieces.{is_word, piece_view}
use Rattle.grammar_diagnostics.proofs.pieces.push_words.Given as goal

-- the words so far, and those of the pieces that are left
abbrev pub invariant-loop-word : goal.invariant-loop-word
invariant-loop-word l =
    map piece_view l.words.items ++ filter is_word (map piece_view (drop l.word-index l.word-items))
    ≡ map piece_view l.initial.words.items ++ filter is_word (map piece_view l.word-items)
