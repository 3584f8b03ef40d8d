use Rattle.std.proofs.Common.{◌≡◌, map, drop}
use Rattle.grammar_diagnostics.specs.Pieces.{piece_view}
use Rattle.grammar_diagnostics.specs.WarningPlaces.{word_of}
use Rattle.grammar_diagnostics.proofs.warning_places.word_of.Given as goal

-- the word is one of those that are left
abbrev pub invariant-loop-word : goal.invariant-loop-word
invariant-loop-word l = word_of l.name (map piece_view (drop l.word-index l.words)) ≡ word_of l.name (map piece_view l.words)
