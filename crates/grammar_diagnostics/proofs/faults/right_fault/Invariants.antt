use Rattle.std.proofs.Common.{◌≡◌, map, drop}
use Rattle.grammar_diagnostics.specs.Pieces.{piece_view}
use Rattle.grammar_diagnostics.specs.Faults.{right_fault}
use Rattle.grammar_diagnostics.proofs.faults.right_fault.Given as goal

-- the words so far are symbols
abbrev pub invariant-loop-word : goal.invariant-loop-word
invariant-loop-word l = right_fault (map piece_view (drop l.word-index l.words)) ≡ right_fault (map piece_view l.words)
