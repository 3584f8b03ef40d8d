use Rattle.std.proofs.Common.{◌≡◌, List, ℕ, ◌++◌, length}
use Rattle.std.specs.Fmt.{HasWritten, IsPlainFormatter}
use Rattle.lalrpop_ambiguity.specs.Words.{marked_text, steps_of, text_left, tree_of}
use Rattle.lalrpop_ambiguity.proofs.derivation.marked.show_marked.Given as goal

-- the text so far, and that of the steps that are left, is the text of the marked tree
abbrev pub invariant-steps : goal.invariant-steps
invariant-steps g l =
    IsPlainFormatter l.initial.f → (done : List ℕ) × HasWritten g.W.Write.write_str_gives l.initial.f done l.f
    × (done ++ text_left l.left l.is_first (steps_of l.walk) ≡ marked_text l.moves (tree_of l.tree))

abbrev pub decreases-steps : goal.decreases-steps
decreases-steps g l = length (steps_of l.walk)
