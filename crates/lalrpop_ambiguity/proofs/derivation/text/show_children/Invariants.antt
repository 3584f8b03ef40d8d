use Rattle.std.proofs.Common.{◌≡◌, List, ℕ, true, ◌++◌, length}
use Rattle.std.specs.Fmt.{HasWritten, IsPlainFormatter}
use Rattle.lalrpop_ambiguity.specs.Words.{forest_of, steps_of, steps_text, trees_text}
use Rattle.lalrpop_ambiguity.proofs.derivation.text.show_children.Given as goal

-- the text so far, and that of the steps that are left, is the text of all
abbrev pub invariant-steps : goal.invariant-steps
invariant-steps g l =
    IsPlainFormatter l.initial.f → (done : List ℕ) × HasWritten g.W.Write.write_str_gives l.initial.f done l.f
    × (done ++ steps_text l.is_first (steps_of l.walk) ≡ trees_text true (forest_of l.children.items))

abbrev pub decreases-steps : goal.decreases-steps
decreases-steps g l = length (steps_of l.walk)
