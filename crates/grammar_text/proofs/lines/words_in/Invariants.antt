use Rattle.std.proofs.Common.{◌≡◌, ◌==◌, ◌++◌, map, drop, not}
use Rattle.std.specs.Prelude.{filter}
use Rattle.std.specs.List.{slice_split, flat_map}
use Rattle.grammar_text.specs.Lines.{is_empty}
use Rattle.grammar_text.proofs.lines.words_in.Given as goal

-- the words so far, and those of the parts that are left
abbrev pub invariant-loop-part : goal.invariant-loop-part
invariant-loop-part l =
    map (λ w. w.now) l.words.items ++ filter (λ w. not (is_empty w)) (flat_map (λ piece. slice_split (λ b. b == 9) piece) (map (λ w. w.now) (drop l.part-index l.part-items)))
    ≡ filter (λ w. not (is_empty w)) (flat_map (λ piece. slice_split (λ b. b == 9) piece) (map (λ w. w.now) l.part-items))
