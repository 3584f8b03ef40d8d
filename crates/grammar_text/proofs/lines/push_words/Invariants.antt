use Rattle.std.proofs.Common.{◌≡◌, ◌++◌, map, drop, not}
use Rattle.std.specs.Prelude.{filter}
use Rattle.grammar_text.specs.Lines.{is_empty}
use Rattle.grammar_text.proofs.lines.push_words.Given as goal

-- the words so far, and those of the pieces that are left
abbrev pub invariant-loop-word : goal.invariant-loop-word
invariant-loop-word l =
    map (λ w. w.now) l.words.items ++ filter (λ w. not (is_empty w)) (map (λ w. w.now) (drop l.word-index l.word-items))
    ≡ map (λ w. w.now) l.initial.words.items ++ filter (λ w. not (is_empty w)) (map (λ w. w.now) l.word-items)
