use Rattle.std.proofs.Common.{◌≡◌, ◌++◌, map, drop}
use Rattle.std.specs.Option.{option_map}
use Rattle.grammar_text.specs.Symbols.{symbols_of}
use Rattle.grammar_text.proofs.symbols.symbols_of.Given as goal

-- the symbols so far, and those of the words that are left
abbrev pub invariant-loop-word : goal.invariant-loop-word
invariant-loop-word l =
    option_map (λ xs. l.symbols ++ xs) (symbols_of (map (λ w. w.now) (drop l.word-index l.words))) ≡ symbols_of (map (λ w. w.now) l.words)
