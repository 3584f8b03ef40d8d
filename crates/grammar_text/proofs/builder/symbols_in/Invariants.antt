use Rattle.std.proofs.Common.{◌≡◌, ◌+◌, ◌++◌, map, drop}
use Rattle.std.specs.Option.{option_map}
use Rattle.std.specs.List.{position_or_len}
use Rattle.grammar_text.specs.Symbols.{symbols_of}
use Rattle.grammar_text.specs.Builder.{is_no_symbol}
use Rattle.grammar_text.proofs.builder.symbols_in.Given as goal

-- the symbols so far and those of the words that are left are the symbols of all; each word so far
-- has a symbol
abbrev pub invariant-loop-place : goal.invariant-loop-place
invariant-loop-place l =
    (option_map (λ xs. l.symbols ++ xs) (symbols_of (map (λ w. w.now) (drop l.place l.words))) ≡ symbols_of (map (λ w. w.now) l.words))
    × (position_or_len is_no_symbol (map (λ w. w.now) l.words) ≡ l.place + position_or_len is_no_symbol (map (λ w. w.now) (drop l.place l.words)))
