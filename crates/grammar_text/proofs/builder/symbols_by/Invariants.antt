use Rattle.std.proofs.Common.{◌≡◌, ◌+◌, map, take, drop}
use Rattle.std.specs.List.{position_or_len}
use Rattle.grammar_text.specs.Builder.{is_no_name, symbol_by}
use Rattle.grammar_text.proofs.builder.symbols_by.Given as goal

-- the symbols so far; none so far is a nonterminal whose text is no name
abbrev pub invariant-loop-place : goal.invariant-loop-place
invariant-loop-place l =
    (l.symbols ≡ map symbol_by (take l.place l.texts))
    × (position_or_len is_no_name l.texts ≡ l.place + position_or_len is_no_name (drop l.place l.texts))
