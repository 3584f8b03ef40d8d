use Rattle.std.proofs.Common.{◌≡◌, ◌++◌, map, drop, string_bytes}
use Rattle.lalrpop_grammar.specs.declared.repr.TerminalString.TheVariants.{Literal}
use Rattle.program_answers.proofs.words.tokens_of.Given as goal

-- the literals so far, and those of the arguments that are left
abbrev pub invariant-loop-word : goal.invariant-loop-word
invariant-loop-word l = l.tokens.items ++ map Literal (map string_bytes (drop l.word-index l.words)) ≡ map Literal (map string_bytes l.words)
