use Rattle.std.proofs.Common.{◌≡◌, ℕ, ◌<◌, Contains}
use Rattle.std.specs.Prelude.{slice_get, Some}
use Rattle.lalrpop_grammar.specs.declared.repr.TerminalString.{TerminalString}
use Rattle.lalrpop_grammar.specs.declared.repr.Symbol.TheVariants.{Terminal}
use Rattle.table_questions.proofs.ask.arguments.have_known_terminals.Given as goal

abbrev pub invariant-loop-symbol : goal.invariant-loop-symbol
invariant-loop-symbol l = (k : ℕ) (t : TerminalString) → k < l.symbol-index → slice_get l.symbols k ≡ Some (Terminal t) → Contains l.terminals t
