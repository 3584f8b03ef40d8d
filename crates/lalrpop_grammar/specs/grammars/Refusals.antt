-- The errors that constructors return.
use Rattle.std.specs.Prelude.{ℕ, List}
use Rattle.lalrpop_grammar.specs.declared.repr.TerminalString.{TerminalString}
use Rattle.lalrpop_grammar.specs.declared.repr.terminals.TerminalSetError.{TerminalSetError}
use Rattle.lalrpop_grammar.specs.declared.repr.terminals.TerminalSetError.TheVariants.{Repeated, Memory}
use Rattle.lalrpop_collections.specs.lists.Places.{IsFirstRepeat}

-- the error has the first terminal that is also at an earlier place, or says that an allocation
-- failed
abbrev pub IsFirstRepeatedTerminal : List TerminalString → TerminalSetError → Type 0
IsFirstRepeatedTerminal terminals (Repeated t) = (place : ℕ) × IsFirstRepeat terminals place t
IsFirstRepeatedTerminal terminals Memory = Unit {0}
