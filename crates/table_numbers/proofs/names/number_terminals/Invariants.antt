use Rattle.std.proofs.Common.{◌≡◌, ◌++◌, drop}
use Rattle.table_numbers.proofs.names.number_terminals.Given as goal

abbrev pub invariant-loop-terminal : goal.invariant-loop-terminal
invariant-loop-terminal l = l.numbering ++ drop l.terminal-index l.terminal-items ≡ l.terminals
