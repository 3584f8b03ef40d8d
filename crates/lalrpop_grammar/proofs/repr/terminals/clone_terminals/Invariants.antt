use Rattle.std.proofs.Common.{◌≡◌, take}
use Rattle.lalrpop_grammar.proofs.repr.terminals.clone_terminals.Given as goal

abbrev pub invariant-loop-terminal : goal.invariant-loop-terminal
invariant-loop-terminal l = l.copy.items ≡ take l.terminal-index l.terminals
