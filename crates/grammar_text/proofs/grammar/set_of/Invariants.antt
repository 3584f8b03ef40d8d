use Rattle.std.proofs.Common.{◌≡◌, ◌++◌}
use Rattle.grammar_text.proofs.grammar.set_of.Given as goal

-- the terminals so far, and those that are left
abbrev pub invariant-loop-terminal : goal.invariant-loop-terminal
invariant-loop-terminal l = l.all.items ++ l.terminal-iterator ≡ l.fn.terminals.keys
