use Rattle.std.proofs.Common.{◌≡◌, take}
use Rattle.parse_pictures.proofs.expected.copies.Given as goal

abbrev pub invariant-loop-terminal : goal.invariant-loop-terminal
invariant-loop-terminal l = l.list.items ≡ take l.terminal-index l.terminals
