use Rattle.std.proofs.Common.{take}
use Rattle.lalrpop_grammar.specs.contracts.repr.TerminalStringOrd.TheImpl as terminal_ord
use Rattle.table_numbers.specs.Lists.{named}
use Rattle.table_numbers.specs.Made.{HasTargets}
use Rattle.table_numbers.proofs.states.make_shifts.Given as goal

abbrev pub invariant-loop-number : goal.invariant-loop-number
invariant-loop-number l = HasTargets terminal_ord.ghosts.cmp l.shifts (named l.terminals (take l.number-index l.pairs))
