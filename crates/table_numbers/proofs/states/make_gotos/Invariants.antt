use Rattle.std.proofs.Common.{take}
use Rattle.lalrpop_base.specs.Words.{name_cmp}
use Rattle.table_numbers.specs.Lists.{named}
use Rattle.table_numbers.specs.Made.{HasTargets}
use Rattle.table_numbers.proofs.states.make_gotos.Given as goal

abbrev pub invariant-loop-number : goal.invariant-loop-number
invariant-loop-number l = HasTargets name_cmp l.gotos (named l.nonterminals (take l.number-index l.pairs))
