use Rattle.std.proofs.Common.{map, take}
use Rattle.lalrpop_base.specs.Words.{Bits, bare}
use Rattle.lalrpop_tables.specs.Words.{dots_in}
use Rattle.lalrpop_tables.proofs.Types.{State}
use Rattle.lalrpop_tables.proofs.theory.collapse.MergedNumbers.{AreListed}
use Rattle.lalrpop_tables.proofs.build_lalr.numbers.merged_numbers.Given as goal

abbrev pub invariant-loop-state : goal.invariant-loop-state
invariant-loop-state l = AreListed (map (λ (s : State Bits). map bare (dots_in s)) (take l.state-index l.states)) l.numbers.items l.known.list
