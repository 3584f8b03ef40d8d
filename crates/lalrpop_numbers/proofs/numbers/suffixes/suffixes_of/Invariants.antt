use Rattle.std.proofs.Common.{take}
use Rattle.lalrpop_numbers.specs.Words.{AreSuffixes}
use Rattle.lalrpop_numbers.proofs.numbers.suffixes.suffixes_of.Given as goal

abbrev pub invariant-loop-item : goal.invariant-loop-item
invariant-loop-item l = AreSuffixes l.first_sets (take l.item-index l.items) l.suffixes.items
