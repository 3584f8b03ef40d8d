use Rattle.std.proofs.Common.{take}
use Rattle.lalrpop_grammar.specs.Words.{productions}
use Rattle.lalrpop_useful.specs.Words.{AddsUndefined}
use Rattle.lalrpop_useful.proofs.undefined.add_uses.Given as goal

abbrev pub invariant-loop-symbol : goal.invariant-loop-symbol
invariant-loop-symbol l = AddsUndefined (productions l.grammar) l.production (take l.symbol-index l.symbols) l.fn.uses.items l.uses.items
