use Rattle.std.proofs.Common.{◌≡◌, map, take}
use Rattle.lalrpop_inline.specs.Words.{inlined}
use Rattle.lalrpop_inline.proofs.inline.choices.all_inlined.Given as goal

abbrev pub invariant-loop-alternative : goal.invariant-loop-alternative
invariant-loop-alternative l = l.made.items ≡ map inlined (take l.alternative-index l.alternatives)
