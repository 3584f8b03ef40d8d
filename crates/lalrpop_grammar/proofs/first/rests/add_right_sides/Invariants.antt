use Rattle.std.proofs.Common.{◌≡◌, ◌++◌, map, take}
use Rattle.lalrpop_grammar.specs.Words.{right_side}
use Rattle.lalrpop_grammar.proofs.first.rests.add_right_sides.Given as goal

abbrev pub invariant-loop-production : goal.invariant-loop-production
invariant-loop-production l = l.rests.items ≡ l.fn.rests.items ++ map (right_side l.names) (take l.production-index l.productions)
