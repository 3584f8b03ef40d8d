use Rattle.std.proofs.Common.{◌+◌, ◌-◌, length}
use Rattle.lalrpop_grammar.specs.Words.{productions}
use Rattle.lalrpop_useful.proofs.theory.useful.Productive.{IsGrowing}
use Rattle.lalrpop_useful.proofs.productive.productive.Given as goal

abbrev pub invariant-loop-name : goal.invariant-loop-name
invariant-loop-name l = IsGrowing (productions l.grammar) l.walk

abbrev pub decreases-loop-name : goal.decreases-loop-name
decreases-loop-name l = length (productions l.grammar) + length l.walk.waiting.items - length l.walk.visited.keys
