use Rattle.std.proofs.Common.{suc, ◌-◌, length}
use Rattle.lalrpop_grammar.proofs.theory.grammars.NewStart.{IsTried, names_size}
use Rattle.lalrpop_grammar.proofs.repr.augmentation.new_name.Given as goal

abbrev pub invariant-loop-alloc : goal.invariant-loop-alloc
invariant-loop-alloc l = IsTried l.grammar l.start l.name

abbrev pub decreases-loop-alloc : goal.decreases-loop-alloc
decreases-loop-alloc l = suc (names_size l.grammar) - length l.name.text
