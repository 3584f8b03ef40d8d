use Rattle.lalrpop_useful.proofs.theory.useful.Repeats.{IsSearching}
use Rattle.lalrpop_useful.proofs.repeats.equal_right_sides.Given as goal

abbrev pub invariant-loop-name : goal.invariant-loop-name
invariant-loop-name l = IsSearching l.grammar.nonterminals.entries l._name-iterator l.repeats.items
