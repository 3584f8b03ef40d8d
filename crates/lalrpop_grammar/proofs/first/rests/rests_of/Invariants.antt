use Rattle.lalrpop_grammar.specs.Words.{productions}
use Rattle.lalrpop_grammar.proofs.theory.first.FirstRests.{Passing, left_to_pass}
use Rattle.lalrpop_grammar.proofs.first.rests.rests_of.Given as goal

abbrev pub invariant-loop-next : goal.invariant-loop-next
invariant-loop-next l = Passing (productions l.grammar) l.names l.next l.rests.items l.pending.items

abbrev pub decreases-loop-next : goal.decreases-loop-next
decreases-loop-next l = left_to_pass l.next l.rests.items l.pending.items
