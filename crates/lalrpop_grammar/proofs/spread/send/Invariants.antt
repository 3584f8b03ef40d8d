use Rattle.lalrpop_collections.specs.lists.Spreading.{IsSent}
use Rattle.lalrpop_grammar.proofs.spread.send.Given as goal

abbrev pub invariant-loop-to : goal.invariant-loop-to
invariant-loop-to l = IsSent l.from l.ends l.to-index l.fn.sets.items l.sets.items l.fn.waiting l.waiting
