use Rattle.lalrpop_check.specs.check.ByNumber.{AreListedAtPlaces}
use Rattle.lalrpop_check.proofs.check.numbered_states.listed.list_states.Given as goal

abbrev pub invariant-loop-count : goal.invariant-loop-count
invariant-loop-count l = AreListedAtPlaces l.lr.construction.rules l.lr.construction.start l.numbers l.states l.list.items
