use Rattle.conflict_causes.proofs.text.examples.push_examples.Goals as goal

pub returns-in-Exhausted : goal.returns-in-Exhausted
returns-in-Exhausted c = rw c.in-Exhausted.is c.push_own_examples.ensures

pub returns-in-Cut : goal.returns-in-Cut
returns-in-Cut c = rw c.in-Cut.is c.push_own_examples-in-Cut.ensures
