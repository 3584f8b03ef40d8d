use Rattle.std.specs.Prelude.{◌≡◌, length}
use Rattle.table_questions.proofs.ask.context_sets.fill.Given as goal

abbrev pub invariant-loop-number : goal.invariant-loop-number
invariant-loop-number l = l.count ≡ length l.set
