use Rattle.lalrpop_tables.specs.Words.{IsMerging}
use Rattle.table_questions.proofs.ask.merges.start_all.Given as goal

abbrev pub invariant-loop-state : goal.invariant-loop-state
invariant-loop-state l = IsMerging l.merge
