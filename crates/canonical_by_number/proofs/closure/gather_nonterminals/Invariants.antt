use Rattle.std.proofs.Common.{take}
use Rattle.lalrpop_base.specs.Words.{readings}
use Rattle.lalrpop_construction.specs.Words.{unfolded}
use Rattle.canonical_by_number.specs.TokenSets.{set_at}
use Rattle.canonical_by_number.specs.Closures.{GathersNumbers}
use Rattle.canonical_by_number.proofs.closure.gather_nonterminals.Given as goal

abbrev pub invariant-loop-entry : goal.invariant-loop-entry
invariant-loop-entry l = GathersNumbers (unfolded l.numbers (readings (set_at l.fn.sets) (take l.entry-index l.shared))) l.fn.sets l.sets l.fn.table l.table
