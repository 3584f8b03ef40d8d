use Rattle.std.proofs.Common.{take}
use Rattle.lalrpop_construction.specs.Words.{with_tokens}
use Rattle.canonical_by_number.specs.TokenSets.{set_at}
use Rattle.canonical_by_number.specs.Closures.{GathersNumbers}
use Rattle.canonical_by_number.proofs.closure.gather_expansions.Given as goal

abbrev pub invariant-loop-number : goal.invariant-loop-number
invariant-loop-number l = GathersNumbers (with_tokens (set_at l.fn.sets l.tokens) (take l.number-index l.expansions)) l.fn.sets l.sets l.fn.table l.table
