use Rattle.std.proofs.Common.{take}
use Rattle.lalrpop_collections.specs.lists.Entries.{GathersMore}
use Rattle.lalrpop_construction.specs.Words.{with_tokens}
use Rattle.lalrpop_base.specs.Words.{readings}
use Rattle.lalrpop_construction.proofs.construction.closure.gather_expansions.Given as goal

abbrev pub invariant-loop-number : goal.invariant-loop-number
invariant-loop-number g l = GathersMore (with_tokens (g.L.Lookahead.meaning l.tokens) (take l.number-index l.others)) (readings g.L.Lookahead.meaning l.fn.table) (readings g.L.Lookahead.meaning l.table)
