use Rattle.std.proofs.Common.{take}
use Rattle.lalrpop_collections.specs.lists.Entries.{GathersMore}
use Rattle.lalrpop_construction.specs.Words.{parts_in}
use Rattle.lalrpop_base.specs.Words.{readings}
use Rattle.lalrpop_construction.proofs.construction.closure.gather_kernel.Given as goal

abbrev pub invariant-loop-item : goal.invariant-loop-item
invariant-loop-item g l = GathersMore (parts_in g.L.Lookahead.meaning (take l.item-index l.kernel)) (readings g.L.Lookahead.meaning l.fn.table) (readings g.L.Lookahead.meaning l.table)
