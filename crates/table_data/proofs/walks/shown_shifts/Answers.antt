use Rattle.std.proofs.Common.{[]}
use Rattle.lalrpop_base.specs.Words.{Bits, Dotted}
use Rattle.table_data.specs.Conflicts.{place_if, shifts}
use Rattle.table_data.proofs.Loops.{one_more}
use Rattle.table_data.proofs.walks.shown_shifts.Goals as goal

pub loop-item-preserved : goal.loop-item-preserved
loop-item-preserved c =
    one_more (λ (item : Dotted Bits). place_if (shifts c.args.terminal.now item) item) c.items_in-items.result.now c.loop-item.item-index c.item-item.result [] _ _ c.loop-item-test.true c.item-item.is c.loop-item.invariant c.in_ok-add_shift.ensures
