use Rattle.table_data.specs.Json.{after_separator}
use Rattle.table_data.proofs.Loops.{one_more}
use Rattle.table_data.proofs.lists.push_others.Goals as goal

pub loop-value-preserved : goal.loop-value-preserved
loop-value-preserved g c =
    one_more (after_separator c.args.separator.now (g.T.ToJson.json c.args.naming.now)) c.args.values.now c.loop-value.value-index c.value-item.result _ _ _ c.loop-value-test.true c.value-item.is c.loop-value.invariant c.in_ok-push_other.ensures
