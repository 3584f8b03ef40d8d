use Rattle.std.proofs.Common.{arith}
use Rattle.lalrpop_lane_states.proofs.theory.merges.StateSets.{set_made}
use Rattle.lalrpop_lane_states.proofs.lane_table.construct.merge.context_sets.ContextSets.new_state.Goals as goal

pub returns-clause-made : goal.returns-clause-made
returns-clause-made c =
    let k = c.args.self.now.contexts.ok.0 in
    let l = c.len.ensures in
    let m = c.new-set.ensures in
    set_made c.args.state c.args.context_set c.args.self.now (record { state_sets = c.insert.new.self; contexts = c.push.new.self }) c.new-set.result (omega arith) c.in_ok-push.ensures.items c.in_ok-insert.ensures.updates
