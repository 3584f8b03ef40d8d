use Rattle.std.proofs.Common.{refl}
use Rattle.lalrpop_states.proofs.theory.conflicts.ConflictLemmas.{later_none, later_one}
use Rattle.lalrpop_states.proofs.lr1_core.conflict.add_conflict_of.Goals as goal

pub returns-then-is_disjoint : goal.returns-then-is_disjoint
returns-then-is_disjoint c = later_none c.args.state c.args.first.now c.args.second.now c.args.list.now.items (c.if-is_disjoint.ensures.yes refl)

pub returns : goal.returns
returns c =
    later_one c.args.state c.args.first.now c.args.second.now c.args.list.now.items c.push.new.self.items c.in_ok-intersection.field-0 (c.if-is_disjoint.ensures.no refl)
    c.in_ok-intersection.ensures c.in_ok-push.ensures.items
