use Rattle.std.proofs.Common.{◌≡◌, arith}
use Rattle.std.specs.Prelude.{vec_len}
use Rattle.lalrpop_lane_states.proofs.theory.merges.MergeWalks.{falls_joining, last_join, walk_begins, walk_ends, walk_joins}
use Rattle.lalrpop_lane_states.proofs.theory.merges.Merges.{advances_on, copy_walked, row_on, successor_row}
use Rattle.lalrpop_lane_states.proofs.lane_table.construct.merge.Merge.walk.Goals as goal

pub loop-join-init : goal.loop-join-init
loop-join-init c = record {
  walk = walk_begins c.args.self.now c.come_to.new.self c.args.state c.new-pending.result.items c.come_to.new.pending.items c.new-pending.ensures.items c.come_to.ensures.advances c.come_to.ensures.fewer c.in_ok-come_to.ensures.came;
  there = c.in_ok-come_to.ensures.came.there;
}

pub join_successor-requires-clause-walked : goal.join_successor-requires-clause-walked
join_successor-requires-clause-walked c = (last_join c.args.self.now c.loop-join.self c.in-Some.join c.loop-join.pending.items c.pop.new.self.items c.loop-join.invariant.walk c.in-Some.ensures.items).walked

pub join_successor-requires-clause-leads : goal.join_successor-requires-clause-leads
join_successor-requires-clause-leads c = (last_join c.args.self.now c.loop-join.self c.in-Some.join c.loop-join.pending.items c.pop.new.self.items c.loop-join.invariant.walk c.in-Some.ensures.items).leads

pub returns-in_err-copy-clause-advances : goal.returns-in_err-copy-clause-advances
returns-in_err-copy-clause-advances c = advances_on c.args.self.now c.loop-join.self c.join_successor.new.self c.loop-join.invariant.walk.advances c.join_successor.ensures.advances

pub come_to-requires-in-Some-clause-walked : goal.come_to-requires-in-Some-clause-walked
come_to-requires-in-Some-clause-walked c =
    let now = c.loop-join.self in
    let mid = c.join_successor.new.self in
    let join = c.in-Some.join in
    let is = last_join c.args.self.now now join c.loop-join.pending.items c.pop.new.self.items c.loop-join.invariant.walk c.in-Some.ensures.items in
    let row = successor_row now c.loop-join.invariant.walk.advances.ready join.state join.successor is.walked is.leads in
    copy_walked mid join.successor c.in_ok-copy.copy (row_on now mid c.join_successor.ensures.advances join.successor row) c.in_ok-copy.ensures.joined.original

pub loop-join-smaller : goal.loop-join-smaller
loop-join-smaller c = falls_joining c.loop-join.self c.join_successor.new.self c.come_to-in-Some.new.self c.in-Some.join c.loop-join.pending.items c.pop.new.self.items c.come_to-in-Some.new.pending.items c.in-Some.ensures.items c.join_successor.ensures.advances c.in_ok-copy.ensures.fewer c.in_ok-come_to-2.ensures.falls

pub loop-join-preserved : goal.loop-join-preserved
loop-join-preserved c =
    let old = c.args.self.now in
    let now = c.loop-join.self in
    let mid = c.join_successor.new.self in
    let new = c.come_to-in-Some.new.self in
    let came = c.in_ok-come_to-2.ensures.came in
    record {
      walk = walk_joins old now mid new c.in-Some.join c.in_ok-copy.copy c.loop-join.pending.items c.pop.new.self.items c.come_to-in-Some.new.pending.items c.loop-join.invariant.walk c.in-Some.ensures.items c.join_successor.ensures.advances c.join_successor.ensures.marks c.in_ok-copy.ensures.fewer c.in_ok-copy.ensures.joined c.in_ok-copy.ensures.linked
          c.come_to-in-Some.ensures.advances c.come_to-in-Some.ensures.fewer came;
      there = c.come_to-in-Some.ensures.advances.marks c.args.state.0 (c.join_successor.ensures.advances.marks c.args.state.0 c.loop-join.invariant.there);
    }

pub returns-in_err-come_to-2-clause-advances : goal.returns-in_err-come_to-2-clause-advances
returns-in_err-come_to-2-clause-advances c =
    let all = advances_on c.args.self.now c.loop-join.self c.join_successor.new.self c.loop-join.invariant.walk.advances c.join_successor.ensures.advances in
    advances_on c.args.self.now c.join_successor.new.self c.come_to-in-Some.new.self all c.come_to-in-Some.ensures.advances

pub returns-clause-walked : goal.returns-clause-walked
returns-clause-walked c =
    let counted = c.loop-join.pending.ok.0 in
    let none : vec_len c.loop-join.pending ≡ 0 = c.in_default.ensures.cases.0 in
    walk_ends c.args.self.now c.loop-join.self c.args.state c.loop-join.pending.items c.loop-join.invariant.walk (omega (arith, counted, none)) c.loop-join.invariant.there
