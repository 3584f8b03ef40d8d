use Rattle.std.proofs.Common.{◌∙◌, []}
use Rattle.lalrpop_lane_states.specs.Words.{Advances, HaveWalked}
use Rattle.lalrpop_collections.proofs.theory.lists.EachLemmas.{far_end, far_in, far_more}
use Rattle.lalrpop_lane_states.proofs.theory.merges.Merges.{advances_none, advances_on, row_on}
use Rattle.lalrpop_lane_states.proofs.theory.merges.MergeWalks.{walked_more, walked_none}
use Rattle.lalrpop_lane_states.proofs.lane_table.construct.merging.walk_all.Goals as goal

pub loop-state-init : goal.loop-state-init
loop-state-init c = (
  tt,
  tt,
  record {
    done = [];
    whole = c.into_iter-state-iterator.ensures.into_iter_gives ∙ c.iter-state-items.ensures.rest;
    holds = (advances_none c.args.merge.now c.requires.ready, walked_none c.args.merge.now);
  },
)

pub start-requires-clause-ready : goal.start-requires-clause-ready
start-requires-clause-ready c = (c.loop-state.invariant.2).holds.0.ready

pub start-requires-clause-row : goal.start-requires-clause-row
start-requires-clause-row c =
    let on = c.loop-state.invariant.2 in
    row_on c.args.merge.now c.loop-state.merge on.holds.0 c.in-Some.state.now
    (c.requires.rows c.in-Some.state.now (far_in (λ done. Advances c.args.merge.now c.loop-state.merge × HaveWalked done c.args.merge.now c.loop-state.merge) _ _ _ c.in-Some.state.now on c.in-Some.ensures.steps))

pub returns-in_err-start-clause-advances : goal.returns-in_err-start-clause-advances
returns-in_err-start-clause-advances c = advances_on c.args.merge.now c.loop-state.merge c.start.new.self (c.loop-state.invariant.2).holds.0 c.start.ensures.advances

pub loop-state-preserved : goal.loop-state-preserved
loop-state-preserved c =
    let old = c.args.merge.now in
    let now = c.loop-state.merge in
    let new = c.start.new.self in (
      tt,
      tt,
      far_more (λ done. Advances old now × HaveWalked done old now) (λ done. Advances old new × HaveWalked done old new) _ _ _ c.in-Some.state.now c.loop-state.invariant.2 c.in-Some.ensures.steps
          (λ done on. (
            advances_on old now new on.0 c.start.ensures.advances,
            walked_more old now new done c.in-Some.state.now on.0 on.1 c.start.ensures.advances c.in_ok-start.ensures.walked,
          )),
    )

pub returns-clause-advances : goal.returns-clause-advances
returns-clause-advances c = (c.loop-state.invariant.2).holds.0

pub returns-clause-walked : goal.returns-clause-walked
returns-clause-walked c =
    let old = c.args.merge.now in
    let now = c.loop-state.merge in
    (far_end (λ done. Advances old now × HaveWalked done old now) _ _ c.in-None.ensures.steps.0 c.loop-state.invariant.2).1
