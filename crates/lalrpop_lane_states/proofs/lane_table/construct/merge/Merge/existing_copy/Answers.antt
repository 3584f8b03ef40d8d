use Rattle.lalrpop_lane_states.proofs.theory.merges.Merges.{walked_on}
use Rattle.std.proofs.Common.{◌∙◌, refl, arith}
use Rattle.lalrpop_lane_states.proofs.theory.merges.CopySearch.{apart_all, apart_more}
use Rattle.lalrpop_lane_states.proofs.theory.merges.Merges.{advances_none, advances_on}
use Rattle.lalrpop_lane_states.proofs.lane_table.construct.merge.Merge.existing_copy.Goals as goal

pub joins_copy-requires-clause-walked : goal.joins_copy-requires-clause-walked
joins_copy-requires-clause-walked c = walked_on c.args.self.now c.loop-index.self c.loop-index.invariant.advances c.args.state c.requires.walked

pub loop-index-init : goal.loop-index-init
loop-index-init c = record { advances = advances_none c.args.self.now c.requires.ready; same = refl; still = refl; apart = λ n from below. absurd (omega (arith, from, below)) }

pub loop-index-preserved : goal.loop-index-preserved
loop-index-preserved c =
    let old = c.args.self.now in
    let now = c.loop-index.self in
    let before = c.loop-index.invariant in
    let none = c.in_ok-joins_copy.ensures.apart c.if-branch.false in
    record {
      advances = advances_on old now c.joins_copy.new.self before.advances c.joins_copy.ensures.advances;
      same = rw (none.1 ∙ before.still) refl;
      still = none.1 ∙ before.still;
      apart = apart_more old now c.joins_copy.new.self c.args.state c.args.successor c.loop-index.index before.still before.apart none.0;
    }

pub returns-clause-apart : goal.returns-clause-apart
returns-clause-apart c =
    let old = c.args.self.now in
    let k = old.originals.ok.0 in
    let n = c.len-count.ensures in
    let l = c.loop-index-test.false in
    (apart_all old c.args.state c.args.successor c.loop-index.index c.requires.ready (omega arith) c.loop-index.invariant.apart, c.loop-index.invariant.still)
