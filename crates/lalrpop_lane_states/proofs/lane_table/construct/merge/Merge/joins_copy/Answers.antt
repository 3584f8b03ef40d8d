use Rattle.std.proofs.Common.{◌≡◌, ◌∙◌, ap, arith, Some}
use Rattle.std.specs.Prelude.{slice_get}
use Rattle.std.proofs.lemmas.Result.{IfOk-weaker}
use Rattle.lalrpop_state_graph.specs.Words.{index}
use Rattle.lalrpop_lane_states.proofs.theory.merges.Merges.{copy_walked, successor_row, united_copy}
use Rattle.lalrpop_collections.proofs.theory.lists.Places.{slice_get_at}
use Rattle.lalrpop_lane_states.proofs.theory.merges.CopySearch.{united_apart}
use Rattle.lalrpop_lane_states.proofs.lane_table.construct.merge.Merge.joins_copy.Goals as goal

pub union-requires-clause-target : goal.union-requires-clause-target
union-requires-clause-target c =
    let old = c.args.self.now in
    let here : slice_get old.originals.items c.args.index ≡ Some c.index.result.now = slice_get_at old.originals.items c.args.index c.index.result.now c.requires.there c.index.ensures in
    let same : c.index.result.now ≡ c.args.successor.0 = omega arith in
    copy_walked old c.args.successor (index c.args.index) (successor_row old c.requires.ready c.args.state c.args.successor c.requires.walked c.requires.leads) (here ∙ ap Some same)

pub returns-clause-joined : goal.returns-clause-joined
returns-clause-joined c =
    let old = c.args.self.now in
    let here : slice_get old.originals.items c.args.index ≡ Some c.index.result.now = slice_get_at old.originals.items c.args.index c.index.result.now c.requires.there c.index.ensures in
    let same : c.index.result.now ≡ c.args.successor.0 = omega arith in
    IfOk-weaker c.union.result _ _ (λ b h. united_copy b c.args.state c.args.successor (index c.args.index) old c.union.new.self (c.union.ensures.advances.originals c.args.index c.args.successor.0 (here ∙ ap Some same)) h) c.union.ensures.united

pub returns-clause-apart : goal.returns-clause-apart
returns-clause-apart c = IfOk-weaker c.union.result _ _ (λ b h. united_apart b c.args.state c.args.successor c.args.index c.args.self.now c.union.new.self h) c.union.ensures.united
