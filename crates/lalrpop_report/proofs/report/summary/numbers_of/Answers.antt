use Rattle.std.proofs.Common.{ap, ◌∙◌, map, take}
use Rattle.std.proofs.lemmas.List.{take_all}
use Rattle.std.specs.List.{list_any}
use Rattle.std.specs.Ordering.{nat_cmp, eq_by_cmp}
use Rattle.lalrpop_report.specs.Words.{state_number, ascending}
use Rattle.lalrpop_report.proofs.theory.reports.ReportNumbers.{one_number_more, keys_ascend}
use Rattle.lalrpop_collections.proofs.theory.lists.Growth.{mapped_more}
use Rattle.lalrpop_report.proofs.report.summary.numbers_of.Goals as goal

pub loop-conflict-init : goal.loop-conflict-init
loop-conflict-init g c = record { same = λ q. ap (list_any (eq_by_cmp nat_cmp q)) c.new-numbers.ensures.empty; ordered = c.new-numbers.ensures.ordered }

pub loop-conflict-preserved : goal.loop-conflict-preserved
loop-conflict-preserved g c =
    let i = c.loop-conflict.conflict-index in
    let x = c.conflict-item.result in
    let numbers = map (state_number {L = g.row.L.Denot}) (take i c.args.conflicts.now) in
    rw (mapped_more (state_number {L = g.row.L.Denot}) c.args.conflicts.now i x c.loop-conflict-test.true c.conflict-item.is)
    (one_number_more c.loop-conflict.numbers c.insert.new.self numbers x.state.0 c.loop-conflict.invariant c.in_ok-insert.ensures.updates c.insert.ensures.ordered)

pub returns : goal.returns
returns g c =
    keys_ascend c.loop-conflict.numbers _ c.loop-conflict.invariant
    ∙ ap (λ conflicts. ascending (map (state_number {L = g.row.L.Denot}) conflicts)) (take_all c.loop-conflict.conflict-index c.args.conflicts.now c.loop-conflict-test.false)
