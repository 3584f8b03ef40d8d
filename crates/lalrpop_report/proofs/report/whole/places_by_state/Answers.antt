use Rattle.lalrpop_report.proofs.theory.reports.ReportPlaces.{one_place_more}
use Rattle.lalrpop_report.proofs.report.whole.places_by_state.Goals as goal

pub loop-place-preserved : goal.loop-place-preserved
loop-place-preserved g c =
    one_place_more c.args.conflicts.now c.loop-place.place c.index-conflicts-place.result c.loop-place.places c.push.new.self c.loop-place-test.true c.index-conflicts-place.is c.loop-place.invariant
    c.in_ok-push.ensures.pushed c.in_ok-push.ensures.others
