use Rattle.std.proofs.Common.{refl}
use Rattle.lalrpop_traces.proofs.theory.traces.CanMeet.{none_over}
use Rattle.lalrpop_traces.proofs.trace.filtered.FilteredPathEnumerator.may_meet_over.Goals as goal

pub returns : goal.returns
returns c = record {
  none = λ h. none_over c.args.self.now c.args.number (c.if-not-found_trace.ensures.standing refl) c.in_ok-fits.ensures.set.0 c.in_ok-fits.ensures.set.1 (c.in_ok-fits.ensures.no c.if-branch.false) (c.in_ok-may.ensures.none h);
}
