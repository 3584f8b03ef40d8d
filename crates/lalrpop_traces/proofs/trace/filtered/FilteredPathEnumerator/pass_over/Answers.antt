use Rattle.std.proofs.Common.{◌∙◌}
use Rattle.lalrpop_traces.proofs.theory.traces.Walks.{falls_bound}
use Rattle.lalrpop_traces.proofs.trace.filtered.FilteredPathEnumerator.pass_over.Goals as goal

pub returns-clause-falls : goal.returns-clause-falls
returns-clause-falls c =
    falls_bound c.args.self.now.base c.advance_meeting.new.self.base _ c.requires.standing c.requires.ready (c.advance_meeting.ensures.refused ∙ c.requires.ready) c.in_ok-advance_meeting.ensures.ended c.in_ok-advance_meeting.ensures.falls
