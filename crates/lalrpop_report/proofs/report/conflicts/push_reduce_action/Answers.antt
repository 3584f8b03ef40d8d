use Rattle.std.proofs.Common.{append_assoc}
use Rattle.lalrpop_report.proofs.report.conflicts.push_reduce_action.Goals as goal

pub returns : goal.returns
returns c = simp (c.in_ok-push_production-2.ensures, c.in_ok-push_str-2.ensures.bytes, c.in_ok-push_production.ensures, c.in_ok-push_str.ensures.bytes, append_assoc)
