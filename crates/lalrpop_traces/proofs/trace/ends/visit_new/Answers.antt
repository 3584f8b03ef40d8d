use Rattle.std.proofs.Common.{reverse, sym}
use Rattle.lalrpop_traces.specs.Words.{path_of}
use Rattle.lalrpop_traces.proofs.theory.traces.Ends.{New-not, New-one}
use Rattle.lalrpop_traces.proofs.theory.traces.TraceGraphs.{on_ok}
use Rattle.lalrpop_traces.proofs.trace.ends.visit_new.Goals as goal

pub returns-then-has_passed : goal.returns-then-has_passed
returns-then-has_passed c = New-not c.args.graph.now (path_of (reverse c.args.path.now)) c.args.edge c.args.walk.now (sym c.if-has_passed.ensures)

pub returns : goal.returns
returns c = on_ok c.visit.result c.visit.ensures (λ v. New-one c.args.graph.now (path_of (reverse c.args.path.now)) c.args.edge c.args.walk.now c.visit.new.self (sym c.if-has_passed.ensures) v)
