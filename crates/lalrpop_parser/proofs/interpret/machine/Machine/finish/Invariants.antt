use Rattle.std.proofs.Common.{[]}
use Rattle.lalrpop_base.specs.Words.{contents_in}
use Rattle.lalrpop_parser.specs.Words.{configuration, IsStacked}
use Rattle.lalrpop_parser.proofs.theory.runs.MachineRuns.{HasReached}
use Rattle.lalrpop_parser.proofs.interpret.machine.Machine.finish.Given as goal

abbrev pub invariant-reducing : goal.invariant-reducing
invariant-reducing g l = record {
  stacked : IsStacked (contents_in (g.L.LookaheadInterpret.holds l.terminals) l.states) l.self;
  reached : HasReached (contents_in (g.L.LookaheadInterpret.holds l.terminals) l.states) (configuration l.fn.self []) l.fn.self.left l.self;
}

abbrev pub decreases-reducing : goal.decreases-reducing
decreases-reducing g l = l.self.left
