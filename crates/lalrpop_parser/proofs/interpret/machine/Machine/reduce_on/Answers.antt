use Rattle.std.proofs.Common.{◌-◌}
use Rattle.lalrpop_parser.proofs.theory.runs.MachineRuns.{top_within, can_pop}
use Rattle.lalrpop_parser.proofs.interpret.machine.Machine.reduce_on.Goals as goal

pub top-requires : goal.top-requires
top-requires g c = top_within (g.L.LookaheadInterpret.holds c.args.terminals.now) c.args.states.now c.requires.coherent c.requires.some c.args.self.now c.requires.stacked

pub reduce-requires : goal.reduce-requires
reduce-requires g c =
    can_pop (g.L.LookaheadInterpret.holds c.args.terminals.now) c.args.states.now c.requires.coherent c.requires.some (record c.args.self.now { left = c.args.self.now.left - 1 }) c.top.result.now c.args.token.now c.in-Some.production.now c.requires.stacked c.top.ensures c.in-Some.ensures
