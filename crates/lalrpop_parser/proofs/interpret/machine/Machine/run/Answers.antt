use Rattle.std.proofs.Common.{[], refl}
use Rattle.lalrpop_base.specs.Words.{contents_in, HasOutcome}
use Rattle.lalrpop_parser.proofs.theory.runs.Interpreted.{start_stacked, read_stacked, read_from_start, stop_answer, last_answer}
use Rattle.lalrpop_parser.proofs.theory.runs.MachineRuns.{raised_answer}
use Rattle.lalrpop_parser.proofs.interpret.machine.Machine.run.Goals as goal

pub shift_all-requires-clause-stacked : goal.shift_all-requires-clause-stacked
shift_all-requires-clause-stacked g c = start_stacked (contents_in (g.L.LookaheadInterpret.holds c.args.terminals.now) c.args.states.now) c.args.self c.requires.start

pub returns-in_err-shift_all : goal.returns-in_err-shift_all
returns-in_err-shift_all g c =
    raised_answer (HasOutcome (contents_in (g.L.LookaheadInterpret.holds c.args.terminals.now) c.args.states.now) c.args.tokens.items c.args.self.left) c.args.states.now c.in_err-shift_all.field-0.0
    (stop_answer (g.L.LookaheadInterpret.holds c.args.terminals.now) c.args.states.now c.requires.coherent c.args.self c.args.tokens.items c.args.self.left c.requires.start refl c.in_err-shift_all.field-0.0 c.in_err-shift_all.ensures.stopped)
    c.from_residual.result c.from_residual.ensures.1

pub finish-requires-clause-stacked : goal.finish-requires-clause-stacked
finish-requires-clause-stacked g c =
    read_stacked (g.L.LookaheadInterpret.holds c.args.terminals.now) c.args.states.now c.requires.coherent c.args.self c.shift_all.new.self c.args.tokens.items [] c.args.self.left
    (start_stacked (contents_in (g.L.LookaheadInterpret.holds c.args.terminals.now) c.args.states.now) c.args.self c.requires.start) c.in_ok-shift_all.ensures.shifted

pub returns : goal.returns
returns g c =
    last_answer (g.L.LookaheadInterpret.holds c.args.terminals.now) c.args.states.now c.requires.coherent c.shift_all.new.self c.args.tokens.items c.args.self.left
    (read_from_start c.args.self c.shift_all.new.self c.args.tokens.items [] c.args.self.left c.args.self.left c.requires.start refl c.in_ok-shift_all.ensures.shifted)
    c.finish.result c.finish.ensures
