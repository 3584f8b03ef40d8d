use Rattle.std.proofs.Common.{[]}
use Rattle.std.specs.Prelude.{Ok}
use Rattle.lalrpop_base.specs.Words.{contents_in, begin}
use Rattle.lalrpop_parser.specs.Words.{HasPartialOutcome}
use Rattle.lalrpop_parser.proofs.theory.runs.FaithfulAnswers.{stop_limit, stop_wrong}
use Rattle.lalrpop_parser.proofs.theory.runs.FaithfulStacks.{stack_begun, takes_beginning}
use Rattle.lalrpop_parser.proofs.theory.runs.Interpreted.{start_stacked, read_from_start, stop_partial, stack_answer}
use Rattle.lalrpop_parser.proofs.theory.runs.MachineRuns.{raised_partial}
use Rattle.lalrpop_parser.proofs.interpret.interpret_partial.Goals as goal

pub shift_all-requires-clause-stacked : goal.shift_all-requires-clause-stacked
shift_all-requires-clause-stacked g c = start_stacked (contents_in (g.L.LookaheadInterpret.holds c.args.terminals.now) c.args.states.now) c.new-machine.result c.new-machine.ensures.start

pub returns-in_err-shift_all-clause-outcome : goal.returns-in_err-shift_all-clause-outcome
returns-in_err-shift_all-clause-outcome g c =
    raised_partial (HasPartialOutcome (contents_in (g.L.LookaheadInterpret.holds c.args.terminals.now) c.args.states.now) (begin c.args.tokens.items) c.args.limit) c.args.states.now c.in_err-shift_all.field-0.0
    (stop_partial (g.L.LookaheadInterpret.holds c.args.terminals.now) c.args.states.now c.requires.coherent c.new-machine.result c.args.tokens.items c.args.limit c.new-machine.ensures.start c.new-machine.ensures.left c.in_err-shift_all.field-0.0 c.in_err-shift_all.ensures.stopped)
    c.from_residual.result c.from_residual.ensures.1

pub returns-clause-outcome : goal.returns-clause-outcome
returns-clause-outcome g c =
    stack_answer c.shift_all.new.self c.args.tokens.items c.args.limit c.in_ok-stack.stack.items
    (read_from_start c.new-machine.result c.shift_all.new.self c.args.tokens.items [] c.args.limit c.new-machine.result.left c.new-machine.ensures.start c.new-machine.ensures.left c.in_ok-shift_all.ensures.shifted)
    c.in_ok-stack.ensures

pub returns-in_err-shift_all-clause-limit : goal.returns-in_err-shift_all-clause-limit
returns-in_err-shift_all-clause-limit g c =
    stop_limit (contents_in (g.L.LookaheadInterpret.holds c.args.terminals.now) c.args.states.now) c.args.states.now c.args.tokens.items c.args.limit c.from_residual.result (returns-in_err-shift_all-clause-outcome g c)

pub returns-in_err-shift_all-clause-refused : goal.returns-in_err-shift_all-clause-refused
returns-in_err-shift_all-clause-refused g c =
    stop_wrong (contents_in (g.L.LookaheadInterpret.holds c.args.terminals.now) c.args.states.now) c.args.states.now c.args.tokens.items c.args.limit c.from_residual.result (returns-in_err-shift_all-clause-outcome g c)

pub returns-in_err-shift_all-clause-begins : goal.returns-in_err-shift_all-clause-begins
returns-in_err-shift_all-clause-begins g c =
    takes_beginning (contents_in (g.L.LookaheadInterpret.holds c.args.terminals.now) c.args.states.now) c.args.states.now c.args.tokens.items c.args.limit c.from_residual.result (returns-in_err-shift_all-clause-outcome g c)

pub returns-clause-begun : goal.returns-clause-begun
returns-clause-begun g c =
    stack_begun {L = g.row.L.Denot} (contents_in (g.L.LookaheadInterpret.holds c.args.terminals.now) c.args.states.now) c.args.states.now c.args.tokens.items c.args.limit (Ok c.in_ok-stack.stack) (returns-clause-outcome g c)
