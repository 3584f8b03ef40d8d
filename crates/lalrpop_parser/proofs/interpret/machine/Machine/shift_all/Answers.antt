use Rattle.std.proofs.Common.{◌≡◌, ◌∷◌, sym}
use Rattle.std.specs.Vec.Iter.{into_iter_items}
use Rattle.lalrpop_base.specs.Words.{contents_in}
use Rattle.lalrpop_parser.specs.Words.{IsFailure, configuration, HasRead, StopsReading}
use Rattle.lalrpop_parser.specs.declared.interpret.error.InterpretError.{InterpretError}
use Rattle.lalrpop_parser.proofs.theory.runs.Interpreted.{read_stacked, nothing_read}
use Rattle.lalrpop_parser.proofs.theory.runs.MachineRuns.{read_on, fail_later, raised}
use Rattle.lalrpop_parser.proofs.interpret.machine.Machine.shift_all.Goals as goal

pub loop-terminal-init : goal.loop-terminal-init
loop-terminal-init g c = record {
  stacked = c.requires.stacked;
  read = nothing_read c.args.self.now c.args.tokens.items (into_iter_items c.into_iter-terminal-iterator.result) (sym c.into_iter-terminal-iterator.ensures.into_iter_gives.0);
}

pub loop-terminal-preserved : goal.loop-terminal-preserved
loop-terminal-preserved g c =
    let rest = into_iter_items c.next.new.self in
    let all = into_iter_items c.loop-terminal.terminal-iterator in
    let whole : all ≡ c.in-Some.terminal ∷ rest = c.in-Some.ensures.steps.0 in
    let shifted : HasRead (contents_in (g.L.LookaheadInterpret.holds c.args.terminals.now) c.args.states.now) (configuration c.loop-terminal.self (c.in-Some.terminal ∷ rest)) c.loop-terminal.self.left c.shift.new.self rest = c.in_ok-shift.ensures.shifted rest in
    record {
      stacked = read_stacked (g.L.LookaheadInterpret.holds c.args.terminals.now) c.args.states.now c.requires.coherent c.loop-terminal.self c.shift.new.self (c.in-Some.terminal ∷ rest) rest c.loop-terminal.self.left c.loop-terminal.invariant.stacked shifted;
      read = read_on c.loop-terminal.self c.shift.new.self all rest c.in-Some.terminal c.loop-terminal.invariant.read whole shifted;
    }

pub returns-in_err-shift-clause-stopped : goal.returns-in_err-shift-clause-stopped
returns-in_err-shift-clause-stopped g c =
    let rest = into_iter_items c.next.new.self in
    let all = into_iter_items c.loop-terminal.terminal-iterator in
    let whole : all ≡ c.in-Some.terminal ∷ rest = c.in-Some.ensures.steps.0 in
    raised (λ (e : InterpretError g.row.L.Denot). IsFailure (StopsReading (contents_in (g.L.LookaheadInterpret.holds c.args.terminals.now) c.args.states.now) (configuration c.args.self.now c.args.tokens.items) c.args.self.now.left) c.args.states.now e)
    c.in_err-shift.field-0.0
    (fail_later c.args.states.now c.loop-terminal.self all rest c.in-Some.terminal c.loop-terminal.invariant.read whole c.in_err-shift.field-0.0 (c.in_err-shift.ensures.stopped rest))
    c.from_residual.result c.from_residual.ensures.1
