use Rattle.std.proofs.Common.{◌≡◌, List, suc, ◌<◌, [], ◌∷◌, refl, sym, ap, subst, ◌∙◌, Some, None, arith}
use Rattle.lalrpop_base.specs.Words.{contents_in, move}
use Rattle.lalrpop_parser.proofs.Types.{TerminalString}
use Rattle.lalrpop_parser.specs.Words.{configuration, shift_on, reduction_move, HasRead, IsShifted, IsSpent, IsProgress, IsFailure, StopsReading}
use Rattle.lalrpop_grammar.specs.declared.lookahead.token.Token.TheVariants.{Terminal}
use Rattle.lalrpop_parser.specs.declared.interpret.error.InterpretError.{InterpretError}
use Rattle.lalrpop_parser.specs.declared.interpret.machine.Progress.TheVariants.{GoesOn}
use Rattle.lalrpop_parser.specs.runs.Reading.{read}
use Rattle.lalrpop_parser.proofs.theory.runs.MachineRuns.{top_within, shift_goes, shift_is_a_step, no_shift, reads_on, stops_spent, halted_stops, reduces_on, reduces_stacked, refused_stops, progressed, on_ok, if_err, raised}
use Rattle.lalrpop_parser.proofs.interpret.machine.Machine.shift.Goals as goal

pub reducing-init : goal.reducing-init
reducing-init g c = record {
  token = refl;
  stacked = c.requires.stacked;
  read = λ rest. record { steps = 0; reads = read; counted = omega arith };
}

pub top-state-requires : goal.top-state-requires
top-state-requires g c = top_within (g.L.LookaheadInterpret.holds c.args.terminals.now) c.args.states.now c.requires.coherent c.requires.some c.reducing.self c.reducing.invariant.stacked

pub returns-in-Some-clause-shifted : goal.returns-in-Some-clause-shifted
returns-in-Some-clause-shifted g c =
    let t = c.args.terminal in
    let moved : c.into_terminal.result ≡ t = cc in
    let there : shift_on c.top-state.result.now (Terminal t) ≡ Some c.in-Some.target = ap (shift_on c.top-state.result.now) (sym c.reducing.invariant.token) ∙ sym c.in-Some.ensures in
    let read : IsShifted c.reducing.self c.in-Some.target.0 c.into_terminal.result c.push.new.self → (rest : List TerminalString) → HasRead (contents_in (g.L.LookaheadInterpret.holds c.args.terminals.now) c.args.states.now) (configuration c.args.self.now (t ∷ rest)) c.args.self.now.left c.push.new.self rest =
    λ made rest.
    let shifted : IsShifted c.reducing.self c.in-Some.target.0 t c.push.new.self = subst (λ (u : TerminalString). IsShifted c.reducing.self c.in-Some.target.0 u c.push.new.self) moved made in
    reads_on c.reducing.self c.push.new.self t rest rest (c.reducing.invariant.read rest)
    (shift_goes (g.L.LookaheadInterpret.holds c.args.terminals.now) c.args.states.now c.reducing.self c.push.new.self c.top-state.result.now t c.in-Some.target rest c.top-state.ensures there shifted) shifted.counted in
    on_ok read c.push.result c.push.ensures.made

pub returns-in-Some-clause-stopped : goal.returns-in-Some-clause-stopped
returns-in-Some-clause-stopped g c =
    let t = c.args.terminal in
    let there : shift_on c.top-state.result.now (Terminal t) ≡ Some c.in-Some.target = ap (shift_on c.top-state.result.now) (sym c.reducing.invariant.token) ∙ sym c.in-Some.ensures in
    if_err (IsSpent c.reducing.self) (λ (e : InterpretError g.row.L.Denot). (rest : List TerminalString) → IsFailure (StopsReading (contents_in (g.L.LookaheadInterpret.holds c.args.terminals.now) c.args.states.now) (configuration c.args.self.now (t ∷ rest)) c.args.self.now.left) c.args.states.now e)
    (λ e spent rest. stops_spent c.reducing.self t rest (c.reducing.invariant.read rest) c.args.states.now (shift_is_a_step (g.L.LookaheadInterpret.holds c.args.terminals.now) c.args.states.now c.reducing.self c.top-state.result.now t c.in-Some.target rest c.top-state.ensures there) e spent)
    c.push.result c.push.ensures.spent

pub returns-in_err-reduce_on-clause-stopped : goal.returns-in_err-reduce_on-clause-stopped
returns-in_err-reduce_on-clause-stopped g c =
    let t = c.args.terminal in
    let none : shift_on c.top-state.result.now (Terminal t) ≡ None = ap (shift_on c.top-state.result.now) (sym c.reducing.invariant.token) ∙ sym c.in_default.ensures in
    raised (λ (e : InterpretError g.row.L.Denot). (rest : List TerminalString) → IsFailure (StopsReading (contents_in (g.L.LookaheadInterpret.holds c.args.terminals.now) c.args.states.now) (configuration c.args.self.now (t ∷ rest)) c.args.self.now.left) c.args.states.now e)
    c.in_err-reduce_on.field-0.0
    (λ rest. halted_stops c.reducing.self t rest _ c.args.states.now (c.reducing.invariant.read rest) c.reducing.invariant.token
    (no_shift (g.L.LookaheadInterpret.holds c.args.terminals.now) c.args.states.now c.reducing.self c.top-state.result.now t rest c.top-state.ensures none)
    c.in_err-reduce_on.field-0.0 (c.in_err-reduce_on.ensures.halted (t ∷ rest)))
    c.from_residual.result c.from_residual.ensures.1

pub reducing-smaller : goal.reducing-smaller
reducing-smaller g c =
    let went : IsProgress (contents_in (g.L.LookaheadInterpret.holds c.args.terminals.now) c.args.states.now) c.reducing.self (Terminal c.args.terminal) [] c.reduce_on.new.self GoesOn =
    progressed (contents_in (g.L.LookaheadInterpret.holds c.args.terminals.now) c.args.states.now) c.reducing.self c.reduce_on.new.self _ (Terminal c.args.terminal) [] c.in_ok-reduce_on.field-0 GoesOn c.reducing.invariant.token c.in-GoesOn.is (c.in_ok-reduce_on.ensures.made []) in
    let counted : suc c.reduce_on.new.self.left ≡ c.reducing.self.left = went.1 in
    let less : c.reduce_on.new.self.left < c.reducing.self.left = omega (arith, counted) in
    less

pub reducing-preserved : goal.reducing-preserved
reducing-preserved g c =
    let t = c.args.terminal in
    let none : shift_on c.top-state.result.now (Terminal t) ≡ None = ap (shift_on c.top-state.result.now) (sym c.reducing.invariant.token) ∙ sym c.in_default.ensures in
    let went : (rest : List TerminalString) → IsProgress (contents_in (g.L.LookaheadInterpret.holds c.args.terminals.now) c.args.states.now) c.reducing.self (Terminal t) rest c.reduce_on.new.self GoesOn =
    λ rest. progressed (contents_in (g.L.LookaheadInterpret.holds c.args.terminals.now) c.args.states.now) c.reducing.self c.reduce_on.new.self _ (Terminal t) rest c.in_ok-reduce_on.field-0 GoesOn c.reducing.invariant.token c.in-GoesOn.is (c.in_ok-reduce_on.ensures.made rest) in
    let reduces : (rest : List TerminalString) → move (contents_in (g.L.LookaheadInterpret.holds c.args.terminals.now) c.args.states.now) (configuration c.reducing.self (t ∷ rest)) ≡ reduction_move (contents_in (g.L.LookaheadInterpret.holds c.args.terminals.now) c.args.states.now) (configuration c.reducing.self (t ∷ rest)) (Terminal t) =
    λ rest. no_shift (g.L.LookaheadInterpret.holds c.args.terminals.now) c.args.states.now c.reducing.self c.top-state.result.now t rest c.top-state.ensures none in
    record {
      token = c.reducing.invariant.token;
      stacked = reduces_stacked (g.L.LookaheadInterpret.holds c.args.terminals.now) c.args.states.now c.requires.coherent c.reducing.self c.reduce_on.new.self t (Terminal t) c.reducing.invariant.stacked refl (reduces []) (went (t ∷ []));
      read = λ rest. reduces_on c.reducing.self c.reduce_on.new.self t rest (Terminal t) (c.reducing.invariant.read rest) refl (reduces rest) (went (t ∷ rest));
    }

pub returns-in-Stuck : goal.returns-in-Stuck
returns-in-Stuck g c =
    let t = c.args.terminal in
    let none : shift_on c.top-state.result.now (Terminal t) ≡ None = ap (shift_on c.top-state.result.now) (sym c.reducing.invariant.token) ∙ sym c.in_default.ensures in
    record {
      shifted = tt;
      stopped = λ rest. (
        c.reducing.self.state.0,
        c.top-state.ensures,
        refused_stops c.reducing.self c.reduce_on.new.self t rest _ (c.reducing.invariant.read rest) c.reducing.invariant.token
            (no_shift (g.L.LookaheadInterpret.holds c.args.terminals.now) c.args.states.now c.reducing.self c.top-state.result.now t rest c.top-state.ensures none)
            c.in_ok-reduce_on.field-0 c.in-Stuck.is (c.in_ok-reduce_on.ensures.made (t ∷ rest)),
      );
    }
