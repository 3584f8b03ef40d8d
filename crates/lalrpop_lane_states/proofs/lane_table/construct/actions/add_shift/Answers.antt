use Rattle.std.proofs.Common.{[], ◌∷◌, ◌++◌, subst}
use Rattle.lalrpop_base.specs.Words.{HasToken}
use Rattle.lalrpop_grammar.specs.declared.lookahead.token.Token.TheVariants.{Terminal as TokenOf}
use Rattle.lalrpop_states.specs.declared.lr1_core.state.Action.TheVariants.{Shift}
use Rattle.lalrpop_lane_states.proofs.Types.{TerminalString}
use Rattle.lalrpop_lane_states.specs.Words.{AreActions}
use Rattle.lalrpop_lane_states.proofs.theory.lanes.HeldShifts.{shift_passed, shift_taken}
use Rattle.lalrpop_lane_states.proofs.theory.lanes.LaneActions.{one_action}
use Rattle.lalrpop_lane_states.proofs.lane_table.construct.actions.add_shift.Goals as goal

pub returns-then-not-branch : goal.returns-then-not-branch
returns-then-not-branch c asked h =
    let none : HasToken c.args.terminals.now c.args.held.now (TokenOf c.args.terminal.now) → ⊥ = λ some. let yes = c.in_ok-holds_terminal.ensures.1 some in cc in
    shift_passed c.args.terminals.now c.all-all.ensures.distinct c.args.held.now c.args.terminal.now c.args.target none asked _ h

pub returns : goal.returns
returns c asked h =
    let some = c.in_ok-holds_terminal.ensures.0 c.if-not-branch.false in
    let taken = one_action asked _ _ _ c.in_ok-insert.ensures.keys h in
    let here = subst (λ (u : TerminalString). AreActions (asked ++ Shift u c.args.target ∷ []) c.insert.new.self.keys) c.in_ok-clone.ensures taken in
    shift_taken c.args.terminals.now c.all-all.ensures.distinct c.args.held.now c.args.terminal.now c.args.target some asked _ here
