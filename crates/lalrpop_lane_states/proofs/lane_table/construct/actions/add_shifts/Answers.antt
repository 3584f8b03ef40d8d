use Rattle.std.proofs.Common.{◌≡◌, ◌∙◌, ◌++◌, List, [], ap, append-nil, append_assoc, subst, sym}
use Rattle.std.specs.List.{flat_map}
use Rattle.lalrpop_states.specs.declared.lr1_core.state.Action.{Action as TheAction}
use Rattle.lalrpop_lane_states.proofs.Types.{StateIndex, TerminalString}
use Rattle.lalrpop_states.specs.conflicts.HeldShifts.{held_shift}
use Rattle.lalrpop_lane_states.specs.Words.{AreActions}
use Rattle.lalrpop_lane_states.proofs.lane_table.construct.actions.add_shifts.Goals as goal

pub loop-terminal-init : goal.loop-terminal-init
loop-terminal-init c asked h =
    let same : c.into_iter-terminal-iterator.result ≡ c.args.shifts.now.entries = cc in
    (asked, h, ap (λ (es : List (TerminalString × StateIndex)). asked ++ flat_map (held_shift c.args.terminals.now c.args.held.now) es) same)

pub loop-terminal-preserved : goal.loop-terminal-preserved
loop-terminal-preserved c asked h =
    let take = held_shift c.args.terminals.now c.args.held.now in
    let before = c.loop-terminal.invariant asked h in
    let e : TerminalString × StateIndex = (c.in-Some.terminal.now, c.in-Some.target.now) in
    let rest : List (TerminalString × StateIndex) = c.next.new.self in (
      before.0 ++ take e,
      c.in_ok-add_shift.ensures before.0 before.1,
      append_assoc before.0 (take e) (flat_map take rest) ∙ sym (ap (λ (es : List (TerminalString × StateIndex)). before.0 ++ flat_map take es) c.in-Some.ensures.steps) ∙ before.2,
    )

pub returns : goal.returns
returns c asked h =
    let take = held_shift c.args.terminals.now c.args.held.now in
    let done = c.loop-terminal.invariant asked h in
    let none : c.loop-terminal.terminal-iterator ≡ [] = c.in-None.ensures.steps.0 in
    let all = sym (append-nil done.0) ∙ sym (ap (λ (es : List (TerminalString × StateIndex)). done.0 ++ flat_map take es) none) ∙ done.2 in
    subst (λ (xs : List TheAction). AreActions xs c.loop-terminal.actions.keys) all done.1
