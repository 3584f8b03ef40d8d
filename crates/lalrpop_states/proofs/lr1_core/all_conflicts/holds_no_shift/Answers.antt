use Rattle.std.proofs.Common.{◌≡◌, List, [], refl, subst, sym}
use Rattle.std.specs.Prelude.{Contains}
use Rattle.lalrpop_grammar.specs.Words.{HasToken}
use Rattle.lalrpop_grammar.specs.declared.lookahead.token.Token.TheVariants.{Terminal as TokenOf}
use Rattle.lalrpop_states.proofs.Types.{StateIndex, TerminalString}
use Rattle.lalrpop_states.proofs.theory.conflicts.FreeStates.{shift_behind}
use Rattle.lalrpop_collections.proofs.theory.lists.Members.{contains_head, Contains-none, contains_tail}
use Rattle.lalrpop_states.proofs.lr1_core.all_conflicts.holds_no_shift.Goals as goal

pub loop-terminal-init : goal.loop-terminal-init
loop-terminal-init c =
    let same : c.into_iter-terminal-iterator.result ≡ c.args.shifts.now.entries = cc in
    record {
      of = λ t target h. subst (λ (es : List (TerminalString × StateIndex)). Contains es (t, target)) same h;
      left = λ t target some h. subst (λ (es : List (TerminalString × StateIndex)). Contains es (t, target)) (sym same) h;
    }

pub returns-then-branch : goal.returns-then-branch
returns-then-branch c = (
  λ h. cc,
  λ none.
      let t = c.in-Some.terminal.now in
      let target = c.in-Some._target.now in
      let rest : List (TerminalString × StateIndex) = c.next.new.self in
      let here = subst (λ (es : List (TerminalString × StateIndex)). Contains es (t, target)) (sym c.in-Some.ensures.steps) (contains_head (t, target) rest) in
      let some = c.in_ok-holds_terminal.ensures.0 c.if-branch.true in
      absurd (none t target (c.loop-terminal.invariant.of t target here) some),
)

pub loop-terminal-preserved : goal.loop-terminal-preserved
loop-terminal-preserved c =
    let held = c.loop-terminal.invariant in
    let rest : List (TerminalString × StateIndex) = c.next.new.self in
    let x : TerminalString × StateIndex = (c.in-Some.terminal.now, c.in-Some._target.now) in
    let none : HasToken c.args.terminals.now c.args.held.now (TokenOf x.0) → ⊥ = λ some.
    let yes = c.in_ok-holds_terminal.ensures.1 some in cc in
    record {
      of = λ t target h. held.of t target (subst (λ (es : List (TerminalString × StateIndex)). Contains es (t, target)) (sym c.in-Some.ensures.steps) (contains_tail x rest (t, target) h));
      left = λ t target some h. shift_behind c.args.terminals.now c.args.held.now x c.loop-terminal.terminal-iterator rest c.in-Some.ensures.steps none t target some (held.left t target some h);
    }

pub returns : goal.returns
returns c =
    let none : c.loop-terminal.terminal-iterator ≡ [] = c.in-None.ensures.steps.0 in
    (λ h t target there some. Contains-none (t, target) (subst (λ (es : List (TerminalString × StateIndex)). Contains es (t, target)) none (c.loop-terminal.invariant.left t target some there)), λ h. refl)
