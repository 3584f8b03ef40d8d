use Rattle.std.proofs.Common.{◌≡◌, ◌∙◌, List, Some, ap, sym}
use Rattle.std.specs.Prelude.{slice_get}
use Rattle.lalrpop_base.specs.Words.{Bits, with_bit}
use Rattle.lalrpop_follow_sets.proofs.Types.{TerminalString}
use Rattle.lalrpop_follow_sets.proofs.theory.follow_sets.FollowTokens.{found_none, found_some, no_terminal, token_absent, token_none, token_there}
use Rattle.lalrpop_follow_sets.proofs.follow_sets.tokens.token_of.Goals as goal
use Rattle.lalrpop_follow_sets.proofs.follow_sets.tokens.token_of.Goals.{in-Terminal+then-is_some+in_ok-clone+in_ok-insert, in-Terminal+else-is_some, in_default}

pub returns : goal.returns
returns c = elim c.match-symbol.branch [
  | in-Terminal+then-is_some+in_ok-clone+in_ok-insert w ↦
      let terminals : List TerminalString = c.args.terminals.now in
      let t = w.in-Terminal.terminal in
      let found = found_some w.bit.result (λ bit. slice_get terminals bit ≡ Some t) w.bit.ensures.found (sym w.is_some.ensures ∙ w.if-is_some.true) in
      token_there terminals c.args.symbol.now t c.match-symbol.set w.in-Terminal.is found.0 found.1
      (λ k at. w.set-is ∙ w.in_ok-insert.ensures.inserted k (at ∙ ap (λ (u : TerminalString). Some u) (sym w.in_ok-clone.ensures)) ∙ ap (λ (s : Bits). with_bit s k) c.new-set.ensures)
  | in-Terminal+else-is_some w ↦
      token_absent c.args.terminals.now c.args.symbol.now w.in-Terminal.terminal c.match-symbol.set w.in-Terminal.is (w.bit.ensures.absent (found_none w.bit.result (sym w.is_some.ensures ∙ w.if-is_some.false))) (w.set-is ∙ c.new-set.ensures)
  | in_default w ↦ token_none c.args.terminals.now c.args.symbol.now c.match-symbol.set (w.set-is ∙ c.new-set.ensures) (λ t e. absurd (no_terminal c.args.symbol.now w.in_default.field-0 w.in_default.is t e))
]
