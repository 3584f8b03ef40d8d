use Rattle.std.specs.Prelude.{Contains}
use Rattle.lalrpop_grammar.specs.Words.{HasToken}
use Rattle.lalrpop_grammar.specs.declared.lookahead.token.Token.TheVariants.{Terminal as TokenOf}
use Rattle.lalrpop_states.proofs.Types.{StateIndex, TerminalString}
use Rattle.lalrpop_states.proofs.lr1_core.all_conflicts.holds_no_shift.Given as goal

abbrev pub invariant-loop-terminal : goal.invariant-loop-terminal
invariant-loop-terminal l = record {
  of : (t : TerminalString) (target : StateIndex) → Contains l.terminal-iterator (t, target) → Contains l.shifts.entries (t, target);
  left : (t : TerminalString) (target : StateIndex) → HasToken l.terminals l.held (TokenOf t) → Contains l.shifts.entries (t, target) → Contains l.terminal-iterator (t, target);
}
