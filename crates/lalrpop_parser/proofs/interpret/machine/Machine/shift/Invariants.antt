use Rattle.std.proofs.Common.{◌≡◌, List, ◌∷◌}
use Rattle.lalrpop_base.specs.Words.{contents_in}
use Rattle.lalrpop_parser.proofs.Types.{TerminalString}
use Rattle.lalrpop_grammar.specs.declared.lookahead.token.Token.TheVariants.{Terminal}
use Rattle.lalrpop_parser.specs.Words.{configuration, IsStacked, HasRead}
use Rattle.lalrpop_parser.proofs.interpret.machine.Machine.shift.Given as goal

abbrev pub invariant-reducing : goal.invariant-reducing
invariant-reducing g l = record {
  token : l.token ≡ Terminal l.fn.terminal;
  stacked : IsStacked (contents_in (g.L.LookaheadInterpret.holds l.terminals) l.states) l.self;
  read : (rest : List TerminalString) → HasRead (contents_in (g.L.LookaheadInterpret.holds l.terminals) l.states) (configuration l.fn.self (l.fn.terminal ∷ rest)) l.fn.self.left l.self (l.fn.terminal ∷ rest);
}

abbrev pub decreases-reducing : goal.decreases-reducing
decreases-reducing g l = l.self.left
