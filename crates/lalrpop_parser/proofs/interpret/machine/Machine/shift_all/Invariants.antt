use Rattle.lalrpop_base.specs.Words.{contents_in}
use Rattle.std.specs.Vec.Iter.{into_iter_items}
use Rattle.lalrpop_parser.specs.Words.{configuration, IsStacked, HasRead}
use Rattle.lalrpop_parser.proofs.interpret.machine.Machine.shift_all.Given as goal

abbrev pub invariant-loop-terminal : goal.invariant-loop-terminal
invariant-loop-terminal g l = record {
  stacked : IsStacked (contents_in (g.L.LookaheadInterpret.holds l.terminals) l.states) l.self;
  read : HasRead (contents_in (g.L.LookaheadInterpret.holds l.terminals) l.states) (configuration l.fn.self l.fn.tokens.items) l.fn.self.left l.self (into_iter_items l.terminal-iterator);
}
