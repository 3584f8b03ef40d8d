use Rattle.std.proofs.Common.{take}
use Rattle.lalrpop_base.specs.Words.{contents_in}
use Rattle.parse_pictures.specs.NextTokens.{AreNext}
use Rattle.parse_pictures.proofs.expected.expected_tokens.Given as goal

-- the terminals so far are selected
abbrev pub invariant-loop-terminal : goal.invariant-loop-terminal
invariant-loop-terminal g l = AreNext (contents_in (g.L.LookaheadInterpret.holds l.terminals) l.states) l.limit l.before (take l.terminal-index l.listed) l.next.items
