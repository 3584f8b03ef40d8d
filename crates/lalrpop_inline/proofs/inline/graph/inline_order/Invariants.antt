use Rattle.std.proofs.Common.{[], drop, take}
use Rattle.lalrpop_inline.proofs.Types.{NonterminalString}
use Rattle.lalrpop_inline.specs.Words.{ComesBack}
use Rattle.lalrpop_inline.proofs.theory.inlining.InlineFrames.{HasLeft}
use Rattle.lalrpop_inline.proofs.inline.graph.inline_order.Given as goal

-- the first names were left. If the walk comes back to a nonterminal from the others, it does so
-- from all
abbrev pub invariant-loop-name : goal.invariant-loop-name
invariant-loop-name l = record {
  left : HasLeft l.grammar l.walk (take l.name-index l.name-items);
  back : (b : NonterminalString) → ComesBack l.grammar [] (drop l.name-index l.name-items) l.walk.order.items b → ComesBack l.grammar [] l.name-items [] b;
}
