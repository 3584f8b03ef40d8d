use Rattle.std.proofs.Common.{◌≡◌, Contains, List, None, length, reverse}
use Rattle.lalrpop_inline.proofs.Types.{NonterminalString}
use Rattle.lalrpop_inline.specs.Words.{GoesPast, IsFrame, IsInside, LeadTo}
use Rattle.lalrpop_inline.proofs.inline.graph.depth_first.next_pending.Given as goal

abbrev pub invariant-loop-other : goal.invariant-loop-other
invariant-loop-other l = record {
  name : l.frame.name ≡ l.initial.frame.name;
  frame : IsFrame l.grammar l.walk.order.items None l.frame;
  past : (path : List NonterminalString) → IsInside l.walk path → GoesPast l.grammar path l.walk.order.items (reverse l.initial.frame.others.items) (reverse l.frame.others.items);
  lead : (c : NonterminalString) → Contains l.frame.others.items c → LeadTo l.grammar l.walk c;
}

abbrev pub decreases-loop-other : goal.decreases-loop-other
decreases-loop-other l = length l.frame.others.items
