use Rattle.std.proofs.Common.{List, [], ◌∷◌, ◌≡◌, ◌+◌, ◌*◌, false, length, reverse}
use Rattle.std.specs.BTreeSet.{contains}
use Rattle.lalrpop_base.specs.Words.{name_cmp}
use Rattle.lalrpop_inline.specs.Words.{ComesBack, ComesBackFrom, IsWalked}
use Rattle.lalrpop_inline.proofs.Types.{NonterminalString}
use Rattle.lalrpop_inline.proofs.inline.graph.depth_first.walk_from.Given as goal

abbrev pub invariant-loop-frame : goal.invariant-loop-frame
invariant-loop-frame l = record {
  walked : IsWalked l.grammar l.fn.walk l.walk (reverse l.frames.items);
  back : (rest : List NonterminalString) (b : NonterminalString) → ComesBackFrom l.grammar rest (reverse l.frames.items) l.walk.order.items b → ComesBack l.grammar [] (l.name ∷ rest) l.fn.walk.order.items b;
  left : contains name_cmp l.walk.pending l.name ≡ false;
}

abbrev pub decreases-loop-frame : goal.decreases-loop-frame
decreases-loop-frame l = 2 * length l.walk.pending.keys + length l.frames.items
