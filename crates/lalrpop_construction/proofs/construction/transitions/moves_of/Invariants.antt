use Rattle.std.proofs.Common.{take}
use Rattle.lalrpop_base.specs.Words.{AreGroupsOf, groups_by, items_by, AreMoves}
use Rattle.lalrpop_construction.proofs.construction.transitions.moves_of.Given as goal

abbrev pub invariant-loop-item : goal.invariant-loop-item
invariant-loop-item g l = record {
  known : AreGroupsOf l.numbers l.moves;
  moves : AreMoves (items_by l.numbers.items.items (take l.item-index l.items)) (groups_by l.numbers l.moves);
}
