use Rattle.std.proofs.Common.{◌≡◌, ◌+◌, ◌++◌, ◌∷◌, [], List, sym, subst, take}
use Rattle.std.proofs.lemmas.List.{take_all}
use Rattle.lalrpop_base.specs.Words.{Dotted, AreMoves, AreGroupsOf, NumberedGroups, groups_by, item_by, items_by}
use Rattle.lalrpop_numbers.specs.declared.numbers.numbered.Numbered.{Numbered}
use Rattle.lalrpop_collections.proofs.theory.lists.Members.{Contains-none}
use Rattle.lalrpop_construction.proofs.theory.construction.Moves.{Moves-none, Moves-more}
use Rattle.lalrpop_collections.proofs.theory.lists.Growth.{mapped_more}
use Rattle.lalrpop_construction.proofs.construction.transitions.moves_of.Goals as goal

pub loop-item-init : goal.loop-item-init
loop-item-init g c = record {
  known = subst (λ (gs : NumberedGroups g.row.L.Denot). AreGroupsOf c.args.numbers.now gs) (sym c.clear.ensures) (λ h d. absurd (Contains-none h d));
  moves = subst (λ (gs : NumberedGroups g.row.L.Denot). AreMoves [] (groups_by c.args.numbers.now gs)) (sym c.clear.ensures) Moves-none;
}

pub add_move-requires-clause-known : goal.add_move-requires-clause-known
add_move-requires-clause-known g c = c.requires.known c.item-item.result (c.loop-item.item-index, c.loop-item-test.true, sym c.item-item.is)

pub loop-item-preserved : goal.loop-item-preserved
loop-item-preserved g c =
    let n = c.args.numbers.now in
    let items = n.items.items in
    let xs : List (Numbered g.row.L.Denot) = c.args.items.now in
    let i = c.loop-item.item-index in
    let x : Numbered g.row.L.Denot = c.item-item.result in
    let more : items_by items (take (i + 1) xs) ≡ items_by items (take i xs) ++ item_by items x ∷ [] = mapped_more (item_by items) xs i x c.loop-item-test.true c.item-item.is in
    let before = c.loop-item.invariant in
    record {
      known = c.in_ok-add_move.ensures.known before.known;
      moves = subst (λ (is : List (Dotted g.row.L.Denot)). AreMoves is (groups_by n c.add_move.new.moves)) (sym more)
          (Moves-more (items_by items (take i xs)) (item_by items x) (groups_by n c.loop-item.moves) (groups_by n c.add_move.new.moves) before.moves (c.in_ok-add_move.ensures.added before.known));
    }

pub returns-clause-known : goal.returns-clause-known
returns-clause-known g c = c.loop-item.invariant.known

pub returns-clause-moves : goal.returns-clause-moves
returns-clause-moves g c =
    subst (λ (xs : List (Numbered g.row.L.Denot)). AreMoves (items_by c.args.numbers.now.items.items xs) (groups_by c.args.numbers.now c.loop-item.moves)) (take_all c.loop-item.item-index c.args.items.now c.loop-item-test.false) c.loop-item.invariant.moves
