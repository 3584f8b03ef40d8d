use Rattle.lalrpop_base.specs.Words.{NumberedGroups, groups_by, items_by, AreMoves}
use Rattle.lalrpop_collections.proofs.theory.collections.SparseMaps.{rising_differ}
use Rattle.lalrpop_construction.proofs.theory.construction.PermutedMoves.{groups_permuted, moves_permuted}
use Rattle.lalrpop_construction.proofs.construction.transitions.transitions.Goals as goal

pub edges_of-requires-clause-known : goal.edges_of-requires-clause-known
edges_of-requires-clause-known g c = groups_permuted c.args.numbers.now c.moves_of.new.moves c.in_ok-moves.moves.items c.in_ok-moves.ensures.same c.in_ok-moves_of.ensures.known

pub returns-clause-transitions : goal.returns-clause-transitions
returns-clause-transitions g c =
    let n = c.args.numbers.now in
    let items = items_by n.items.items c.args.items.now in
    let rising : NumberedGroups g.row.L.Denot = c.in_ok-moves.moves.items in
    let moves : AreMoves items (groups_by n rising) =
    moves_permuted n c.moves_of.new.moves rising c.in_ok-moves.ensures.same c.requires.numbers.0 c.requires.numbers.1 items c.in_ok-moves_of.ensures.known (rising_differ rising c.in_ok-moves.ensures.rising) c.in_ok-moves_of.ensures.moves in
    record { groups = groups_by n rising; moves = moves; lead = c.in_ok-edges.ensures.edges; reached = c.in_ok-edges.ensures.reached }
