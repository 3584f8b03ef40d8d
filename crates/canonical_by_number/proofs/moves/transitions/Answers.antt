use Rattle.std.proofs.Common.{List, ℕ}
use Rattle.std.proofs.lemmas.List.Sorted.{Contains-permutation, IsPermutation-map, IsPermutation-sym}
use Rattle.lalrpop_base.specs.Words.{AreMoves, Bits, groups_by, items_by}
use Rattle.lalrpop_collections.proofs.theory.collections.SparseMaps.{rising_differ}
use Rattle.lalrpop_construction.proofs.theory.construction.PermutedMoves.{groups_permuted, moves_permuted}
use Rattle.canonical_by_number.specs.Closures.{entries_in}
use Rattle.canonical_by_number.specs.Kernels.{groups_in}
use Rattle.canonical_by_number.proofs.PackedMoves.{group_in, keys_differ}
use Rattle.canonical_by_number.proofs.moves.transitions.Goals as goal

pub edges_of-requires-clause-known : goal.edges_of-requires-clause-known
edges_of-requires-clause-known c =
    groups_permuted c.args.numbers.now (groups_in c.args.sets.now c.moves_of.new.moves) (groups_in c.args.sets.now c.in_ok-groups.groups.items) (IsPermutation-map (group_in c.args.sets.now) c.moves_of.new.moves c.in_ok-groups.groups.items c.in_ok-groups.ensures.same) c.in_ok-moves_of.ensures.known

pub edges_of-requires-clause-packed : goal.edges_of-requires-clause-packed
edges_of-requires-clause-packed c = λ h d. c.in_ok-moves_of.ensures.packed h (Contains-permutation c.in_ok-groups.groups.items c.moves_of.new.moves h (IsPermutation-sym c.moves_of.new.moves c.in_ok-groups.groups.items c.in_ok-groups.ensures.same) d)

pub returns-clause-transitions : goal.returns-clause-transitions
returns-clause-transitions c =
    let n = c.args.numbers.now in
    let sets : List Bits = c.args.sets.now in
    let items = items_by n.items.items (entries_in sets c.args.list.now) in
    let old : List (ℕ × List ℕ) = c.moves_of.new.moves in
    let rising : List (ℕ × List ℕ) = c.in_ok-groups.groups.items in
    let moves : AreMoves items (groups_by n (groups_in sets rising)) =
    moves_permuted n (groups_in sets old) (groups_in sets rising) (IsPermutation-map (group_in sets) old rising c.in_ok-groups.ensures.same) c.requires.numbers.0 c.requires.numbers.1 items c.in_ok-moves_of.ensures.known (keys_differ sets rising (rising_differ rising c.in_ok-groups.ensures.rising)) c.in_ok-moves_of.ensures.moves in
    record { groups = groups_by n (groups_in sets rising); moves = moves; lead = c.in_ok-edges_of.ensures.edges; reached = c.in_ok-edges_of.ensures.reached }
