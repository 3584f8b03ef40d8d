-- The items to which symbols lead, in another order.
use Rattle.std.proofs.Common.{List}
use Rattle.std.specs.Prelude.{IsPermutation}
use Rattle.std.specs.Map.{keys_of}
use Rattle.std.proofs.lemmas.List.Sorted.{Contains-permutation, IsPermutation-map, IsPermutation-sym}
use Rattle.lalrpop_base.specs.Words.{AllDiffer, Dotted, Rules, AreMoves, Groups, AreGroupsOf, AreNumbers, NumberedGroups, groups_by}
use Rattle.lalrpop_numbers.specs.declared.numbers.Numbers.{Numbers}
use Rattle.lalrpop_construction.proofs.theory.construction.NumberedMoves.{group_by, keys_differ_by}

module _ {L : Type 0} where
  pub Moves-permuted : (items : List (Dotted L)) (old new : Groups L) → IsPermutation old new → AllDiffer (keys_of new) → AreMoves items old → AreMoves items new
  Moves-permuted items old new same differ moves =
      let back = IsPermutation-sym old new same in
      record {
        each = λ x kernel c. moves.each x kernel (Contains-permutation new old (x, kernel) back c);
        other = λ x none. moves.other x (λ kernel c. none kernel (Contains-permutation old new (x, kernel) same c));
        some = λ x kernel c. moves.some x kernel (Contains-permutation new old (x, kernel) back c);
        has = λ x i among behind. let h = moves.has x i among behind in (h.0, Contains-permutation old new (x, h.0) same h.1);
        differ = differ;
      }

  module _ (n : Numbers) (old new : NumberedGroups L) (same : IsPermutation old new) where
    pub groups_permuted : AreGroupsOf n old → AreGroupsOf n new
    groups_permuted of h c = of h (Contains-permutation new old h (IsPermutation-sym old new same) c)

    pub moves_permuted : (g : Rules) → AreNumbers g n → (items : List (Dotted L)) → AreGroupsOf n old → AllDiffer (keys_of new) → AreMoves items (groups_by n old) → AreMoves items (groups_by n new)
    moves_permuted g numbers items of differ moves = Moves-permuted items (groups_by n old) (groups_by n new) (IsPermutation-map (group_by n) old new same) (keys_differ_by g n numbers new (groups_permuted of) differ) moves
