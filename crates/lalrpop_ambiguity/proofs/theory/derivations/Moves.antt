-- Moves that make trees: how steps make them, and the moves that two lists have in common.
use Rattle.std.proofs.Common.{◌≡◌, ◌≤◌, ◌<◌, ◌+◌, ℕ, List, [], ◌∷◌, ◌++◌, Option, Some, get_or, length, map, option_map, slice_get, take, refl, ap, sym, ◌∙◌, append-nil, append_assoc, arith}
use Rattle.std.proofs.lemmas.List.{take_more_same}
use Rattle.std.proofs.lemmas.Option.{get_or_from_slice_get, none-some, same_Some, slice_get-map, slice_get_past, slice_get_read, slice_get_within}
use Rattle.lalrpop_ambiguity.specs.Words.{Tree, Leaf, Node, Trees, no_trees, beside}
use Rattle.lalrpop_ambiguity.specs.Words.{HaveInCommon, Move, move_of, moves_by, moves_of, moves_over, reads, reduces}
use Rattle.lalrpop_ambiguity.specs.Words.{Step, leaves_node, steps_over}
use Rattle.lalrpop_ambiguity.specs.declared.derivation.moves.DerivationMove.{DerivationMove}
use Rattle.lalrpop_ambiguity.proofs.Types.{Production}

-- the steps over trees make their moves, and then the other steps go on
pub moved_over : (ts : Trees) (around : List Production) (steps : List Step) → moves_by around (steps_over ts ++ steps) ≡ moves_over ts ++ moves_by around steps
moved_over no_trees around steps = refl
moved_over (beside (Leaf x) ts) around steps = ap (λ l. reads x ∷ l) (moved_over ts around steps)
moved_over (beside (Node p children) ts) around steps =
    ap (λ l. moves_by (p ∷ around) l) (append_assoc (steps_over children) (leaves_node ∷ steps_over ts) steps)
    ∙ moved_over children (p ∷ around) (leaves_node ∷ (steps_over ts ++ steps))
    ∙ ap (λ l. moves_over children ++ (reduces p ∷ l)) (moved_over ts around steps)
    ∙ sym (append_assoc (moves_over children) (reduces p ∷ moves_over ts) (moves_by around steps))

-- so the steps over a tree make its moves
pub moved_whole : (t : Tree) → moves_by [] (steps_over (beside t no_trees)) ≡ moves_of t
moved_whole t =
    ap (λ l. moves_by [] l) (sym (append-nil (steps_over (beside t no_trees))))
    ∙ moved_over (beside t no_trees) [] []
    ∙ append-nil (moves_of t)

-- ---- the moves in common
-- a move of the code, in the list of the moves
pub read_at : (xs : List DerivationMove) (n : ℕ) (x : DerivationMove) → n < length xs → x ≡ get_or xs n x → slice_get (map move_of xs) n ≡ Some (move_of x)
read_at xs n x within is = slice_get-map move_of xs n ∙ ap (λ (o : Option DerivationMove). option_map move_of o) (slice_get_read xs (length xs) n x refl within is)

-- one move more is in common
pub goes_on : (n : ℕ) (l r : List Move) (x y : Move) → slice_get l n ≡ Some x → slice_get r n ≡ Some y → x ≡ y → take n l ≡ take n r → take (n + 1) l ≡ take (n + 1) r
goes_on n l r x y here there e same = take_more_same l r n x (slice_get_within l n x here) (slice_get_within r n y there) same (get_or_from_slice_get l n x x here ∙ e ∙ sym (get_or_from_slice_get r n y x there))

-- the list on the right has no more moves
pub right_ends : (n : ℕ) (l r : List Move) → n ≤ length l → length r ≤ n → take n l ≡ take n r → HaveInCommon n l r
right_ends n l r within end same = record {
  within = within;
  same = same;
  differ = λ m on_left on_right. none-some m (sym (slice_get_past r n end) ∙ on_right);
}

-- the list on the left has no more moves
pub left_ends : (n : ℕ) (l r : List Move) → n ≡ length l → take n l ≡ take n r → HaveInCommon n l r
left_ends n l r end same = record {
  within = omega arith;
  same = same;
  differ = λ m on_left on_right. none-some m (sym (slice_get_past l n (omega arith)) ∙ on_left);
}

-- the next moves differ
pub moves_part : (n : ℕ) (l r : List Move) (x y : Move) → slice_get l n ≡ Some x → slice_get r n ≡ Some y → (x ≡ y → ⊥) → take n l ≡ take n r → HaveInCommon n l r
moves_part n l r x y here there other same = record {
  within = let within = slice_get_within l n x here in omega arith;
  same = same;
  differ = λ m on_left on_right. other (same_Some x m (sym here ∙ on_left) ∙ same_Some m y (sym on_right ∙ there));
}
