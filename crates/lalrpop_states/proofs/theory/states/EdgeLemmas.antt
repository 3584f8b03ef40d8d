-- A fact holds of each edge of a state exactly if it holds of each shift and of each goto.
use Rattle.std.proofs.Common.{zero, suc, List, [], ◌∷◌, ◌++◌, map, refl, ap, subst}
use Rattle.std.specs.Prelude.{unwrap_or}
use Rattle.lalrpop_collections.specs.Words.{EachEntry, EachItem}
use Rattle.lalrpop_grammar.specs.declared.repr.NonterminalString.{NonterminalString}
use Rattle.lalrpop_grammar.specs.declared.repr.TerminalString.{TerminalString}
use Rattle.lalrpop_grammar.specs.declared.repr.Symbol.TheVariants.{Nonterminal, Terminal}
use Rattle.lalrpop_states.specs.declared.lr1_core.state.StateIndex.{StateIndex}
use Rattle.lalrpop_states.specs.states.Edges.{StateEdge, goto_edge, shift_edge, state_edges}

module _ {X Y : Type 0} (f : X → Y) (P : Y → Type 0) where
  -- a fact of the image of each item is one of each image
  each_of_map : (xs : List X) → EachItem (λ x. P (f x)) xs → EachItem P (map f xs)
  each_of_map [] each k y at = cc
  each_of_map (x ∷ xs) each zero y at = subst P (ap (λ o. unwrap_or o (f x)) at) (each 0 x refl)
  each_of_map (x ∷ xs) each (suc k) y at = each_of_map xs (λ j z there. each (suc j) z there) k y at

  -- a fact of each image is one of the image of each item
  each_in_map : (xs : List X) → EachItem P (map f xs) → EachItem (λ x. P (f x)) xs
  each_in_map [] each k x at = cc
  each_in_map (x ∷ xs) each zero z at = subst (λ z. P (f z)) (ap (λ o. unwrap_or o x) at) (each 0 (f x) refl)
  each_in_map (x ∷ xs) each (suc k) z at = each_in_map xs (λ j y there. each (suc j) y there) k z at

module _ {X : Type 0} (P : X → Type 0) where
  each_append : (xs ys : List X) → EachItem P xs → EachItem P ys → EachItem P (xs ++ ys)
  each_append [] ys left right k y at = right k y at
  each_append (x ∷ xs) ys left right zero y at = left 0 y at
  each_append (x ∷ xs) ys left right (suc k) y at = each_append xs ys (λ j z there. left (suc j) z there) right k y at

  each_left : (xs ys : List X) → EachItem P (xs ++ ys) → EachItem P xs
  each_left [] ys each k y at = cc
  each_left (x ∷ xs) ys each zero y at = each 0 y at
  each_left (x ∷ xs) ys each (suc k) y at = each_left xs ys (λ j z there. each (suc j) z there) k y at

  each_right : (xs ys : List X) → EachItem P (xs ++ ys) → EachItem P ys
  each_right [] ys each = each
  each_right (x ∷ xs) ys each = each_right xs ys (λ j z there. each (suc j) z there)

module _ (P : StateEdge → Type 0) (shifts : List (TerminalString × StateIndex)) (gotos : List (NonterminalString × StateIndex)) where
  -- a fact of each shift and of each goto is one of each edge
  pub each_edge : EachEntry (λ t target. P (Terminal t, target)) shifts → EachEntry (λ name target. P (Nonterminal name, target)) gotos → EachItem P (state_edges shifts gotos)
  each_edge left right = each_append P (map shift_edge shifts) (map goto_edge gotos) (each_of_map shift_edge P shifts left) (each_of_map goto_edge P gotos right)

  -- a fact of each edge is one of each shift
  pub each_shift : EachItem P (state_edges shifts gotos) → EachEntry (λ t target. P (Terminal t, target)) shifts
  each_shift each = each_in_map shift_edge P shifts (each_left P (map shift_edge shifts) (map goto_edge gotos) each)

  -- a fact of each edge is one of each goto
  pub each_goto : EachItem P (state_edges shifts gotos) → EachEntry (λ name target. P (Nonterminal name, target)) gotos
  each_goto each = each_in_map goto_edge P gotos (each_right P (map shift_edge shifts) (map goto_edge gotos) each)
