-- What the nodes of a tree tell.
use Rattle.std.proofs.Common.{◌≡◌, ◌↔◌, ℕ, suc, ◌+◌, List, [], ◌∷◌, ◌++◌, length, length-append, refl, sym, ap, ◌∙◌, arith}
use Rattle.lalrpop_base.specs.Words.{Leaf, Node, Tree, Trees, beside, leaves, no_trees, nodes}
use Rattle.lalrpop_grammar.specs.declared.repr.Production.{Production}
use Rattle.lalrpop_grammar.specs.declared.repr.TerminalString.{TerminalString}
use Rattle.parse_nodes.specs.Laws.{IsLeaf}
use Rattle.parse_nodes.specs.Nodes.{AreNodes, IsTerminalNode}
use Rattle.parse_nodes.specs.declared.node.ParseNode.{ParseNode}

abbrev last_or : ParseNode → List ParseNode → ParseNode
last_or n [] = n
last_or n (x ∷ xs) = last_or x xs

last_of : (below : List ParseNode) (n d : ParseNode) → last_or d (below ++ n ∷ []) ≡ n
last_of [] n d = refl
last_of (x ∷ xs) n d = last_of xs n x

module _ (terminals : List TerminalString) (productions : List Production) where
  -- trees in a row have as many nodes as the list
  pub counted : (listed : List ParseNode) (k : ℕ) (ts : Trees) → AreNodes terminals productions listed k ts → length listed ≡ nodes ts
  counted listed k no_trees none = ap length none
  counted listed k (beside (Leaf t) ts) row = ap length row.2 ∙ ap suc (counted row.1 (k + 1) ts row.4)
  counted listed k (beside (Node a children) ts) row =
      let whole = ap length row.3 in
      let parts = length-append row.0 (row.1 ∷ row.2) in
      let inner = counted row.0 k children row.5 in
      let rest = counted row.2 (k + length (leaves children)) ts row.6 in
      omega (arith, whole, parts, inner, rest)

  no_leaves : (ts : Trees) → nodes ts ≡ 0 → length (leaves ts) ≡ 0
  no_leaves no_trees e = refl
  no_leaves (beside (Leaf t) ts) e = absurd (omega (arith, e))
  no_leaves (beside (Node a children) ts) e = absurd (omega (arith, e))

  -- by the root of a tree it is seen whether it is a terminal
  pub told : (below : List ParseNode) (n : ParseNode) (k : ℕ) (t : Tree) → AreNodes terminals productions (below ++ n ∷ []) k (beside t no_trees) → IsTerminalNode n ↔ IsLeaf t
  told below n k (Leaf t) row =
      let same : n ≡ row.0 = sym (last_of below n n) ∙ ap (last_or n) (row.2 ∙ ap (λ zs. row.0 ∷ zs) row.4) in
      let size = ap (λ (x : ParseNode). x.size) same ∙ row.3.size in
      let first = ap (λ (x : ParseNode). x.first) same ∙ row.3.first in
      let end = ap (λ (x : ParseNode). x.end) same ∙ row.3.end in
      (λ is. tt, λ u. (size, λ e. omega (arith, first, end, e)))
  told below n k (Node a children) row =
      let same : n ≡ row.1 = sym (last_of below n n) ∙ ap (last_or n) (row.3 ∙ ap (λ zs. row.0 ++ row.1 ∷ zs) row.6) ∙ last_of row.0 row.1 n in
      let size = ap (λ (x : ParseNode). x.size) same ∙ row.4.size in
      let first = ap (λ (x : ParseNode). x.first) same ∙ row.4.first in
      let end = ap (λ (x : ParseNode). x.end) same ∙ row.4.end in
      let inner = counted row.0 k children row.5 in (
        λ is. is.1 (
            let one = is.0 in
            let none : nodes children ≡ 0 = omega (arith, one, size, inner) in
            let empty = no_leaves children none in
            omega (arith, first, end, empty)),
        λ bottom. absurd bottom,
      )
