-- Equality of trees, as a test.
use Rattle.std.specs.Prelude.{◌≡◌, Bool, true, false, ◌&&◌, refl}
use Rattle.std.proofs.Common.{sym, ap, ap₂, ◌∙◌}
use Rattle.std.specs.Cmp.{IsEquivalence, decided}
use Rattle.lalrpop_base.specs.Words.{Exactly, both, name_exact, Tree, Leaf, Node, Trees, no_trees, beside}
use Rattle.lalrpop_grammar.specs.contracts.repr.exact.TerminalStringExact.TheImpl as terminal_exact
use Rattle.lalrpop_grammar.specs.contracts.repr.NonterminalStringEq.TheImpl as name_laws
use Rattle.lalrpop_grammar.specs.contracts.repr.NonterminalStringPartialEq.TheImpl as name_eq
use Rattle.lalrpop_grammar.specs.contracts.repr.TerminalStringEq.TheImpl as terminal_laws
use Rattle.lalrpop_grammar.specs.contracts.repr.TerminalStringPartialEq.TheImpl as terminal_eq

-- lists of trees are equal: they are as long, and each two trees have equal roots and equal
-- children
abbrev pub equal_trees : Trees → Trees → Bool
equal_trees no_trees no_trees = true
equal_trees no_trees (beside u us) = false
equal_trees (beside t ts) no_trees = false
equal_trees (beside (Leaf t) ts) (beside (Leaf u) us) = terminal_eq.ghosts.eq t u && equal_trees ts us
equal_trees (beside (Leaf t) ts) (beside (Node b ds) us) = false
equal_trees (beside (Node a cs) ts) (beside (Leaf u) us) = false
equal_trees (beside (Node a cs) ts) (beside (Node b ds) us) = name_eq.ghosts.eq a b && (equal_trees cs ds && equal_trees ts us)

-- two trees are equal
abbrev pub equal_tree : Tree → Tree → Bool
equal_tree t u = equal_trees (beside t no_trees) (beside u no_trees)

-- if the test of two lists returns true, they are the same
pub trees_exact : Exactly equal_trees
trees_exact no_trees no_trees h = refl
trees_exact no_trees (beside u us) h = cc
trees_exact (beside (Leaf t) ts) no_trees h = cc
trees_exact (beside (Node a cs) ts) no_trees h = cc
trees_exact (beside (Leaf t) ts) (beside (Leaf u) us) h =
    let parts = both (terminal_eq.ghosts.eq t u) (equal_trees ts us) h in
    ap₂ (λ x xs. beside (Leaf x) xs) (terminal_exact.Laws.exact-law t u parts.0) (trees_exact ts us parts.1)
trees_exact (beside (Leaf t) ts) (beside (Node b ds) us) h = cc
trees_exact (beside (Node a cs) ts) (beside (Leaf u) us) h = cc
trees_exact (beside (Node a cs) ts) (beside (Node b ds) us) h =
    let first = both (name_eq.ghosts.eq a b) (equal_trees cs ds && equal_trees ts us) h in
    let second = both (equal_trees cs ds) (equal_trees ts us) first.1 in
    ap₂ (λ x xs. beside x xs) (ap₂ Node (name_exact a b first.0) (trees_exact cs ds second.0)) (trees_exact ts us second.1)

-- for one list twice the test returns true
pub trees_same : (ts : Trees) → equal_trees ts ts ≡ true
trees_same no_trees = refl
trees_same (beside (Leaf t) ts) = ap (λ b. b && equal_trees ts ts) (terminal_laws.Laws.laws-law.refl t) ∙ trees_same ts
trees_same (beside (Node a cs) ts) =
    ap (λ b. b && (equal_trees cs cs && equal_trees ts ts)) (name_laws.Laws.laws-law.refl a)
    ∙ ap (λ b. b && equal_trees ts ts) (trees_same cs)
    ∙ trees_same ts

-- the first of some trees, or the given tree if there is none
abbrev first_of : Tree → Trees → Tree
first_of t no_trees = t
first_of t (beside u us) = u

-- if the test of two trees returns true, they are the same
pub tree_exact : Exactly equal_tree
tree_exact t u h = ap (first_of t) (trees_exact (beside t no_trees) (beside u no_trees) h)

-- for trees that are the same the test returns true
pub tree_same : (t u : Tree) → t ≡ u → equal_tree t u ≡ true
tree_same t u e = ap (λ x. equal_tree t x) (sym e) ∙ trees_same (beside t no_trees)

-- the test of two trees is an equivalence
pub tree_equivalence : IsEquivalence equal_tree
tree_equivalence = decided equal_tree (λ t u. (tree_exact t u, tree_same t u))
