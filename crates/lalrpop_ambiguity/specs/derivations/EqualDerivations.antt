-- Equality of derivation trees, as a test.
use Rattle.std.specs.Prelude.{◌≡◌, Bool, true, false, ◌&&◌, refl}
use Rattle.std.proofs.Common.{sym, ap, ap₂, ◌∙◌}
use Rattle.std.specs.Cmp.{IsEquivalence, decided}
use Rattle.lalrpop_collections.specs.lists.Exact.{Exactly, both}
use Rattle.lalrpop_grammar.specs.contracts.repr.exact.SymbolExact.TheImpl as symbol_exact
use Rattle.lalrpop_grammar.specs.contracts.repr.exact.ProductionExact.TheImpl as production_exact
use Rattle.lalrpop_grammar.specs.contracts.repr.SymbolEq.TheImpl as symbol_laws
use Rattle.lalrpop_grammar.specs.contracts.repr.SymbolPartialEq.TheImpl as symbol_eq
use Rattle.lalrpop_grammar.specs.contracts.repr.ProductionEq.TheImpl as production_laws
use Rattle.lalrpop_grammar.specs.contracts.repr.ProductionPartialEq.TheImpl as production_eq
use Rattle.lalrpop_ambiguity.specs.derivations.Derivations.{Tree, Leaf, Node, Trees, no_trees, beside}

-- lists of trees are equal: they are as long, and each two trees have equal roots and equal
-- children
abbrev pub equal_trees : Trees → Trees → Bool
equal_trees no_trees no_trees = true
equal_trees no_trees (beside u us) = false
equal_trees (beside t ts) no_trees = false
equal_trees (beside (Leaf x) ts) (beside (Leaf y) us) = symbol_eq.ghosts.eq x y && equal_trees ts us
equal_trees (beside (Leaf x) ts) (beside (Node q ds) us) = false
equal_trees (beside (Node p cs) ts) (beside (Leaf y) us) = false
equal_trees (beside (Node p cs) ts) (beside (Node q ds) us) = production_eq.ghosts.eq p q && (equal_trees cs ds && equal_trees ts us)

-- two trees are equal
abbrev pub equal_tree : Tree → Tree → Bool
equal_tree t u = equal_trees (beside t no_trees) (beside u no_trees)

-- if the test of two lists returns true, they are the same
pub trees_exact : Exactly equal_trees
trees_exact no_trees no_trees h = refl
trees_exact no_trees (beside u us) h = cc
trees_exact (beside (Leaf x) ts) no_trees h = cc
trees_exact (beside (Node p cs) ts) no_trees h = cc
trees_exact (beside (Leaf x) ts) (beside (Leaf y) us) h =
    let parts = both (symbol_eq.ghosts.eq x y) (equal_trees ts us) h in
    ap₂ (λ z zs. beside (Leaf z) zs) (symbol_exact.Laws.exact-law x y parts.0) (trees_exact ts us parts.1)
trees_exact (beside (Leaf x) ts) (beside (Node q ds) us) h = cc
trees_exact (beside (Node p cs) ts) (beside (Leaf y) us) h = cc
trees_exact (beside (Node p cs) ts) (beside (Node q ds) us) h =
    let first = both (production_eq.ghosts.eq p q) (equal_trees cs ds && equal_trees ts us) h in
    let second = both (equal_trees cs ds) (equal_trees ts us) first.1 in
    ap₂ (λ z zs. beside z zs) (ap₂ Node (production_exact.Laws.exact-law p q first.0) (trees_exact cs ds second.0)) (trees_exact ts us second.1)

-- for one list twice the test returns true
pub trees_same : (ts : Trees) → equal_trees ts ts ≡ true
trees_same no_trees = refl
trees_same (beside (Leaf x) ts) = ap (λ b. b && equal_trees ts ts) (symbol_laws.Laws.laws-law.refl x) ∙ trees_same ts
trees_same (beside (Node p cs) ts) =
    ap (λ b. b && (equal_trees cs cs && equal_trees ts ts)) (production_laws.Laws.laws-law.refl p)
    ∙ ap (λ b. b && equal_trees ts ts) (trees_same cs)
    ∙ trees_same ts

-- the first of some trees, or the given tree if there is none
abbrev first_of : Tree → Trees → Tree
first_of t no_trees = t
first_of t (beside u us) = u

-- if the test of two trees returns true, they are the same
pub tree_exact : Exactly equal_tree
tree_exact t u h = ap (first_of t) (trees_exact (beside t no_trees) (beside u no_trees) h)

-- for trees that are the same the test returns true
pub tree_same : (t u : Tree) → t ≡ u → equal_tree t u ≡ true
tree_same t u e = ap (λ x. equal_tree t x) (sym e) ∙ trees_same (beside t no_trees)

-- the test of two trees is an equivalence
pub tree_equivalence : IsEquivalence equal_tree
tree_equivalence = decided equal_tree (λ t u. (tree_exact t u, tree_same t u))
