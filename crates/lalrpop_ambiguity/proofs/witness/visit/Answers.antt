use Rattle.std.proofs.Common.{◌≡◌, ◌<◌, ◌∙◌, [], ◌∷◌, ◌++◌, List, map, reverse, ap, sym, subst, refl}
use Rattle.std.proofs.lemmas.Bool.{false≢true}
use Rattle.lalrpop_grammar.specs.Words.{productions}
use Rattle.lalrpop_ambiguity.specs.Words.{AreOfGrammar, IsExpansion, Leaf, Node, Tree, beside, no_trees, nodes, roots_of, tree_of, trees_at, trees_of}
use Rattle.lalrpop_ambiguity.specs.declared.derivation.Derivation.TheOpen as Open
use Rattle.lalrpop_ambiguity.specs.declared.derivation.Derivation.TheViews.{roll-Derivation}
use denote.Hole.Carrier.{roll}
use Rattle.lalrpop_ambiguity.proofs.theory.derivations.Leaves.{leaf_fewer, node_fewer}
use Rattle.lalrpop_ambiguity.proofs.theory.derivations.Views.{tree_of_roll}
use Rattle.lalrpop_ambiguity.proofs.theory.witnesses.OwnNodes.{own_leaf, own_node, roots_seen}
use Rattle.lalrpop_ambiguity.proofs.witness.visit.Goals as goal

pub returns-then-not-is_expansion-clause-other : goal.returns-then-not-is_expansion-clause-other
unfolding roll-Derivation roll
returns-then-not-is_expansion-clause-other c h own =
    let g = productions c.args.grammar.now in
    let p = c.in-Node.production.now in
    let ds = c.in-Node.children.items in
    let seen : tree_of c.args.tree.now ≡ Node p (trees_of (map tree_of ds)) = ap tree_of c.in-Node.is ∙ tree_of_roll (Open.Node c.in-Node.production c.in-Node.children) in
    let here = subst (λ (t : Tree). AreOfGrammar g (beside t no_trees)) seen own in
    false≢true (c.if-not-is_expansion.ensures.1 (here.0, here.1 ∙ roots_seen ds))

pub returns-in_ok-push_children-in-Node-clause-own : goal.returns-in_ok-push_children-in-Node-clause-own
unfolding roll-Derivation roll
returns-in_ok-push_children-in-Node-clause-own c h =
    let g = productions c.args.grammar.now in
    let front = trees_at c.args.left.now.items in
    let p = c.in-Node.production.now in
    let ds = c.in-Node.children.items in
    let seen : tree_of c.args.tree.now ≡ Node p (trees_of (map tree_of ds)) = ap tree_of c.in-Node.is ∙ tree_of_roll (Open.Node c.in-Node.production c.in-Node.children) in
    let given : IsExpansion g p (roots_of ds) = c.if-not-is_expansion.ensures.0 refl in
    let both = own_node g front p (map tree_of ds) given.0 (given.1 ∙ sym (roots_seen ds)) in
    let pushed : trees_at c.push_children.new.left.items ≡ front ++ reverse (map tree_of ds) = c.in_ok-push_children-in-Node.ensures in (
      λ k. subst (λ (t : Tree). AreOfGrammar g (trees_of (front ++ t ∷ []))) (sym seen) (both.0 (subst (λ (ts : List Tree). AreOfGrammar g (trees_of ts)) pushed k)),
      λ k. subst (λ (ts : List Tree). AreOfGrammar g (trees_of ts)) (sym pushed) (both.1 (subst (λ (t : Tree). AreOfGrammar g (trees_of (front ++ t ∷ []))) seen k)),
    )

pub returns-in_ok-push_children-in-Node-clause-fewer : goal.returns-in_ok-push_children-in-Node-clause-fewer
unfolding roll-Derivation roll
returns-in_ok-push_children-in-Node-clause-fewer c h =
    let front = trees_at c.args.left.now.items in
    let p = c.in-Node.production.now in
    let ds = c.in-Node.children.items in
    let seen : tree_of c.args.tree.now ≡ Node p (trees_of (map tree_of ds)) = ap tree_of c.in-Node.is ∙ tree_of_roll (Open.Node c.in-Node.production c.in-Node.children) in
    subst (λ (ts : List Tree). nodes (trees_of ts) < nodes (trees_of (front ++ tree_of c.args.tree.now ∷ []))) (sym c.in_ok-push_children-in-Node.ensures)
    (subst (λ (t : Tree). nodes (trees_of (front ++ reverse (map tree_of ds))) < nodes (trees_of (front ++ t ∷ []))) (sym seen) (node_fewer front p (map tree_of ds)))

pub returns-in-Leaf-clause-own : goal.returns-in-Leaf-clause-own
unfolding roll-Derivation roll
returns-in-Leaf-clause-own c h =
    let g = productions c.args.grammar.now in
    let front = trees_at c.args.left.now.items in
    let x = c.in-Leaf.field-0 in
    let seen : tree_of c.args.tree.now ≡ Leaf x = ap tree_of c.in-Leaf.is ∙ tree_of_roll (Open.Leaf x) in
    let both = own_leaf g front x in (
      λ k. subst (λ (t : Tree). AreOfGrammar g (trees_of (front ++ t ∷ []))) (sym seen) (both.0 k),
      λ k. both.1 (subst (λ (t : Tree). AreOfGrammar g (trees_of (front ++ t ∷ []))) seen k),
    )

pub returns-in-Leaf-clause-fewer : goal.returns-in-Leaf-clause-fewer
unfolding roll-Derivation roll
returns-in-Leaf-clause-fewer c h =
    let front = trees_at c.args.left.now.items in
    let x = c.in-Leaf.field-0 in
    let seen : tree_of c.args.tree.now ≡ Leaf x = ap tree_of c.in-Leaf.is ∙ tree_of_roll (Open.Leaf x) in
    subst (λ (t : Tree). nodes (trees_of front) < nodes (trees_of (front ++ t ∷ []))) (sym seen) (leaf_fewer front x)
