use Rattle.std.proofs.Common.{◌≡◌, ◌<◌, ◌∙◌, [], ◌∷◌, ◌++◌, Bor, List, map, reverse, ap, sym, subst, append_assoc}
use Rattle.std.proofs.lemmas.List.{map-append}
use Rattle.lalrpop_ambiguity.specs.Words.{Leaf, Node, Tree, leaves, nodes, trees_of}
use Rattle.lalrpop_ambiguity.specs.Words.{symbols_at, tree_of, trees_at}
use Rattle.lalrpop_ambiguity.specs.declared.derivation.Derivation.TheOpen as Open
use Rattle.lalrpop_ambiguity.specs.declared.derivation.Derivation.TheViews.{roll-Derivation}
use denote.Hole.Carrier.{roll}
use Rattle.lalrpop_ambiguity.proofs.Types.{Symbol}
use Rattle.lalrpop_ambiguity.proofs.theory.derivations.Leaves.{leaf_fewer, leaf_read, node_fewer, node_read}
use Rattle.lalrpop_ambiguity.proofs.theory.derivations.Views.{tree_of_roll}
use Rattle.lalrpop_ambiguity.proofs.derivation.read.Goals as goal

pub returns-in_ok-push_children-in-Node-clause-leaves : goal.returns-in_ok-push_children-in-Node-clause-leaves
unfolding roll-Derivation roll
returns-in_ok-push_children-in-Node-clause-leaves c =
    let front = trees_at c.args.left.now.items in
    let children = map tree_of c.in-Node.children.items in
    let seen : tree_of c.args.tree.now ≡ Node c.in-Node.field-0.now (trees_of children) = ap tree_of c.in-Node.is ∙ tree_of_roll (Open.Node c.in-Node.field-0 c.in-Node.children) in
    ap (λ (ts : List Tree). symbols_at c.args.list.now.items ++ leaves (trees_of (reverse ts))) c.in_ok-push_children-in-Node.ensures
    ∙ ap (λ (l : List Symbol). symbols_at c.args.list.now.items ++ l) (sym (node_read front c.in-Node.field-0.now children))
    ∙ ap (λ (t : Tree). symbols_at c.args.list.now.items ++ leaves (trees_of (reverse (front ++ t ∷ [])))) (sym seen)

pub returns-in_ok-push_children-in-Node-clause-fewer : goal.returns-in_ok-push_children-in-Node-clause-fewer
unfolding roll-Derivation roll
returns-in_ok-push_children-in-Node-clause-fewer c =
    let front = trees_at c.args.left.now.items in
    let children = map tree_of c.in-Node.children.items in
    let seen : tree_of c.args.tree.now ≡ Node c.in-Node.field-0.now (trees_of children) = ap tree_of c.in-Node.is ∙ tree_of_roll (Open.Node c.in-Node.field-0 c.in-Node.children) in
    subst (λ (ts : List Tree). nodes (trees_of ts) < nodes (trees_of (front ++ tree_of c.args.tree.now ∷ []))) (sym c.in_ok-push_children-in-Node.ensures)
    (subst (λ (t : Tree). nodes (trees_of (front ++ reverse children)) < nodes (trees_of (front ++ t ∷ []))) (sym seen) (node_fewer front c.in-Node.field-0.now children))

pub returns-in_ok-push-in-Leaf-clause-leaves : goal.returns-in_ok-push-in-Leaf-clause-leaves
unfolding roll-Derivation roll
returns-in_ok-push-in-Leaf-clause-leaves c =
    let front = trees_at c.args.left.now.items in
    let x = c.in-Leaf.symbol in
    let before = symbols_at c.args.list.now.items in
    let seen : tree_of c.args.tree.now ≡ Leaf x = ap tree_of c.in-Leaf.is ∙ tree_of_roll (Open.Leaf x) in
    let pushed : symbols_at c.push.new.self.items ≡ before ++ x ∷ [] = ap symbols_at c.in_ok-push-in-Leaf.ensures.items ∙ map-append (λ (y : Bor Symbol). y.now) c.args.list.now.items _ in
    ap (λ (l : List Symbol). l ++ leaves (trees_of (reverse front))) pushed
    ∙ append_assoc before (x ∷ []) (leaves (trees_of (reverse front)))
    ∙ ap (λ (l : List Symbol). before ++ l) (sym (leaf_read front x))
    ∙ ap (λ (t : Tree). before ++ leaves (trees_of (reverse (front ++ t ∷ [])))) (sym seen)

pub returns-in_ok-push-in-Leaf-clause-fewer : goal.returns-in_ok-push-in-Leaf-clause-fewer
unfolding roll-Derivation roll
returns-in_ok-push-in-Leaf-clause-fewer c =
    let front = trees_at c.args.left.now.items in
    let x = c.in-Leaf.symbol in
    let seen : tree_of c.args.tree.now ≡ Leaf x = ap tree_of c.in-Leaf.is ∙ tree_of_roll (Open.Leaf x) in
    subst (λ (t : Tree). nodes (trees_of front) < nodes (trees_of (front ++ t ∷ []))) (sym seen) (leaf_fewer front x)
