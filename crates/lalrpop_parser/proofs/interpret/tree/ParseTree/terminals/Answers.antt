use Rattle.std.proofs.Common.{◌≡◌, ◌<◌, [], ◌∷◌, ◌++◌, map, reverse, ap, sym, subst, ◌∙◌, append_assoc, Bor}
use Rattle.std.proofs.lemmas.List.{map-append}
use Rattle.lalrpop_base.specs.Words.{Node, Leaf, leaves, nodes, trees_of}
use Rattle.lalrpop_parser.specs.Words.{tree_of}
use Rattle.lalrpop_parser.specs.declared.interpret.tree.ParseTree.{ParseTree}
use Rattle.lalrpop_parser.specs.declared.interpret.tree.ParseTree.TheOpen as Open
use Rattle.lalrpop_parser.specs.declared.interpret.tree.ParseTree.TheViews.{roll-ParseTree}
use denote.Hole.Carrier.{roll}
use Rattle.lalrpop_parser.proofs.theory.trees.TreeViews.{tree_of_roll}
use Rattle.lalrpop_parser.proofs.theory.trees.TreeLeaves.{leaf_read, leaf_fewer, node_read, node_fewer}
use Rattle.lalrpop_parser.proofs.interpret.tree.ParseTree.terminals.Goals as goal

pub loop-tree-smaller-in_ok-push_children-in-Nonterminal : goal.loop-tree-smaller-in_ok-push_children-in-Nonterminal
unfolding roll-ParseTree roll
loop-tree-smaller-in_ok-push_children-in-Nonterminal c =
    let f = λ (t : Bor ParseTree). tree_of t.now in
    let name = c.in-Nonterminal.field-0 in
    let children = c.in-Nonterminal.children in
    let front = map f c.pop.new.self.items in
    let seen : tree_of c.in-Some.tree.now ≡ Node name (trees_of (map tree_of children.items)) = ap tree_of c.in-Nonterminal.is ∙ tree_of_roll (Open.Nonterminal name children) in
    let popped : map f c.loop-tree.left.items ≡ front ++ Node name (trees_of (map tree_of children.items)) ∷ [] = ap (λ ts. map f ts) c.in-Some.ensures.items ∙ map-append f c.pop.new.self.items (c.in-Some.tree ∷ []) ∙ ap (λ t. front ++ t ∷ []) seen in
    subst (λ ts. nodes (trees_of (map f c.push_children.new.left.items)) < nodes (trees_of ts)) (sym popped)
    (subst (λ ts. nodes (trees_of ts) < nodes (trees_of (front ++ Node name (trees_of (map tree_of children.items)) ∷ []))) (sym c.in_ok-push_children-in-Nonterminal.ensures) (node_fewer front name (map tree_of children.items)))

pub loop-tree-preserved-in_ok-push_children-in-Nonterminal : goal.loop-tree-preserved-in_ok-push_children-in-Nonterminal
unfolding roll-ParseTree roll
loop-tree-preserved-in_ok-push_children-in-Nonterminal c =
    let f = λ (t : Bor ParseTree). tree_of t.now in
    let name = c.in-Nonterminal.field-0 in
    let children = c.in-Nonterminal.children in
    let front = map f c.pop.new.self.items in
    let seen : tree_of c.in-Some.tree.now ≡ Node name (trees_of (map tree_of children.items)) = ap tree_of c.in-Nonterminal.is ∙ tree_of_roll (Open.Nonterminal name children) in
    let popped : map f c.loop-tree.left.items ≡ front ++ Node name (trees_of (map tree_of children.items)) ∷ [] = ap (λ ts. map f ts) c.in-Some.ensures.items ∙ map-append f c.pop.new.self.items (c.in-Some.tree ∷ []) ∙ ap (λ t. front ++ t ∷ []) seen in
    let copied = c.loop-tree.list.items in
    ap (λ ts. copied ++ leaves (trees_of (reverse ts))) c.in_ok-push_children-in-Nonterminal.ensures
    ∙ ap (λ l. copied ++ l) (sym (node_read front name (map tree_of children.items)))
    ∙ ap (λ ts. copied ++ leaves (trees_of (reverse ts))) (sym popped)
    ∙ c.loop-tree.invariant

pub loop-tree-smaller : goal.loop-tree-smaller
unfolding roll-ParseTree roll
loop-tree-smaller c =
    let f = λ (t : Bor ParseTree). tree_of t.now in
    let front = map f c.pop.new.self.items in
    let terminal = c.in-Terminal.terminal in
    let seen : tree_of c.in-Some.tree.now ≡ Leaf terminal = ap tree_of c.in-Terminal.is ∙ tree_of_roll (Open.Terminal terminal) in
    let popped : map f c.loop-tree.left.items ≡ front ++ Leaf terminal ∷ [] = ap (λ ts. map f ts) c.in-Some.ensures.items ∙ map-append f c.pop.new.self.items (c.in-Some.tree ∷ []) ∙ ap (λ t. front ++ t ∷ []) seen in
    subst (λ ts. nodes (trees_of front) < nodes (trees_of ts)) (sym popped) (leaf_fewer front terminal)

pub loop-tree-preserved : goal.loop-tree-preserved
unfolding roll-ParseTree roll
loop-tree-preserved c =
    let f = λ (t : Bor ParseTree). tree_of t.now in
    let front = map f c.pop.new.self.items in
    let terminal = c.in-Terminal.terminal in
    let copied = c.loop-tree.list.items in
    let left = leaves (trees_of (reverse front)) in
    let seen : tree_of c.in-Some.tree.now ≡ Leaf terminal = ap tree_of c.in-Terminal.is ∙ tree_of_roll (Open.Terminal terminal) in
    let popped : map f c.loop-tree.left.items ≡ front ++ Leaf terminal ∷ [] = ap (λ ts. map f ts) c.in-Some.ensures.items ∙ map-append f c.pop.new.self.items (c.in-Some.tree ∷ []) ∙ ap (λ t. front ++ t ∷ []) seen in
    let pushed : c.push-in-Terminal.new.self.items ≡ copied ++ terminal ∷ [] = c.in_ok-push-in-Terminal.ensures.items ∙ ap (λ x. copied ++ x ∷ []) c.in_ok-clone-in-Terminal.ensures in
    ap (λ l. l ++ left) pushed
    ∙ append_assoc copied (terminal ∷ []) left
    ∙ ap (λ l. copied ++ l) (sym (leaf_read front terminal))
    ∙ ap (λ ts. copied ++ leaves (trees_of (reverse ts))) (sym popped)
    ∙ c.loop-tree.invariant
