use Rattle.std.proofs.Common.{◌≡◌, ◌<◌, [], ◌∷◌, ◌++◌, List, reverse, ap, sym, subst, ◌∙◌, Bor}
use Rattle.std.proofs.lemmas.List.{map-append}
use Rattle.lalrpop_ambiguity.specs.Words.{Tree, leaves, nodes, trees_of}
use Rattle.lalrpop_ambiguity.specs.Words.{symbols_at, tree_of, trees_at}
use Rattle.lalrpop_ambiguity.specs.declared.derivation.Derivation.{Derivation}
use Rattle.lalrpop_ambiguity.proofs.derivation.Derivation.leaves.Goals as goal

pub loop-tree-smaller : goal.loop-tree-smaller
loop-tree-smaller c =
    let popped : trees_at c.loop-tree.left.items ≡ trees_at c.pop.new.self.items ++ tree_of c.in-Some.tree.now ∷ [] = ap trees_at c.in-Some.ensures.items ∙ map-append (λ (t : Bor Derivation). tree_of t.now) c.pop.new.self.items (c.in-Some.tree ∷ []) in
    subst (λ (ts : List Tree). nodes (trees_of (trees_at c.read.new.left.items)) < nodes (trees_of ts)) (sym popped) c.in_ok-read.ensures.fewer

pub loop-tree-preserved : goal.loop-tree-preserved
loop-tree-preserved c =
    let popped : trees_at c.loop-tree.left.items ≡ trees_at c.pop.new.self.items ++ tree_of c.in-Some.tree.now ∷ [] = ap trees_at c.in-Some.ensures.items ∙ map-append (λ (t : Bor Derivation). tree_of t.now) c.pop.new.self.items (c.in-Some.tree ∷ []) in
    c.in_ok-read.ensures.leaves ∙ ap (λ (ts : List Tree). symbols_at c.loop-tree.list.items ++ leaves (trees_of (reverse ts))) (sym popped) ∙ c.loop-tree.invariant
