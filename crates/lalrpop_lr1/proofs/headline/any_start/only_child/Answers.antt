use Rattle.std.proofs.Common.{◌≡◌, map, ap}
use Rattle.lalrpop_base.specs.Words.{Node, beside, no_trees, trees_of}
use Rattle.lalrpop_parser.specs.Words.{tree_of}
use Rattle.lalrpop_lr1.proofs.theory.runs.AnyStart.{last_of_one}
use Rattle.lalrpop_lr1.proofs.headline.any_start.only_child.Goals as goal

pub returns : goal.returns
returns c a t is =
    let children = c.in-Some.children.items in
    let one : trees_of (map tree_of children) ≡ beside t no_trees = c.in-Some.ensures a (beside t no_trees) is in
    last_of_one a a t children c.pop.new.self.items c.in-Some-pop.child (ap (λ ts. Node a ts) one) c.in-Some-pop.ensures.items
