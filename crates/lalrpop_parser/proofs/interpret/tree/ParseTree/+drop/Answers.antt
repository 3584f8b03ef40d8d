use Rattle.std.proofs.Common.{◌≡◌, ◌<◌, [], sym, subst, rules}
use denote.Param.Weighed.{most}
use Rattle.lalrpop_parser.proofs.theory.trees.DroppedTrees.{bare_node, some_depth}
use Rattle.lalrpop_parser.proofs.interpret.tree.ParseTree.TheLaws.{the_size}
use Rattle.lalrpop_parser.proofs.interpret.tree.ParseTree.+drop.Goals as goal

-- a node alone has no children, so none of them is dropped in turn
pub drop-children-requires : goal.drop-children-requires
drop-children-requires t c =
    let here = c.in-Nonterminal-self in
    let none : here._children.items ≡ [] = bare_node c.go_down.new.self here.field-0 here._children here.is c.go_down.ensures.bare in
    let least : 0 < t = subst (λ n. 0 < n) c.decreases (some_depth c.args.self) in
    λ κs. (((subst (λ xs. most the_size xs < t) (sym none) least, tt), tt), search rules)
