use Rattle.std.proofs.Common.{◌≡◌, map, sym, ap, ◌∙◌}
use Rattle.lalrpop_base.specs.Words.{Node, trees_of}
use Rattle.lalrpop_parser.specs.Words.{forest_of, tree_of}
use Rattle.lalrpop_parser.specs.declared.interpret.tree.ParseTree.TheOpen as Open
use Rattle.lalrpop_parser.specs.declared.interpret.tree.ParseTree.TheViews.{roll-ParseTree}
use denote.Hole.Carrier.{roll}
use Rattle.lalrpop_parser.proofs.theory.trees.TreeViews.{tree_of_roll}
use Rattle.parse_pictures.specs.TreeLines.{empty_mark}
use Rattle.parse_pictures.proofs.lines.mark.Goals as goal

pub returns-in-Nonterminal : goal.returns-in-Nonterminal
unfolding roll-ParseTree roll
returns-in-Nonterminal c =
    let name = c.in-Nonterminal.field-0 in
    let children = c.in-Nonterminal.children in
    let seen : tree_of c.args.tree.now ≡ Node name (trees_of (map tree_of children.items)) = ap tree_of c.in-Nonterminal.is ∙ tree_of_roll (Open.Nonterminal name children) in
    c.node_mark.ensures name ∙ ap (λ l. empty_mark (Node name (forest_of l))) c.as_slice.ensures.value ∙ ap empty_mark (sym seen)
