use Rattle.std.proofs.Common.{◌≡◌, map, sym, ap, ◌∙◌}
use Rattle.lalrpop_base.specs.Words.{Node, trees_of}
use Rattle.lalrpop_parser.specs.Words.{tree_of}
use Rattle.lalrpop_parser.specs.declared.interpret.tree.ParseTree.TheOpen as Open
use Rattle.lalrpop_parser.specs.declared.interpret.tree.ParseTree.TheViews.{roll-ParseTree}
use denote.Hole.Carrier.{roll}
use Rattle.lalrpop_parser.proofs.theory.trees.TreeViews.{tree_of_roll, same_nodes}
use Rattle.lalrpop_parser.proofs.interpret.tree.comparison.+equal.Goals as goal

pub are_equal_by_depth-returns-then-equal : goal.are_equal_by_depth-returns-then-equal
unfolding roll-ParseTree roll
are_equal_by_depth-returns-then-equal t c =
    let a = c.in-Nonterminal-Nonterminal.a in
    let b = c.in-Nonterminal-Nonterminal.b in
    let ts = c.in-Nonterminal-Nonterminal.children in
    let us = c.in-Nonterminal-Nonterminal.others in
    let left : tree_of c.args.tree.now ≡ Node a (trees_of (map tree_of ts.items)) = ap tree_of c.in-Nonterminal-Nonterminal.is-0 ∙ tree_of_roll (Open.Nonterminal a ts) in
    let right : tree_of c.args.other.now ≡ Node b (trees_of (map tree_of us.items)) = ap tree_of c.in-Nonterminal-Nonterminal.is-1 ∙ tree_of_roll (Open.Nonterminal b us) in
    let same = same_nodes a b (map tree_of ts.items) (map tree_of us.items) (c.equal.ensures.0 c.if-equal.true) in (
      λ h. left ∙ same.1 (c.have_equal_by_depth.ensures.0 h) ∙ sym right,
      λ h. c.have_equal_by_depth.ensures.1 (same.0 (sym left ∙ h ∙ right)),
    )
