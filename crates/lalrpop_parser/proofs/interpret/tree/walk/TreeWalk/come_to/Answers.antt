use Rattle.std.proofs.Common.{◌≡◌, ◌∷◌, [], List, Bor, map, reverse, ap, sym, ◌∙◌}
use Rattle.std.proofs.lemmas.List.{map-append, reverse-append}
use Rattle.lalrpop_base.specs.Words.{Node, Leaf, beside, trees_of}
use Rattle.lalrpop_parser.specs.Words.{around_of, enters, forest_of, steps_left, tree_of}
use Rattle.lalrpop_parser.specs.declared.interpret.tree.ParseTree.{ParseTree}
use Rattle.lalrpop_parser.specs.declared.interpret.tree.ParseTree.TheOpen as Open
use Rattle.lalrpop_parser.specs.declared.interpret.tree.ParseTree.TheViews.{roll-ParseTree}
use denote.Hole.Carrier.{roll}
use Rattle.lalrpop_parser.proofs.theory.trees.TreeSteps.{enters_first, meets_first}
use Rattle.lalrpop_parser.proofs.theory.trees.TreeViews.{tree_of_roll}
use Rattle.lalrpop_parser.proofs.interpret.tree.walk.TreeWalk.come_to.Goals as goal

pub returns-in_ok-push-in-Nonterminal : goal.returns-in_ok-push-in-Nonterminal
unfolding roll-ParseTree roll
returns-in_ok-push-in-Nonterminal c =
    let f = λ (trees : Bor (List ParseTree)). forest_of trees.now in
    let name = c.in-Nonterminal.name in
    let children = c.in-Nonterminal.children in
    let here = forest_of c.args.self.now.here.now in
    let around = c.args.self.now.around.items in
    let seen : tree_of c.args.tree.now ≡ Node name (trees_of (map tree_of children.items)) = ap tree_of c.in-Nonterminal.is ∙ tree_of_roll (Open.Nonterminal name children) in
    let pushed : reverse (map f c.push.new.self.items) ≡ here ∷ reverse (map f around) =
    ap (λ ts. reverse (map f ts)) c.in_ok-push-in-Nonterminal.ensures.items
    ∙ ap (λ ts. reverse ts) (map-append f around (c.args.self.now.here ∷ []))
    ∙ reverse-append (map f around) (here ∷ []) in
    ap (λ t. steps_left (beside t here) (around_of c.args.self.now)) seen
    ∙ enters_first name (trees_of (map tree_of children.items)) here (around_of c.args.self.now)
    ∙ ap (λ ts. enters name ∷ steps_left (trees_of (map tree_of children.items)) ts) (sym pushed)
    ∙ ap (λ ts. enters name ∷ steps_left (forest_of ts) (reverse (map f c.push.new.self.items))) (sym c.as_slice-self.ensures.value)

pub returns-in-Terminal : goal.returns-in-Terminal
unfolding roll-ParseTree roll
returns-in-Terminal c =
    let terminal = c.in-Terminal.terminal in
    let here = forest_of c.args.self.now.here.now in
    let seen : tree_of c.args.tree.now ≡ Leaf terminal = ap tree_of c.in-Terminal.is ∙ tree_of_roll (Open.Terminal terminal) in
    ap (λ t. steps_left (beside t here) (around_of c.args.self.now)) seen ∙ meets_first terminal here (around_of c.args.self.now)
