use Rattle.std.proofs.Common.{◌≡◌, ◌∷◌, [], map, reverse, ap, sym, ◌∙◌}
use Rattle.std.proofs.lemmas.List.{map-append, reverse-append}
use Rattle.lalrpop_ambiguity.specs.Words.{Node, Leaf, beside, trees_of}
use Rattle.lalrpop_ambiguity.specs.Words.{around_of, enters, forest_of, steps_left, tree_of}
use Rattle.lalrpop_ambiguity.specs.declared.derivation.walk.Rest.{Rest}
use Rattle.lalrpop_ambiguity.specs.declared.derivation.Derivation.TheOpen as Open
use Rattle.lalrpop_ambiguity.specs.declared.derivation.Derivation.TheViews.{roll-Derivation}
use denote.Hole.Carrier.{roll}
use Rattle.lalrpop_ambiguity.proofs.theory.derivations.Steps.{enters_first, meets_first}
use Rattle.lalrpop_ambiguity.proofs.theory.derivations.Views.{tree_of_roll}
use Rattle.lalrpop_ambiguity.proofs.derivation.walk.DerivationWalk.come_to.Goals as goal

pub returns-in_ok-push-in-Node : goal.returns-in_ok-push-in-Node
unfolding roll-Derivation roll
returns-in_ok-push-in-Node c =
    let f = λ (rest : Rest). forest_of rest.trees.now in
    let production = c.in-Node.production in
    let name = production.now in
    let children = c.in-Node.children in
    let here = forest_of c.args.self.now.here.trees.now in
    let around = c.args.self.now.around.items in
    let seen : tree_of c.args.tree.now ≡ Node name (trees_of (map tree_of children.items)) = ap tree_of c.in-Node.is ∙ tree_of_roll (Open.Node production children) in
    let pushed : reverse (map f c.push.new.self.items) ≡ here ∷ reverse (map f around) =
    ap (λ ts. reverse (map f ts)) c.in_ok-push-in-Node.ensures.items
    ∙ ap (λ ts. reverse ts) (map-append f around (c.args.self.now.here ∷ []))
    ∙ reverse-append (map f around) (here ∷ []) in
    ap (λ t. steps_left (beside t here) (around_of c.args.self.now)) seen
    ∙ enters_first name (trees_of (map tree_of children.items)) here (around_of c.args.self.now)
    ∙ ap (λ ts. enters name ∷ steps_left (trees_of (map tree_of children.items)) ts) (sym pushed)
    ∙ ap (λ ts. enters name ∷ steps_left (forest_of ts) (reverse (map f c.push.new.self.items))) (sym c.as_slice.ensures.value)

pub returns-in-Leaf : goal.returns-in-Leaf
unfolding roll-Derivation roll
returns-in-Leaf c =
    let symbol = c.in-Leaf.symbol in
    let here = forest_of c.args.self.now.here.trees.now in
    let seen : tree_of c.args.tree.now ≡ Leaf symbol = ap tree_of c.in-Leaf.is ∙ tree_of_roll (Open.Leaf symbol) in
    ap (λ t. steps_left (beside t here) (around_of c.args.self.now)) seen ∙ meets_first symbol here (around_of c.args.self.now)
