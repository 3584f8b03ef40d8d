use Rattle.std.proofs.Common.{◌≡◌, map, sym, ap, ◌∙◌}
use Rattle.lalrpop_ambiguity.specs.Words.{Node, trees_of}
use Rattle.lalrpop_ambiguity.specs.Words.{tree_of}
use Rattle.lalrpop_ambiguity.specs.declared.derivation.Derivation.TheOpen as Open
use Rattle.lalrpop_ambiguity.specs.declared.derivation.Derivation.TheViews.{roll-Derivation}
use denote.Hole.Carrier.{roll}
use Rattle.lalrpop_ambiguity.proofs.theory.derivations.Views.{tree_of_roll, same_nodes}
use Rattle.lalrpop_ambiguity.proofs.derivation.comparison.are_equal.Goals as goal

pub returns-then-equal : goal.returns-then-equal
unfolding roll-Derivation roll
returns-then-equal c =
    let p = c.in-Node-Node.p in
    let q = c.in-Node-Node.q in
    let ts = c.in-Node-Node.children in
    let us = c.in-Node-Node.others in
    let left : tree_of c.args.tree.now ≡ Node p.now (trees_of (map tree_of ts.items)) = ap tree_of c.in-Node-Node.is-0 ∙ tree_of_roll (Open.Node p ts) in
    let right : tree_of c.args.other.now ≡ Node q.now (trees_of (map tree_of us.items)) = ap tree_of c.in-Node-Node.is-1 ∙ tree_of_roll (Open.Node q us) in
    let same = same_nodes p.now q.now (map tree_of ts.items) (map tree_of us.items) (c.equal.ensures.0 c.if-equal.true) in (
      λ h. left ∙ same.1 (c.have_equal.ensures.0 h) ∙ sym right,
      λ h. c.have_equal.ensures.1 (same.0 (sym left ∙ h ∙ right)),
    )
