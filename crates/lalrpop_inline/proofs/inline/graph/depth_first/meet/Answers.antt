use Rattle.std.proofs.Common.{◌≡◌, true, sym, ◌∙◌}
use Rattle.std.specs.BTreeSet.{contains}
use Rattle.lalrpop_base.specs.Words.{name_cmp}
use Rattle.lalrpop_inline.proofs.theory.inlining.InlineRings.{met}
use Rattle.lalrpop_inline.proofs.inline.graph.depth_first.meet.Goals as goal

pub returns-then-contains-clause-refused : goal.returns-then-contains-clause-refused
returns-then-contains-clause-refused c =
    let there : contains name_cmp c.args.walk.now.visiting c.args.name.now ≡ true = sym c.contains.ensures ∙ c.if-contains.true in
    λ lead. met c.args.grammar.now c.args.walk.now c.args.name.now c.in_ok-clone.field-0 c.span_of.result there c.in_ok-clone.ensures c.span_of.ensures lead
