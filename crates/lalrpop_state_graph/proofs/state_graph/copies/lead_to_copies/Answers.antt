use Rattle.std.proofs.Common.{◌∙◌, ap, sym}
use Rattle.lalrpop_state_graph.proofs.Types.{StateIndex}
use Rattle.lalrpop_base.specs.Words.{number_in, retargeted_all}
use Rattle.lalrpop_state_graph.proofs.theory.graphs.GraphCopies.{unmoved_more}
use Rattle.lalrpop_collections.proofs.theory.lists.Updates.{keys_differ}
use Rattle.lalrpop_state_graph.proofs.state_graph.copies.lead_to_copies.Goals as goal

pub loop-key-preserved : goal.loop-key-preserved
loop-key-preserved g c = λ unmoved.
    let same = sym (ap (λ (i : StateIndex). i.0) c.renumbered-original.ensures) ∙ c.if-original-target.false in
    c.loop-key.invariant (unmoved_more c.args.originals.now _ _ c.in-Some._key.now c.in-Some.target.now c.in-Some.ensures.steps same unmoved)

pub returns-then-original-target-clause-differ : goal.returns-then-original-target-clause-differ
returns-then-original-target-clause-differ g c = keys_differ g.K.Ord.cmp g.met.K.Ord.total c.args.targets.now.entries c.iter-key-items.ensures.ordered

pub returns-clause-none : goal.returns-clause-none
returns-clause-none g c = λ no.
    let none = c.in-None.ensures.steps.0 in
    c.loop-key.invariant (ap (retargeted_all (number_in c.args.originals.now)) none ∙ sym none)

pub returns-clause-differ : goal.returns-clause-differ
returns-clause-differ g c = keys_differ g.K.Ord.cmp g.met.K.Ord.total c.args.targets.now.entries c.iter-key-items.ensures.ordered
