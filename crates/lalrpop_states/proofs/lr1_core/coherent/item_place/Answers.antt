use Rattle.std.proofs.Common.{refl}
use Rattle.std.proofs.lemmas.Option.{slice_get_read}
use Rattle.lalrpop_collections.proofs.theory.lists.EachLemmas.{each_below_more, each_of_below}
use Rattle.lalrpop_states.proofs.lr1_core.coherent.item_place.Goals as goal

pub returns-then-is_at-clause-found : goal.returns-then-is_at-clause-found
returns-then-is_at-clause-found g c =
    (c.loop-place.place, c.index-items-place.result, slice_get_read _ _ _ _ refl c.loop-place-test.true c.index-items-place.is, c.is_at.ensures.0 c.if-is_at.true)

pub loop-place-preserved : goal.loop-place-preserved
loop-place-preserved g c = λ start.
    each_below_more _ _ _ _ c.loop-place-test.true c.index-items-place.is (λ at. let yes = c.if-is_at.ensures.1 at in cc) (c.loop-place.invariant start)

pub returns-clause-absent : goal.returns-clause-absent
returns-clause-absent g c = λ none start (k, item, there, at).
    absurd (each_of_below _ _ _ c.loop-place-test.false (c.loop-place.invariant start) k item there at)
