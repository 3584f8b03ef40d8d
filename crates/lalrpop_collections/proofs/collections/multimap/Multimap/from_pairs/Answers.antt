use Rattle.lalrpop_collections.proofs.theory.collections.MultimapLemmas.{pairs_and_one}
use Rattle.lalrpop_collections.proofs.collections.multimap.Multimap.from_pairs.Goals as goal

pub loop-key-preserved : goal.loop-key-preserved
loop-key-preserved g c =
    pairs_and_one g.C.Collection.is_empty g.C.Collection.pushes g.met.K.Ord.total c.loop-key.yielded c.in-Some.key c.in-Some.value c.loop-key.map c.push.new.self c.loop-key.invariant c.in_ok-push.ensures.pushed c.push.ensures.others
