use Rattle.lalrpop_collections.proofs.theory.lists.CheckSets.{inserted, keys_differ, told}
use Rattle.lalrpop_collections.proofs.theory.lists.Updates.{exact_order}
use Rattle.lalrpop_collections.proofs.collections.sets.add_key.Goals as goal

pub returns-clause-added : goal.returns-clause-added
returns-clause-added g c =
    let exact = exact_order g.K.PartialEq.eq g.K.Ord.cmp g.met.K.Exact.exact g.met.K.Ord.matches_eq in
    inserted g.K.Ord.cmp g.met.K.Ord.total exact c.args.key _ _ c.in_ok-insert.ensures.keys

pub returns-clause-told : goal.returns-clause-told
returns-clause-told g c =
    let exact = exact_order g.K.PartialEq.eq g.K.Ord.cmp g.met.K.Exact.exact g.met.K.Ord.matches_eq in
    told g.K.Ord.cmp g.met.K.Ord.total exact c.in_ok-insert.field-0 c.args.key c.args.set.now c.insert.new.self c.in_ok-insert.ensures.added c.in_ok-insert.ensures.len

pub returns-clause-differ : goal.returns-clause-differ
returns-clause-differ g c =
    let exact = exact_order g.K.PartialEq.eq g.K.Ord.cmp g.met.K.Exact.exact g.met.K.Ord.matches_eq in
    keys_differ g.K.Ord.cmp g.met.K.Ord.total exact _ c.in_ok-insert.ensures.ordered
