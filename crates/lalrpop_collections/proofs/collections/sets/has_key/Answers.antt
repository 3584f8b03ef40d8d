use Rattle.std.proofs.lemmas.Map.Views.{btree_set_contains_iff}
use Rattle.lalrpop_collections.proofs.theory.lists.Updates.{exact_order}
use Rattle.lalrpop_collections.proofs.collections.sets.has_key.Goals as goal

pub returns : goal.returns
returns g c =
    let exact = exact_order g.K.PartialEq.eq g.K.Ord.cmp g.met.K.Exact.exact g.met.K.Ord.matches_eq in
    let is = btree_set_contains_iff g.met.K.Ord.total exact c.args.set.now c.args.key.now in
    (λ h. is.0 (rw (← c.contains.ensures) h), λ h. rw c.contains.ensures (is.1 h))
