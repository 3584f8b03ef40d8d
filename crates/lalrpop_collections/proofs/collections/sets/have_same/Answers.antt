use Rattle.std.proofs.Common.{refl}
use Rattle.lalrpop_collections.proofs.theory.lists.CheckSets.{same_of, subset_of, superset_of}
use Rattle.lalrpop_collections.proofs.theory.lists.Updates.{exact_order}
use Rattle.lalrpop_collections.proofs.collections.sets.have_same.Goals as goal

pub returns-then-is_subset : goal.returns-then-is_subset
returns-then-is_subset g c =
    let exact = exact_order g.K.PartialEq.eq g.K.Ord.cmp g.met.K.Exact.exact g.met.K.Ord.matches_eq in (
      λ h. same_of g.K.Ord.cmp g.met.K.Ord.total exact c.args.a.now c.args.b.now (c.if-is_subset.ensures.0 refl) (c.is_subset-then-is_subset.ensures.0 h),
      λ h. c.is_subset-then-is_subset.ensures.1 (superset_of g.K.Ord.cmp g.met.K.Ord.total exact c.args.a.now c.args.b.now h),
    )

pub returns-else-is_subset : goal.returns-else-is_subset
returns-else-is_subset g c =
    let exact = exact_order g.K.PartialEq.eq g.K.Ord.cmp g.met.K.Exact.exact g.met.K.Ord.matches_eq in (
      λ h. cc,
      λ h. c.is_subset.ensures.1 (subset_of g.K.Ord.cmp g.met.K.Ord.total exact c.args.a.now c.args.b.now h),
    )
