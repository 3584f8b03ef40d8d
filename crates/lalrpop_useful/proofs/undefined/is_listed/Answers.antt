use Rattle.std.proofs.Common.{arith}
use Rattle.std.proofs.lemmas.Option.{slice_get_within}
use Rattle.lalrpop_collections.proofs.theory.lists.Lists.{contains_of_map, contains_place}
use Rattle.lalrpop_useful.proofs.theory.useful.Undefined.{Use}
use Rattle.lalrpop_useful.proofs.undefined.is_listed.Goals as goal

pub returns : goal.returns
returns c = (
  λ h. cc,
  λ d.
      let r = contains_of_map (λ (u : Use). u.0) c.args.uses.now c.args.name.now d in
      let at = contains_place c.args.uses.now r.0 r.1 in
      absurd (c.loop-listed.invariant at.0 r.0 (omega (arith, slice_get_within c.args.uses.now at.0 r.0 at.1, c.loop-listed-test.false)) at.1 r.2),
)
