use Rattle.std.proofs.Common.{◌∙◌, ap, sym}
use Rattle.lalrpop_base.specs.Words.{Bits}
use Rattle.lalrpop_states.specs.conflicts.StateConflicts.{share}
use Rattle.lalrpop_states.proofs.theory.conflicts.ConflictCounts.{share_is}
use Rattle.canonical_by_number.specs.TokenSets.{set_at}
use Rattle.canonical_by_number.proofs.TokenSets.{set_is}
use Rattle.canonical_by_number.proofs.token_sets.TokenSets.share.Goals as goal

pub returns : goal.returns
returns c =
    let sets = c.args.self.now in
    let first = set_is sets c.args.first c.set.result.now c.set.ensures in
    let second = set_is sets c.args.second c.set-2.result.now c.set-2.ensures in
    share_is c.set.result.now c.set-2.result.now c.is_intersecting.result c.is_intersecting.ensures.yes c.is_intersecting.ensures.no
    ∙ ap (λ (s : Bits). share s c.set-2.result.now) (sym first) ∙ ap (λ (s : Bits). share (set_at sets c.args.first) s) (sym second)
