use Rattle.std.proofs.Common.{◌∙◌, ap, sym}
use Rattle.lalrpop_base.specs.Words.{Bits, join}
use Rattle.lalrpop_collections.proofs.theory.lists.Places.{slice_get_at}
use Rattle.canonical_by_number.specs.TokenSets.{set_at}
use Rattle.canonical_by_number.proofs.TokenSets.{set_is}
use Rattle.canonical_by_number.proofs.token_sets.union_of.Goals as goal

pub returns : goal.returns
returns c =
    let keys = c.args.list.now.keys in
    let same = c.as_slice-sets.ensures.keys in
    let first = set_is keys c.args.first c.index-sets-first.result (slice_get_at keys c.args.first c.index-sets-first.result c.requires.first (rw same at c.index-sets-first.is)) in
    let second = set_is keys c.args.second c.index-sets-second.result (slice_get_at keys c.args.second c.index-sets-second.result c.requires.second (rw same at c.index-sets-second.is)) in
    c.in_ok-union_with.ensures.joined ∙ ap (λ (s : Bits). join s c.index-sets-second.result) (c.in_ok-union.ensures ∙ sym first) ∙ ap (λ (s : Bits). join (set_at keys c.args.first) s) (sym second)
