use Rattle.std.proofs.Common.{◌≡◌, ℕ, List, ap, arith, length}
use Rattle.std.proofs.lemmas.Option.{slice_get_read}
use Rattle.std.specs.Prelude.{set, slice_get, Some}
use Rattle.conflict_causes.specs.Keys.PutsInto.{known}
use Rattle.conflict_causes.proofs.causes.put_number.Goals as goal

pub returns-then-cause-len : goal.returns-then-cause-len
returns-then-cause-len c =
    let groups : List (List ℕ) = c.args.causes.now.items in
    let group : List ℕ = c.index_mut.result.now in
    let size : c.len.result ≡ length groups = omega arith in
    let at : slice_get groups c.args.cause ≡ Some group = slice_get_read groups c.len.result c.args.cause group size c.if-cause-len.true c.index_mut.ensures.value in
    known group at (ap (λ (g : List ℕ). set groups c.args.cause g) c.in_ok-push.ensures)
