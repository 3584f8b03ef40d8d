use Rattle.std.proofs.Common.{get_or, arith}
use Rattle.std.proofs.lemmas.Option.{slice_get-get_or}
use Rattle.conflict_causes.proofs.Extents.{no_tokens_added, tokens_added}
use Rattle.conflict_causes.proofs.causes.extent.add_tokens.Goals as goal

pub returns-in_ok-union_with : goal.returns-in_ok-union_with
returns-in_ok-union_with c =
    let conflicts = c.args.conflicts.now in
    let found = c.index-conflicts-number.result in
    let read = get_or conflicts c.args.number found in
    tokens_added conflicts c.args.number read c.args.set.now c.union_with.new.self
    (slice_get-get_or conflicts c.args.number found c.if-number-conflicts.true) c.in_ok-union_with.ensures.joined

pub returns-else-number-conflicts : goal.returns-else-number-conflicts
returns-else-number-conflicts c = no_tokens_added c.args.conflicts.now c.args.number c.args.set.now (λ less. absurd (omega (arith, less)))
