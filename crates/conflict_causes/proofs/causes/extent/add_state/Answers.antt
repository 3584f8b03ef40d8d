use Rattle.std.proofs.Common.{get_or, arith}
use Rattle.std.proofs.lemmas.Option.{slice_get-get_or}
use Rattle.conflict_causes.proofs.Extents.{no_state_added, state_added}
use Rattle.conflict_causes.proofs.causes.extent.add_state.Goals as goal

pub returns-in_ok-insert : goal.returns-in_ok-insert
returns-in_ok-insert c =
    let conflicts = c.args.conflicts.now in
    let found = c.index-conflicts-number.result in
    let read = get_or conflicts c.args.number found in
    state_added conflicts c.args.number read c.args.set.now.keys c.insert.new.self.keys
    (slice_get-get_or conflicts c.args.number found c.if-number-conflicts.true) c.in_ok-insert.ensures.keys

pub returns-else-number-conflicts : goal.returns-else-number-conflicts
returns-else-number-conflicts c = no_state_added c.args.conflicts.now c.args.number c.args.set.now.keys (λ less. absurd (omega (arith, less)))
