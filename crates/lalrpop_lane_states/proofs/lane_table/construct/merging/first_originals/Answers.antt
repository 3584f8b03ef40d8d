use Rattle.std.proofs.Common.{ℕ, ◌<◌, List, get_or, length, refl}
use Rattle.std.proofs.lemmas.Option.{slice_get-get_or}
use Rattle.lalrpop_lane_states.proofs.theory.lane_states.Resolving.{originals_more}
use Rattle.lalrpop_lane_states.proofs.lane_table.construct.merging.first_originals.Goals as goal

pub bounds-first-original : goal.bounds-first-original
bounds-first-original c =
    let originals : List ℕ = c.args.originals.now in
    let k = c.loop-original.original-index in
    c.requires k (get_or originals k 0) (slice_get-get_or originals k 0 c.loop-original-test.true)

pub loop-original-preserved : goal.loop-original-preserved
loop-original-preserved c =
    let first : List ℕ = c.args.first.now in
    let originals : List ℕ = c.args.originals.now in
    let k = c.loop-original.original-index in
    let o : ℕ = get_or originals k 0 in
    let within : o < length first = c.requires k o (slice_get-get_or originals k 0 c.loop-original-test.true) in
    originals_more first originals k o (get_or first o 0) c.loop-original.list.items c.push.new.self.items c.loop-original-test.true refl within refl c.loop-original.invariant c.in_ok-push.ensures.items
