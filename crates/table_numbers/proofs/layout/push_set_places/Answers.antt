use Rattle.std.proofs.Common.{◌≡◌, ℕ, ◌+◌, ◌++◌, List, length, drop, ap, ◌∙◌, arith}
use Rattle.table_numbers.specs.Layout.{places_from, set_block}
use Rattle.table_numbers.proofs.PlaceLemmas.{next_end, next_place}
use Rattle.table_numbers.proofs.layout.push_set_places.Goals as goal

pub loop-set-preserved : goal.loop-set-preserved
loop-set-preserved c =
    let sets = c.args.sets.now in
    let i = c.loop-set.set-index in
    let place = c.loop-set.place in
    let next = c.in_ok-place.place in
    let set = c.set-item.result in
    let one : c.in_ok-place_after.field-0 ≡ place + 1 = c.in_ok-place_after.ensures in
    let more : next ≡ c.in_ok-place_after.field-0 + c.len.result = c.in_ok-place.ensures in
    let long : c.len.result ≡ length set = c.len.ensures in
    let at : next ≡ place + length (set_block set) = omega (arith, one, more, long) in
    record {
      places = ap (λ (o : List ℕ). o ++ places_from set_block next (drop (i + 1) sets)) c.in_ok-push.ensures.items
          ∙ next_place set_block c.loop-set.out.items _ sets i place next set c.loop-set-test.true c.set-item.is at c.loop-set.invariant.places;
      end = next_end set_block _ sets i place next set c.loop-set-test.true c.set-item.is at c.loop-set.invariant.end;
    }
