use Rattle.std.proofs.Common.{◌≡◌, ℕ, ◌+◌, ◌++◌, List, length, drop, ap, ◌∙◌}
use Rattle.table_numbers.specs.Layout.{places_from, state_block}
use Rattle.table_numbers.proofs.PlaceLemmas.{next_end, next_place}
use Rattle.table_numbers.proofs.layout.push_state_places.Goals as goal

pub loop-state-preserved : goal.loop-state-preserved
loop-state-preserved c =
    let states = c.args.states.now in
    let i = c.loop-state.state-index in
    let place = c.loop-state.place in
    let next = c.in_ok-place.place in
    let state = c.state-item.result in
    let at : next ≡ place + length (state_block state) = c.in_ok-place.ensures in
    record {
      places = ap (λ (o : List ℕ). o ++ places_from state_block next (drop (i + 1) states)) c.in_ok-push.ensures.items
          ∙ next_place state_block c.loop-state.out.items _ states i place next state c.loop-state-test.true c.state-item.is at c.loop-state.invariant.places;
      end = next_end state_block _ states i place next state c.loop-state-test.true c.state-item.is at c.loop-state.invariant.end;
    }
