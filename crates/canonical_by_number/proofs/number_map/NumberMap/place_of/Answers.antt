use Rattle.std.proofs.Common.{◌≡◌, ◌<◌, ◌≤◌, length, arith, Some}
use Rattle.std.specs.Prelude.{slice_get}
use Rattle.lalrpop_collections.proofs.theory.lists.Places.{slice_get_at}
use Rattle.lalrpop_collections.proofs.theory.collections.SparseMaps.{with_key, none_past, none_outside, none_other}
use Rattle.canonical_by_number.proofs.number_map.NumberMap.place_of.Goals.{else-place-len-via-then-place-len+else-index-number, else-place-len-via-else-place-len}
use Rattle.canonical_by_number.proofs.number_map.NumberMap.place_of.Goals as goal

pub returns-then-number-len-clause-none : goal.returns-then-number-len-clause-none
returns-then-number-len-clause-none c =
    let past : length c.self.inside.places.items ≤ c.args.number = omega arith in
    λ _. rw (← c.self.view_is) (none_past c.self.inside.places.items c.self.inside.entries.items c.self.invariant c.args.number past)

pub returns-then-index-number-clause-found : goal.returns-then-index-number-clause-found
returns-then-index-number-clause-found c =
    let within : c.index-place.result.now < length c.self.inside.entries.items = omega arith in
    rw (← c.self.view_is) (with_key c.self.inside.entries.items c.index-place.result.now c.args.number c.index.result.now (slice_get_at c.self.inside.entries.items c.index-place.result.now c.index.result.now within c.index.ensures) c.if-index-number.true)

pub returns-clause-none : goal.returns-clause-none
returns-clause-none c =
    let places = c.self.inside.places.items in
    let es = c.self.inside.entries.items in
    let place = c.index-place.result.now in
    let inside : c.args.number < length places = omega arith in
    let at : slice_get places c.args.number ≡ Some place = slice_get_at places c.args.number place inside c.index-place.ensures in
    λ _. rw (← c.self.view_is) (elim c.else-place-len.branch [
      | else-place-len-via-then-place-len+else-index-number w ↦
          let within : place < length es = omega arith in
          none_other places es c.self.invariant c.args.number place w.index.result.now at (slice_get_at es place w.index.result.now within w.index.ensures) w.if-index-number.false
      | else-place-len-via-else-place-len w ↦
          let past : length es ≤ place = omega arith in
          none_outside places es c.self.invariant c.args.number place at past
    ])
