use Rattle.std.proofs.Common.{◌≡◌, ℕ, ◌+◌, List, ◌++◌, length, ◌∙◌, ap}
use Rattle.std.specs.List.{flat_map}
use Rattle.table_numbers.specs.Layout.{first_list_place, first_set_place, first_state_place, head_of, item_block, pair_numbers, places_from, set_block, state_block}
use Rattle.table_numbers.specs.declared.tables.NumberedItem.{NumberedItem}
use Rattle.table_numbers.specs.declared.tables.NumberedState.{NumberedState}
use Rattle.table_numbers.proofs.JoinLemmas.{joined}
use Rattle.table_numbers.proofs.tables.NumberedTables.to_numbers.Goals as goal

pub returns : goal.returns
returns c =
    let t = c.args.self.now in
    let sets : c.as_slice-sets.result.now ≡ t.sets = c.as_slice-sets.ensures in
    let states : c.as_slice-states.result.now ≡ t.states = c.as_slice-states.ensures in
    let lists : c.as_slice-lists.result.now ≡ t.items = c.as_slice-lists.ensures in
    let first : c.in_ok-first_place.field-0 ≡ first_set_place t = c.in_ok-first_place.ensures in
    let second : c.in_ok-place.place ≡ first_state_place t =
    c.in_ok-place.ensures.end
    ∙ ap (λ (n : ℕ). n + length (flat_map set_block c.as_slice-sets.result.now)) first
    ∙ ap (λ (xs : List (List ℕ)). first_set_place t + length (flat_map set_block xs)) sets in
    let third : c.in_ok-list_place.list_place ≡ first_list_place t =
    c.in_ok-list_place.ensures.end
    ∙ ap (λ (n : ℕ). n + length (flat_map state_block c.as_slice-states.result.now)) second
    ∙ ap (λ (xs : List NumberedState). first_state_place t + length (flat_map state_block xs)) states in
    let zero : c.push_head.new.out.items ≡ head_of t = c.in_ok-push_head.ensures ∙ ap (λ (x : List ℕ). x ++ head_of t) c.new-out.ensures.items in
    let one : c.push_set_places.new.out.items ≡ c.push_head.new.out.items ++ places_from set_block (first_set_place t) t.sets =
    c.in_ok-place.ensures.places
    ∙ ap (λ (n : ℕ). c.push_head.new.out.items ++ places_from set_block n c.as_slice-sets.result.now) first
    ∙ ap (λ (xs : List (List ℕ)). c.push_head.new.out.items ++ places_from set_block (first_set_place t) xs) sets in
    let two : c.push_state_places.new.out.items ≡ c.push_set_places.new.out.items ++ places_from state_block (first_state_place t) t.states =
    c.in_ok-list_place.ensures.places
    ∙ ap (λ (n : ℕ). c.push_set_places.new.out.items ++ places_from state_block n c.as_slice-states.result.now) second
    ∙ ap (λ (xs : List NumberedState). c.push_set_places.new.out.items ++ places_from state_block (first_state_place t) xs) states in
    let three : c.push_list_places.new.out.items ≡ c.push_state_places.new.out.items ++ places_from item_block (first_list_place t) t.items =
    c.in_ok-end.ensures.places
    ∙ ap (λ (n : ℕ). c.push_state_places.new.out.items ++ places_from item_block n c.as_slice-lists.result.now) third
    ∙ ap (λ (xs : List (List NumberedItem)). c.push_state_places.new.out.items ++ places_from item_block (first_list_place t) xs) lists in
    let four : c.push_pairs.new.out.items ≡ c.push_list_places.new.out.items ++ pair_numbers t.productions =
    c.in_ok-push_pairs.ensures
    ∙ ap (λ (x : List ℕ). x ++ pair_numbers c.as_slice.result.now) c.in_ok-reserve.ensures.items
    ∙ ap (λ (xs : List (ℕ × ℕ)). c.push_list_places.new.out.items ++ pair_numbers xs) c.as_slice.ensures in
    let five : c.push_sets.new.out.items ≡ c.push_pairs.new.out.items ++ flat_map set_block t.sets =
    c.in_ok-push_sets.ensures ∙ ap (λ (xs : List (List ℕ)). c.push_pairs.new.out.items ++ flat_map set_block xs) sets in
    let six : c.push_states.new.out.items ≡ c.push_sets.new.out.items ++ flat_map state_block t.states =
    c.in_ok-push_states.ensures ∙ ap (λ (xs : List NumberedState). c.push_sets.new.out.items ++ flat_map state_block xs) states in
    let seven : c.push_lists.new.out.items ≡ c.push_states.new.out.items ++ flat_map item_block t.items =
    c.in_ok-push_lists.ensures ∙ ap (λ (xs : List (List NumberedItem)). c.push_states.new.out.items ++ flat_map item_block xs) lists in
    joined _ _ _ _ _ _ _ _ _ _ _ _ _ _ _ _ zero one two three four five six seven
