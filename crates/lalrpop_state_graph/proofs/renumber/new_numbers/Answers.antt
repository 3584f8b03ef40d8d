use Rattle.std.proofs.Common.{◌≡◌, length, sym, ◌∙◌, arith, refl}
use Rattle.std.specs.List.{filter}
use Rattle.std.proofs.lemmas.List.Sums.{length-filter}
use Rattle.lalrpop_base.specs.Words.{stands_first, fails}
use Rattle.lalrpop_collections.proofs.theory.lists.Partitions.{Places-none, Places-more, rank_within, parted_lengths, front_more, back_more}
use Rattle.lalrpop_collections.proofs.theory.lists.Places.{slice_get_at}
use Rattle.lalrpop_state_graph.proofs.renumber.new_numbers.Goals as goal

pub loop-state-init : goal.loop-state-init
loop-state-init c =
    let counted : c.count_first-back.result ≡ length (filter stands_first c.args.states.now) = c.count_first-back.ensures ∙ sym (length-filter stands_first c.args.states.now) in
    record { front = refl; back = omega arith; places = Places-none stands_first c.args.states.now c.new-numbers.result.items c.new-numbers.ensures.items }

pub push_number-requires-clause-front_room : goal.push_number-requires-clause-front_room
push_number-requires-clause-front_room c =
    let xs = c.args.states.now in
    let l = rank_within stands_first xs c.loop-state.state-index c.loop-state.auto.state-index-end in
    let n = parted_lengths stands_first xs in
    let f = c.loop-state.invariant.front in
    omega arith

pub push_number-requires-clause-back_room : goal.push_number-requires-clause-back_room
push_number-requires-clause-back_room c =
    let xs = c.args.states.now in
    let l = rank_within (fails stands_first) xs c.loop-state.state-index c.loop-state.auto.state-index-end in
    let n = parted_lengths stands_first xs in
    let b = c.loop-state.invariant.back in
    omega arith

pub loop-state-preserved : goal.loop-state-preserved
loop-state-preserved c =
    let xs = c.args.states.now in
    let i = c.loop-state.state-index in
    let x = c.state-item.result in
    let at = slice_get_at xs i x c.loop-state-test.true c.state-item.is in
    let h = c.loop-state.invariant in
    record {
      front = front_more stands_first xs i x at c.loop-state.front _ h.front c.in_ok-push_number.ensures.front;
      back = back_more stands_first xs i x at c.loop-state.back _ h.back c.in_ok-push_number.ensures.back;
      places = Places-more stands_first xs i x c.loop-state.front c.loop-state.back _ _ at h.front h.back h.places c.in_ok-push_number.ensures.number;
    }
