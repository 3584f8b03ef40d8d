use Rattle.std.proofs.Common.{ℕ, ◌<◌, List, get_or, length, arith}
use Rattle.std.proofs.lemmas.Option.{slice_get-get_or}
use Rattle.lalrpop_base.specs.Words.{Bits}
use Rattle.lalrpop_construction.specs.declared.construction.numbered_state.NumberedState.{NumberedState}
use Rattle.lalrpop_lane_states.proofs.Types.{State}
use Rattle.lalrpop_collections.proofs.theory.lists.Places.{slice_get_at}
use Rattle.lalrpop_lane_states.proofs.theory.lane_states.CopiedNumbers.{numbers_more, numbers_none}
use Rattle.lalrpop_lane_states.proofs.lane_table.construct.copied_numbers.copied_numbers.Goals as goal

pub loop-index-init : goal.loop-index-init
loop-index-init c = numbers_none c.args.symbols.now c.args.numbered.now c.args.originals.now c.in_ok-list.list.items c.in_ok-list.ensures.items

pub bounds-numbered-original : goal.bounds-numbered-original
bounds-numbered-original c =
    let originals : List ℕ = c.args.originals.now in
    let i = c.loop-index.index in
    let l : i < length originals = let e = c.requires.counted in let t = c.loop-index-test.true in omega arith in
    c.requires.within i (get_or originals i 0) (slice_get-get_or originals i 0 l)

pub offset_bounds-numbered-original : goal.offset_bounds-numbered-original
offset_bounds-numbered-original c =
    let originals : List ℕ = c.args.originals.now in
    let i = c.loop-index.index in
    let l : i < length originals = let e = c.requires.counted in let t = c.loop-index-test.true in omega arith in
    let within = c.requires.within i (get_or originals i 0) (slice_get-get_or originals i 0 l) in
    omega arith

pub copied_state-requires : goal.copied_state-requires
copied_state-requires c =
    let originals : List ℕ = c.args.originals.now in
    let i = c.loop-index.index in
    let o = get_or originals i 0 in
    let l : i < length originals = let e = c.requires.counted in let t = c.loop-index-test.true in omega arith in
    let within = c.requires.within i o (slice_get-get_or originals i 0 l) in
    c.requires.over o c.index-numbered-original.result (slice_get_at c.args.numbered.now o c.index-numbered-original.result within c.index-numbered-original.is)

pub loop-index-preserved : goal.loop-index-preserved
loop-index-preserved c =
    let originals : List ℕ = c.args.originals.now in
    let numbered : List NumberedState = c.args.numbered.now in
    let states : List (State Bits) = c.args.states.now in
    let i = c.loop-index.index in
    let o = get_or originals i 0 in
    let l : i < length originals = let e = c.requires.counted in let t = c.loop-index-test.true in omega arith in
    let of = slice_get-get_or originals i 0 l in
    let old = c.index-numbered-original.result in
    numbers_more c.args.symbols.now numbered originals states c.loop-index.list.items c.push.new.self.items i c.index-states-index.result c.in_ok-state.state c.loop-index.invariant c.loop-index-test.true c.index-states-index.is
    (record { original = o; old = old; of = of; there = slice_get_at numbered o old (c.requires.within i o of) c.index-numbered-original.is; copy = c.in_ok-state.ensures }) c.in_ok-push.ensures.items
