use Rattle.std.proofs.Common.{◌∙◌, Some, ap, arith, refl}
use Rattle.lalrpop_follow_sets.proofs.theory.follow_sets.InitialSets.{behind_listed, finished_gives, no_place_gives, node_listed, other_gives, rest_gives, rest_listed}
use Rattle.lalrpop_collections.proofs.theory.lists.Places.{slice_get_at}
use Rattle.lalrpop_follow_sets.proofs.follow_sets.initial_sets.join_suffix.Goals as goal

pub index-requires : goal.index-requires
index-requires c =
    let l = behind_listed c.args.pass.now c.requires.pass c.args.state c.args.item c.requires.held in
    omega (arith, l, c.args.pass.now.numbers.now.behind.ok)

pub returns-in_default : goal.returns-in_default
returns-in_default c =
    let l = behind_listed c.args.pass.now c.requires.pass c.args.state c.args.item c.requires.held in
    let at = slice_get_at c.args.pass.now.numbers.now.behind.items c.args.item c.index.result.now l c.index.ensures in
    finished_gives c.args.pass.now c.requires.pass c.args.state c.args.item c.requires.held (at ∙ ap Some c.in_default.is) c.args.sets.now.items

pub offset_bounds-pass-item : goal.offset_bounds-pass-item
offset_bounds-pass-item c =
    let l = rest_listed c.args.pass.now c.requires.pass c.args.state c.args.item c.requires.held in
    omega arith

pub bounds-pass-item : goal.bounds-pass-item
bounds-pass-item c = rest_listed c.args.pass.now c.requires.pass c.args.state c.args.item c.requires.held

pub returns-in_default-suffixes : goal.returns-in_default-suffixes
returns-in_default-suffixes c =
    let l = rest_listed c.args.pass.now c.requires.pass c.args.state c.args.item c.requires.held in
    let at = slice_get_at c.args.pass.now.suffixes.now c.args.item c.index-pass-item.result l c.index-pass-item.is in
    other_gives c.args.pass.now c.requires.pass c.args.state c.args.item c.requires.held (at ∙ ap Some (c.index-pass-item.is ∙ c.in_default-suffixes.is)) c.args.sets.now.items

pub returns-in_default-place_of : goal.returns-in_default-place_of
returns-in_default-place_of c =
    no_place_gives c.args.pass.now c.requires.pass c.args.state c.args.item c.requires.held
    c.index.result.now c.in-Some.symbol c.index.ensures c.in-Some.is c.index-pass-item.result c.in-Some-suffixes.suffix c.index-pass-item.is c.in-Some-suffixes.is c.index-pass-state.result c.deref.result.now c.index-pass-state.is c.deref.ensures.value
    (c.in_default-place_of.ensures.none refl) c.args.sets.now.items

pub overflow_add-node : goal.overflow_add-node
overflow_add-node c =
    let found = c.in-Some-place_of.ensures.found in
    let l =
    node_listed c.args.pass.now c.requires.pass c.args.state c.args.item c.requires.held
    c.index.result.now c.in-Some.symbol c.index.ensures c.in-Some.is c.index-pass-item.result c.in-Some-suffixes.suffix c.index-pass-item.is c.in-Some-suffixes.is c.index-pass-state.result c.deref.result.now c.index-pass-state.is c.deref.ensures.value
    c.in-Some-place_of.place found.0 c.index-2.result.now found.1 c.index-2.ensures in
    omega (arith, l, c.requires.counted, c.args.sets.now.ok, c.args.sets.now.small)

pub index_mut-requires : goal.index_mut-requires
index_mut-requires c =
    let found = c.in-Some-place_of.ensures.found in
    let l =
    node_listed c.args.pass.now c.requires.pass c.args.state c.args.item c.requires.held
    c.index.result.now c.in-Some.symbol c.index.ensures c.in-Some.is c.index-pass-item.result c.in-Some-suffixes.suffix c.index-pass-item.is c.in-Some-suffixes.is c.index-pass-state.result c.deref.result.now c.index-pass-state.is c.deref.ensures.value
    c.in-Some-place_of.place found.0 c.index-2.result.now found.1 c.index-2.ensures in
    omega (arith, l, c.requires.counted, c.args.sets.now.ok)

pub returns : goal.returns
returns c =
    let found = c.in-Some-place_of.ensures.found in
    rest_gives c.args.pass.now c.requires.pass c.args.state c.args.item c.requires.held
    c.index.result.now c.in-Some.symbol c.index.ensures c.in-Some.is c.index-pass-item.result c.in-Some-suffixes.suffix c.index-pass-item.is c.in-Some-suffixes.is c.index-pass-state.result c.deref.result.now c.index-pass-state.is c.deref.ensures.value
    c.in-Some-place_of.place found.0 c.index-2.result.now found.1 c.index-2.ensures
    c.args.sets.now.items c.requires.counted c.index_mut.result.now c.union_with.new.self c.index_mut.ensures.value c.in_ok-union_with.ensures.joined
