use Rattle.std.proofs.Common.{◌≡◌, ◌+◌, ◌<◌, ◌++◌, ◌∷◌, [], ℕ, List, arith, get_or, length, subst, sym, take}
use Rattle.std.proofs.lemmas.List.{take_all, take_more}
use Rattle.std.proofs.lemmas.List.Elements.{Contains-get_or}
use Rattle.lalrpop_base.specs.Words.{Bits}
use Rattle.lalrpop_follow_sets.specs.follow_sets.FollowWalks.{AreUnions}
use Rattle.lalrpop_follow_sets.proofs.theory.follow_sets.FollowUnions.{unions_more, unions_none}
use Rattle.lalrpop_collections.proofs.theory.lists.Places.{slice_get_at}
use Rattle.lalrpop_follow_sets.proofs.follow_sets.unions.unions_of.Goals as goal

pub loop-entry-init : goal.loop-entry-init
loop-entry-init c = unions_none c.args.follow.now c.args.reductions.now c.in_ok-unions.unions.items c.in_ok-unions.ensures

pub offset_bounds-follow-entry : goal.offset_bounds-follow-entry
offset_bounds-follow-entry c =
    let e : ℕ × ℕ = get_or c.args.lookback.now c.loop-entry.entry-index (0, 0) in
    let listed : e.1 < length c.args.follow.now = c.requires e.0 e.1 (Contains-get_or c.args.lookback.now c.loop-entry.entry-index (0, 0) c.loop-entry-test.true) in
    omega arith

pub bounds-follow-entry : goal.bounds-follow-entry
bounds-follow-entry c =
    let e : ℕ × ℕ = get_or c.args.lookback.now c.loop-entry.entry-index (0, 0) in
    c.requires e.0 e.1 (Contains-get_or c.args.lookback.now c.loop-entry.entry-index (0, 0) c.loop-entry-test.true)

pub join_found-requires : goal.join_found-requires
join_found-requires c = c.loop-entry.invariant.counted

pub loop-entry-preserved : goal.loop-entry-preserved
loop-entry-preserved c =
    let entries : List (ℕ × ℕ) = c.args.lookback.now in
    let follow : List Bits = c.args.follow.now in
    let k = c.loop-entry.entry-index in
    let e : ℕ × ℕ = get_or entries k (0, 0) in
    let listed : e.1 < length follow = c.requires e.0 e.1 (Contains-get_or entries k (0, 0) c.loop-entry-test.true) in
    let more : take (k + 1) entries ≡ take k entries ++ e ∷ [] = take_more entries k (0, 0) c.loop-entry-test.true in
    subst (λ (done : List (ℕ × ℕ)). AreUnions follow done c.args.reductions.now c.join_found.new.unions.items) (sym more)
    (unions_more follow (take k entries) e c.args.reductions.now c.loop-entry.unions.items c.join_found.new.unions.items c.index-follow-entry.result (slice_get_at follow e.1 c.index-follow-entry.result listed c.index-follow-entry.is)
    c.loop-entry.invariant c.in_ok-join_found.ensures)

pub returns : goal.returns
returns c = subst (λ (done : List (ℕ × ℕ)). AreUnions c.args.follow.now done c.args.reductions.now c.loop-entry.unions.items) (take_all c.loop-entry.entry-index c.args.lookback.now c.loop-entry-test.false) c.loop-entry.invariant
