use Rattle.std.proofs.Common.{◌≡◌, ◌+◌, ◌<◌, ◌++◌, ◌∷◌, ◌↔◌, [], ℕ, IsTrue, List, arith, get_or, length, subst, sym, take}
use Rattle.std.proofs.lemmas.List.{take_all, take_more}
use Rattle.std.proofs.lemmas.List.Elements.{Contains-get_or}
use Rattle.lalrpop_base.specs.Words.{Bits, has}
use Rattle.lalrpop_follow_sets.specs.follow_sets.FollowWalks.{HoldsSomeOf}
use Rattle.lalrpop_follow_sets.proofs.theory.follow_sets.FollowTokens.{some_of_more, some_of_none}
use Rattle.lalrpop_collections.proofs.theory.lists.Places.{slice_get_at}
use Rattle.lalrpop_follow_sets.proofs.follow_sets.tokens.shifted_tokens.Goals as goal

pub loop-edge-init : goal.loop-edge-init
loop-edge-init c = some_of_none c.args.tokens.now c.new-shifted.result c.new-shifted.ensures

pub offset_bounds-tokens-edge : goal.offset_bounds-tokens-edge
offset_bounds-tokens-edge c =
    let e : ℕ × ℕ = get_or c.args.edges.now c.loop-edge.edge-index (0, 0) in
    let listed : e.0 < length c.args.tokens.now = c.requires e.0 e.1 (Contains-get_or c.args.edges.now c.loop-edge.edge-index (0, 0) c.loop-edge-test.true) in
    omega arith

pub bounds-tokens-edge : goal.bounds-tokens-edge
bounds-tokens-edge c =
    let e : ℕ × ℕ = get_or c.args.edges.now c.loop-edge.edge-index (0, 0) in
    c.requires e.0 e.1 (Contains-get_or c.args.edges.now c.loop-edge.edge-index (0, 0) c.loop-edge-test.true)

pub loop-edge-preserved : goal.loop-edge-preserved
loop-edge-preserved c =
    let edges : List (ℕ × ℕ) = c.args.edges.now in
    let tokens : List Bits = c.args.tokens.now in
    let k = c.loop-edge.edge-index in
    let e : ℕ × ℕ = get_or edges k (0, 0) in
    let listed : e.0 < length tokens = c.requires e.0 e.1 (Contains-get_or edges k (0, 0) c.loop-edge-test.true) in
    let more : take (k + 1) edges ≡ take k edges ++ e ∷ [] = take_more edges k (0, 0) c.loop-edge-test.true in
    let joined = some_of_more tokens (take k edges) e c.loop-edge.shifted c.index-tokens-edge.result (slice_get_at tokens e.0 c.index-tokens-edge.result listed c.index-tokens-edge.is) c.loop-edge.invariant in
    subst (λ (done : List (ℕ × ℕ)). (bit : ℕ) → IsTrue (has c.union_with.new.self bit) ↔ HoldsSomeOf tokens done bit) (sym more)
    (subst (λ (set : Bits). (bit : ℕ) → IsTrue (has set bit) ↔ HoldsSomeOf tokens (take k edges ++ e ∷ []) bit) (sym c.in_ok-union_with.ensures.joined) joined)

pub returns : goal.returns
returns c = subst (λ (done : List (ℕ × ℕ)). (bit : ℕ) → IsTrue (has c.loop-edge.shifted bit) ↔ HoldsSomeOf c.args.tokens.now done bit) (take_all c.loop-edge.edge-index c.args.edges.now c.loop-edge-test.false) c.loop-edge.invariant
