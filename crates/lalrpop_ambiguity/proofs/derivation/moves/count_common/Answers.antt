use Rattle.std.proofs.Common.{◌≡◌, List, Some, length, map, slice_get, ap, sym, subst, ◌∙◌, arith}
use Rattle.std.proofs.lemmas.Bool.{false≢true}
use Rattle.std.proofs.lemmas.List.{length-map}
use Rattle.lalrpop_ambiguity.specs.Words.{move_of}
use Rattle.lalrpop_ambiguity.specs.declared.derivation.moves.DerivationMove.{DerivationMove}
use Rattle.lalrpop_ambiguity.proofs.theory.derivations.Moves.{goes_on, left_ends, moves_part, read_at, right_ends}
use Rattle.lalrpop_ambiguity.proofs.derivation.moves.count_common.Goals as goal

pub loop-place-preserved : goal.loop-place-preserved
loop-place-preserved c =
    let n = c.loop-place.place in
    let one = c.one-item.result in
    let other = c.index.result.now in
    let xs = c.args.moves.now.items in
    let ys = c.args.others.now.items in
    let here : slice_get (map move_of xs) n ≡ Some (move_of one) = subst (λ (l : List DerivationMove). slice_get (map move_of l) n ≡ Some (move_of one)) c.deref-one-items.ensures.value (read_at c.deref-one-items.result.now n one c.loop-place-test.true c.one-item.is) in
    let there : slice_get (map move_of ys) n ≡ Some (move_of other) = read_at ys n other (omega arith) c.index.ensures in
    goes_on n (map move_of xs) (map move_of ys) (move_of one) (move_of other) here there (c.are_same.ensures.0 c.if-not-are_same.false) c.loop-place.invariant

pub returns-then-place-len : goal.returns-then-place-len
returns-then-place-len c =
    let xs = c.args.moves.now.items in
    let ys = c.args.others.now.items in
    right_ends c.loop-place.place (map move_of xs) (map move_of ys) (omega (arith, length-map xs move_of, ap length c.deref-one-items.ensures.value)) (omega (arith, length-map ys move_of)) c.loop-place.invariant

pub returns-then-not-are_same : goal.returns-then-not-are_same
returns-then-not-are_same c =
    let n = c.loop-place.place in
    let one = c.one-item.result in
    let other = c.index.result.now in
    let xs = c.args.moves.now.items in
    let ys = c.args.others.now.items in
    let here : slice_get (map move_of xs) n ≡ Some (move_of one) = subst (λ (l : List DerivationMove). slice_get (map move_of l) n ≡ Some (move_of one)) c.deref-one-items.ensures.value (read_at c.deref-one-items.result.now n one c.loop-place-test.true c.one-item.is) in
    let there : slice_get (map move_of ys) n ≡ Some (move_of other) = read_at ys n other (omega arith) c.index.ensures in
    moves_part n (map move_of xs) (map move_of ys) (move_of one) (move_of other) here there (λ e. false≢true (sym c.if-not-are_same.true ∙ c.are_same.ensures.1 e)) c.loop-place.invariant

pub returns : goal.returns
returns c =
    let xs = c.args.moves.now.items in
    let ys = c.args.others.now.items in
    let n = c.loop-place.place in
    let end : c.len-2.result ≡ n = omega (arith, ap length c.deref-one-items.ensures.value) in
    left_ends c.len-2.result (map move_of xs) (map move_of ys) (omega (arith, length-map xs move_of)) (rw end c.loop-place.invariant)
