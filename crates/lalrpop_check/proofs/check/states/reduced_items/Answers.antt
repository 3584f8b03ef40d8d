use Rattle.std.proofs.Common.{◌≡◌, ◌∙◌, ◌+◌, ◌++◌, ◌∷◌, [], subst, sym, ap, take, List}
use Rattle.std.specs.Borrow.{Bor}
use Rattle.std.proofs.lemmas.List.{take_more, take_all}
use Rattle.lalrpop_base.specs.Words.{Bits, finished}
use Rattle.lalrpop_check.proofs.Types.{Production}
use Rattle.lalrpop_collections.proofs.theory.lists.Places.{slice_get_at}
use Rattle.lr1_theory.proofs.theory.states.CheckStates.{AreReduced, Reduced-none, Reduced-more, Reduced-twice, reduced_has}
use Rattle.lalrpop_check.proofs.check.states.reduced_items.Goals as goal

pub loop-reduction-init : goal.loop-reduction-init
loop-reduction-init c = Reduced-none _ c.new-set.ensures.empty

pub returns-then-not-branch : goal.returns-then-not-branch
returns-then-not-branch c =
    let r : Bits × Bor Production = c.reduction-item.result in
    let key : c.lr0-item.result ≡ finished r.1.now = cc in
    let told = rw (c.if-not-branch.true, key) at c.in_ok-add_key.ensures.told in
    Reduced-twice c.args.reductions.now c.loop-reduction.reduction-index r _ c.loop-reduction.invariant (slice_get_at c.args.reductions.now c.loop-reduction.reduction-index r c.loop-reduction-test.true c.reduction-item.is) told.1

pub loop-reduction-preserved : goal.loop-reduction-preserved
loop-reduction-preserved c =
    let xs : List (Bits × Bor Production) = c.args.reductions.now in
    let i = c.loop-reduction.reduction-index in
    let r : Bits × Bor Production = c.reduction-item.result in
    let key : c.lr0-item.result ≡ finished r.1.now = cc in
    let told = rw (c.if-not-branch.false, key) at c.in_ok-add_key.ensures.told in
    let more : take (i + 1) xs ≡ take i xs ++ r ∷ [] = take_more xs i r c.loop-reduction-test.true ∙ ap (λ (x : Bits × Bor Production). take i xs ++ x ∷ []) (sym c.reduction-item.is) in
    subst (λ (ys : List (Bits × Bor Production)). AreReduced ys c.add_key.new.set.keys) (sym more)
    (Reduced-more (take i xs) r _ _ told.1 (rw key at c.in_ok-add_key.ensures.added) c.loop-reduction.invariant)

pub returns : goal.returns
returns c =
    let all = rw (take_all c.loop-reduction.reduction-index c.args.reductions.now c.loop-reduction-test.false) at c.loop-reduction.invariant in
    (all.differ, reduced_has c.args.reductions.now c.loop-reduction.set.keys all)
