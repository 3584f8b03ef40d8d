use Rattle.std.proofs.Common.{◌≡◌, ◌+◌, ◌++◌, ◌∷◌, [], ℕ, List, get_or, subst, sym, take}
use Rattle.std.proofs.lemmas.List.{take_all, take_more}
use Rattle.std.proofs.lemmas.List.Elements.{Contains-get_or}
use Rattle.lalrpop_base.specs.Words.{AllDiffer}
use Rattle.lalrpop_construction.specs.states.NumberedStates.{HasFinished}
use Rattle.lalrpop_construction.proofs.theory.states.FinishedItems.{AreFinishedOf, Finished-more, Finished-none}
use Rattle.lalrpop_construction.proofs.construction.numbered_state.made.finished_of.Goals as goal

pub loop-item-init : goal.loop-item-init
loop-item-init c = Finished-none c.args.numbers.now _ c.new-finished.ensures.items

pub add_if_finished-requires : goal.add_if_finished-requires
add_if_finished-requires c = c.requires (get_or c.args.items.now c.loop-item.item-index 0) (Contains-get_or c.args.items.now c.loop-item.item-index 0 c.loop-item-test.true)

pub loop-item-preserved : goal.loop-item-preserved
loop-item-preserved c =
    let items : List ℕ = c.args.items.now in
    let k = c.loop-item.item-index in
    let item = get_or items k 0 in
    let more : take (k + 1) items ≡ take k items ++ item ∷ [] = take_more items k 0 c.loop-item-test.true in
    subst (λ (done : List ℕ). AreFinishedOf c.args.numbers.now done c.add_if_finished.new.finished.items) (sym more)
    (Finished-more c.args.numbers.now (take k items) item c.loop-item.finished.items c.add_if_finished.new.finished.items c.loop-item.invariant c.in_ok-add_if_finished.ensures)

pub returns-clause-all : goal.returns-clause-all
returns-clause-all c = subst (λ (done : List ℕ). HasFinished c.args.numbers.now done c.loop-item.finished.items) (take_all c.loop-item.item-index c.args.items.now c.loop-item-test.false) c.loop-item.invariant.all

pub returns-clause-once : goal.returns-clause-once
returns-clause-once c = subst (λ (done : List ℕ). AllDiffer done → AllDiffer c.loop-item.finished.items) (take_all c.loop-item.item-index c.args.items.now c.loop-item-test.false) c.loop-item.invariant.once
