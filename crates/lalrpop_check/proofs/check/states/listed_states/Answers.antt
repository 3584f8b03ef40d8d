use Rattle.std.proofs.Common.{◌≡◌, ◌∙◌, ◌+◌, ◌++◌, ◌∷◌, [], subst, sym, ap, take, List}
use Rattle.std.proofs.lemmas.List.{take_more, take_all}
use Rattle.lalrpop_base.specs.Words.{Bits, Dotted, Lists}
use Rattle.lalrpop_check.proofs.Types.{State}
use Rattle.lalrpop_states.specs.states.CheckStates.{AreListed}
use Rattle.lr1_theory.proofs.theory.states.CheckStates.{Listed-none, Listed-more}
use Rattle.lalrpop_check.proofs.check.states.listed_states.Goals as goal

pub loop-state-init : goal.loop-state-init
loop-state-init c = Listed-none _ c.new-listed.ensures.items

pub loop-state-preserved : goal.loop-state-preserved
loop-state-preserved c =
    let xs : List (State Bits) = c.args.states.now in
    let i = c.loop-state.state-index in
    let s : State Bits = c.state-item.result in
    let more : take (i + 1) xs ≡ take i xs ++ s ∷ [] = take_more xs i s c.loop-state-test.true ∙ ap (λ (x : State Bits). take i xs ++ x ∷ []) (sym c.state-item.is) in
    let lists = subst (λ (items : List (Dotted Bits)). Lists items c.in_ok-listed_items.field-0.keys) c.deref.ensures.value c.in_ok-listed_items.ensures in
    subst (λ (ys : List (State Bits)). AreListed ys c.push.new.self.items) (sym more)
    (Listed-more (take i xs) s _ _ c.in_ok-listed_items.field-0 c.in_ok-push.ensures.items lists c.loop-state.invariant)

pub returns : goal.returns
returns c = subst (λ (ys : List (State Bits)). AreListed ys c.loop-state.listed.items) (take_all c.loop-state.state-index c.args.states.now c.loop-state-test.false) c.loop-state.invariant
