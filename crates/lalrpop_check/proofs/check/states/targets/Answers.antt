use Rattle.std.proofs.Common.{◌≡◌, ◌∙◌, ◌+◌, ◌++◌, ◌∷◌, ◌↔◌, [], ℕ, subst, sym, ap, take, List}
use Rattle.std.specs.Prelude.{Contains}
use Rattle.std.proofs.lemmas.List.{take_more, take_all}
use Rattle.lalrpop_base.specs.Words.{Bits, IsTarget}
use Rattle.lalrpop_check.proofs.Types.{State}
use Rattle.lr1_theory.proofs.theory.states.CheckStates.{Targets-none, Targets-more}
use Rattle.lalrpop_check.proofs.check.states.targets.Goals as goal

pub loop-state-init : goal.loop-state-init
loop-state-init c = Targets-none _ c.new-targets.ensures.empty

pub loop-state-preserved : goal.loop-state-preserved
loop-state-preserved c =
    let xs : List (State Bits) = c.args.states.now in
    let i = c.loop-state.state-index in
    let s : State Bits = c.state-item.result in
    let more : take (i + 1) xs ≡ take i xs ++ s ∷ [] = take_more xs i s c.loop-state-test.true ∙ ap (λ (x : State Bits). take i xs ++ x ∷ []) (sym c.state-item.is) in
    subst (λ (ys : List (State Bits)). (m : ℕ) → Contains c.add_targets_of.new.targets.keys m ↔ IsTarget ys m) (sym more)
    (Targets-more (take i xs) s _ _ c.loop-state.invariant c.in_ok-add_targets_of.ensures)

pub returns : goal.returns
returns c = subst (λ (ys : List (State Bits)). (m : ℕ) → Contains c.loop-state.targets.keys m ↔ IsTarget ys m) (take_all c.loop-state.state-index c.args.states.now c.loop-state-test.false) c.loop-state.invariant
