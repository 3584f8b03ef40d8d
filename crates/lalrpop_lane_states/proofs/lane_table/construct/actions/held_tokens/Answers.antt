use Rattle.std.proofs.Common.{◌≡◌, ◌∙◌, ◌↔◌, ◌+◌, List, [], ◌∷◌, ◌++◌, ap, subst, sym, take}
use Rattle.std.specs.Prelude.{IsTrue}
use Rattle.std.proofs.lemmas.List.{take_all, take_more}
use Rattle.lalrpop_states.specs.conflicts.StateConflicts.{StateReduction}
use Rattle.lalrpop_base.specs.Words.{Bits, has}
use Rattle.lalrpop_states.specs.conflicts.HeldShifts.{IsHeldBit}
use Rattle.lalrpop_states.proofs.theory.conflicts.HeldShifts.{held_more, held_none}
use Rattle.lalrpop_lane_states.proofs.lane_table.construct.actions.held_tokens.Goals as goal

pub loop-reduction-init : goal.loop-reduction-init
loop-reduction-init c = held_none c.new-held.result c.new-held.ensures

pub loop-reduction-preserved : goal.loop-reduction-preserved
loop-reduction-preserved c bit =
    let rs : List StateReduction = c.args.reductions.now in
    let i = c.loop-reduction.reduction-index in
    let r : StateReduction = c.reduction-item.result in
    let more : take i rs ++ r ∷ [] ≡ take (i + 1) rs = ap (λ (q : StateReduction). take i rs ++ q ∷ []) c.reduction-item.is ∙ sym (take_more rs i r c.loop-reduction-test.true) in
    subst (λ (qs : List StateReduction). IsTrue (has c.union_with.new.self bit) ↔ IsHeldBit qs bit) more
    (subst (λ (bits : Bits). IsTrue (has bits bit) ↔ IsHeldBit (take i rs ++ r ∷ []) bit) (sym c.in_ok-union_with.ensures.joined)
    (held_more (take i rs) r c.loop-reduction.held c.loop-reduction.invariant bit))

pub returns : goal.returns
returns c bit =
    let rs : List StateReduction = c.args.reductions.now in
    subst (λ (qs : List StateReduction). IsTrue (has c.loop-reduction.held bit) ↔ IsHeldBit qs bit) (take_all c.loop-reduction.reduction-index rs c.loop-reduction-test.false) (c.loop-reduction.invariant bit)
