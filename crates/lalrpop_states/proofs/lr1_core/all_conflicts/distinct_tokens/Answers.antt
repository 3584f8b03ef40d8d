use Rattle.std.proofs.Common.{◌≡◌, ◌∙◌, ◌↔◌, ◌+◌, List, [], ◌∷◌, ◌++◌, ap, drop, refl, subst, sym, take, take-append-drop}
use Rattle.std.specs.Prelude.{IsTrue}
use Rattle.std.proofs.lemmas.List.{take_all, take_more}
use Rattle.lalrpop_states.specs.conflicts.StateConflicts.{StateReduction}
use Rattle.lalrpop_collections.specs.Words.{Bits, has}
use Rattle.lalrpop_states.specs.conflicts.HeldShifts.{IsHeldBit, ShareNoBit}
use Rattle.lalrpop_states.proofs.theory.conflicts.FreeStates.{share_none, share_none_more, share_one}
use Rattle.lalrpop_states.proofs.theory.conflicts.HeldShifts.{held_more, held_none}
use Rattle.lalrpop_states.proofs.lr1_core.all_conflicts.distinct_tokens.Goals as goal

pub loop-reduction-init : goal.loop-reduction-init
loop-reduction-init c = record { apart = share_none; tokens = held_none c.new-held.result c.new-held.ensures }

pub returns-then-is_intersecting : goal.returns-then-is_intersecting
returns-then-is_intersecting c =
    let rs : List StateReduction = c.args.reductions.now in
    let i = c.loop-reduction.reduction-index in
    let r : StateReduction = c.reduction-item.result in
    let more : take i rs ++ r ∷ [] ≡ take (i + 1) rs = ap (λ (q : StateReduction). take i rs ++ q ∷ []) c.reduction-item.is ∙ sym (take_more rs i r c.loop-reduction-test.true) in
    let whole : rs ≡ take i rs ++ r ∷ [] ++ drop (i + 1) rs = sym (take-append-drop (i + 1) rs) ∙ sym (ap (λ (xs : List StateReduction). xs ++ drop (i + 1) rs) more) in
    let both = c.if-is_intersecting.ensures.yes refl in
    share_one rs (take i rs) (drop (i + 1) rs) r whole both.0 ((c.loop-reduction.invariant.tokens both.0).0 both.1) both.2

pub loop-reduction-preserved : goal.loop-reduction-preserved
loop-reduction-preserved c =
    let rs : List StateReduction = c.args.reductions.now in
    let i = c.loop-reduction.reduction-index in
    let r : StateReduction = c.reduction-item.result in
    let h = c.loop-reduction.invariant in
    let none = c.if-is_intersecting.ensures.no refl in
    let more : take i rs ++ r ∷ [] ≡ take (i + 1) rs = ap (λ (q : StateReduction). take i rs ++ q ∷ []) c.reduction-item.is ∙ sym (take_more rs i r c.loop-reduction-test.true) in
    record {
      apart = subst ShareNoBit more (share_none_more (take i rs) r h.apart (λ bit some. none bit ((h.tokens bit).1 some)));
      tokens = λ bit.
          subst (λ (qs : List StateReduction). IsTrue (has c.union_with.new.self bit) ↔ IsHeldBit qs bit) more
          (subst (λ (bits : Bits). IsTrue (has bits bit) ↔ IsHeldBit (take i rs ++ r ∷ []) bit) (sym c.in_ok-union_with.ensures.joined)
          (held_more (take i rs) r c.loop-reduction.held h.tokens bit));
    }

pub returns : goal.returns
returns c =
    let rs : List StateReduction = c.args.reductions.now in
    let h = c.loop-reduction.invariant in
    let all = take_all c.loop-reduction.reduction-index rs c.loop-reduction-test.false in
    (subst ShareNoBit all h.apart, λ bit. subst (λ (qs : List StateReduction). IsTrue (has c.loop-reduction.held bit) ↔ IsHeldBit qs bit) all (h.tokens bit))
