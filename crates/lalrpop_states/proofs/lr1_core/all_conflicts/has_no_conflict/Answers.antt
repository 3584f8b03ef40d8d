use Rattle.std.proofs.Common.{◌↔◌, ℕ, List, arith, eqb-true, refl, subst, sym, ◌∙◌}
use Rattle.std.proofs.lemmas.List.{nil_from_length}
use Rattle.std.specs.Prelude.{IsTrue, MatchOption, Option, vec_len}
use Rattle.lalrpop_states.specs.conflicts.StateConflicts.{StateReduction}
use Rattle.lalrpop_collections.specs.Words.{Bits, has}
use Rattle.lalrpop_states.specs.conflicts.HeldShifts.{IsHeldBit, ShareNoBit}
use Rattle.lalrpop_states.proofs.theory.conflicts.FreeStates.{free_shifts, nothing_reduced_free, state_free}
use Rattle.lalrpop_states.proofs.lr1_core.all_conflicts.has_no_conflict.Goals as goal

pub returns-then-is_empty : goal.returns-then-is_empty
returns-then-is_empty c =
    let reductions = c.args.state.now.reductions in
    let none = eqb-true (vec_len reductions) 0 (sym c.is_empty.ensures ∙ c.if-is_empty.true) in
    (λ h. nothing_reduced_free c.args.terminals.now c.args.state.now (nil_from_length reductions.items (let k = reductions.ok in omega arith)), λ h. refl)

pub returns : goal.returns
returns c =
    let rs : List StateReduction = c.deref.result.now in
    let terminals = c.args.terminals.now in
    let state = c.args.state.now in
    let Told : List StateReduction → Bits → Type 0 = λ qs held. ShareNoBit qs × ((bit : ℕ) → IsTrue (has held bit) ↔ IsHeldBit qs bit) in
    let told : Told rs c.in-Some.held = subst (λ (o : Option Bits). MatchOption o (¬ ShareNoBit rs) (Told rs)) c.in-Some.is c.in_ok-held.ensures in
    let here = subst (λ (qs : List StateReduction). Told qs c.in-Some.held) c.deref.ensures.value told in (
      λ h. state_free terminals state c.all-all.ensures.distinct c.in-Some.held here.1 here.0 (c.in_ok-free.ensures.0 h),
      λ free. c.in_ok-free.ensures.1 (free_shifts terminals state c.all-all.ensures.distinct c.in-Some.held here.1 free),
    )
