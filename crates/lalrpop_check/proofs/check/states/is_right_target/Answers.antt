use Rattle.std.proofs.Common.{◌∙◌, length, arith, eqb-true, sym}
use Rattle.lalrpop_states.specs.states.Items.{dots}
use Rattle.lalrpop_base.specs.Words.{IsMovedIn}
use Rattle.lr1_theory.proofs.theory.states.CheckStates.{same_closure, has_number, some_of}
use Rattle.lalrpop_check.proofs.check.states.is_right_target.Goals as goal

pub returns-then-is_empty : goal.returns-then-is_empty
returns-then-is_empty c =
    let there = (has_number c.args.targets.now c.args.number).0 (sym c.if-not-contains.ensures) in
    let none = eqb-true (length c.args.items.now) 0 (sym c.is_empty.ensures ∙ c.if-is_empty.true) in
    (λ h. cc, λ h. let some = (h there).some in absurd (omega arith))

pub returns : goal.returns
returns c =
    let g = c.args.grammar.now in
    let same = same_closure g (IsMovedIn (dots c.args.items.now)) c.in_ok-closure.closure.keys c.args.here.now.keys c.in_ok-closure.ensures in
    let there = (has_number c.args.targets.now c.args.number).0 (sym c.if-not-contains.ensures) in
    (λ h at. record { some = some_of (length c.args.items.now) (sym c.is_empty.ensures ∙ c.if-is_empty.false); closed = same.0 (c.have_same.ensures.0 h) }, λ h. c.have_same.ensures.1 (same.1 (h there).closed))
