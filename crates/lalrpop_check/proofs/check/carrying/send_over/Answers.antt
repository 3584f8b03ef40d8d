use Rattle.std.proofs.Common.{◌≡◌, ◌+◌, ◌∙◌, sym, ap}
use Rattle.lalrpop_base.specs.Words.{Dotted, at_place}
use Rattle.lalrpop_check.proofs.Types.{Nil}
use Rattle.lalrpop_states.specs.declared.lr1_core.place.Place.{Place}
use Rattle.lr1_theory.proofs.theory.check.CheckSending.{Over-end, Over-nowhere, Over-one}
use Rattle.lalrpop_check.proofs.check.carrying.send_over.Goals as goal

pub returns-in_default : goal.returns-in_default
returns-in_default c =
    let end = rw c.in_default.is at c.in_ok-symbol.ensures.shifted in
    Over-end c.args.states.now c.args.place.now c.args.tokens.now _ _ end

pub returns-in_default-target_at : goal.returns-in_default-target_at
returns-in_default-target_at c =
    let shifted = rw c.in-Some.is at c.in_ok-symbol.ensures.shifted in
    Over-nowhere c.args.states.now c.args.place.now c.args.tokens.now c.in-Some.symbol.now _ _ shifted.0 (sym c.target_at.ensures ∙ c.in_default-target_at.is)

pub returns : goal.returns
returns c =
    let shifted = rw c.in-Some.is at c.in_ok-symbol.ensures.shifted in
    let make : Dotted Nil → Place = λ i. record { state = c.in-Some-target_at.state; item = i } in
    let is : at_place c.in-Some-target_at.state c.args.place.now.item.production (c.args.place.now.item.index + 1) ≡ make c.in-Some.item = ap make (sym shifted.1) in
    Over-one c.args.states.now c.args.place.now c.args.tokens.now c.in-Some.symbol.now c.in-Some-target_at.state (make c.in-Some.item) _ _ _ _ shifted.0 (sym c.target_at.ensures ∙ c.in-Some-target_at.is) is c.in_ok-send.ensures
