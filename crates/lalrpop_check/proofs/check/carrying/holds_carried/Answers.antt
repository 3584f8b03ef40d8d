use Rattle.std.proofs.Common.{◌≡◌, sym, subst, true, refl}
use Rattle.std.specs.Prelude.{Contains}
use Rattle.lalrpop_base.specs.Words.{Bits, has, Dotted, finished}
use Rattle.lalrpop_check.proofs.Types.{Nil}
use Rattle.lalrpop_states.specs.declared.lr1_core.place.Place.{Place}
use Rattle.lr1_theory.proofs.theory.check.CheckSending.{holds_joined}
use Rattle.lalrpop_collections.proofs.theory.lists.Places.{same_some}
use Rattle.lalrpop_check.proofs.check.carrying.holds_carried.Goals as goal

pub returns-in_default : goal.returns-in_default
returns-in_default c =
    let key : c.lr0-item.result ≡ finished c.args.reduction.now.1.now = cc in
    let make : Dotted Nil → Place = λ i. record { state = c.args.state; item = i } in (
      λ h set entry.
          let there = subst (λ (i : Dotted Nil). Contains c.args.table.now.entries (make i, set)) (sym key) entry in
          let some = rw c.in_default.is at (c.find_tokens.ensures.all c.requires set there) in
          absurd (cc),
      λ all. refl,
    )

pub returns : goal.returns
returns c =
    let key : c.lr0-item.result ≡ finished c.args.reduction.now.1.now = cc in
    let make : Dotted Nil → Place = λ i. record { state = c.args.state; item = i } in
    let found = λ (set : Bits) (entry : Contains c.args.table.now.entries (make (finished c.args.reduction.now.1.now), set)).
    let there = subst (λ (i : Dotted Nil). Contains c.args.table.now.entries (make i, set)) (sym key) entry in
    same_some c.in-Some.set.now set (rw c.in-Some.is at (c.find_tokens.ensures.all c.requires set there)) in
    let is = rw c.in_ok-held.ensures at (holds_joined c.in_ok-more.more _ _ _ c.in_ok-more.ensures.joined c.in_ok-more.ensures.told) in (
      λ h set entry bit there. is.0 h bit (subst (λ (s : Bits). has s bit ≡ true) (sym (found set entry)) there),
      λ all. is.1 (λ bit there. all c.in-Some.set.now (subst (λ (i : Dotted Nil). Contains c.args.table.now.entries (make i, c.in-Some.set.now)) key (c.find_tokens.ensures.found c.in-Some.set.now (rw c.in-Some.is refl))) bit there),
    )
