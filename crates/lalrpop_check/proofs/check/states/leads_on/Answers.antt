use Rattle.std.proofs.Common.{◌≡◌, ◌∙◌, ◌+◌, sym, subst}
use Rattle.std.specs.Prelude.{slice_get, Some, Contains}
use Rattle.lalrpop_base.specs.Words.{Bits, Dotted, with_dot}
use Rattle.lalrpop_check.proofs.Types.{Symbol}
use Rattle.lalrpop_collections.proofs.theory.lists.Places.{slice_get_at}
use Rattle.lr1_theory.proofs.theory.states.CheckStates.{leads_nowhere, leads_outside, leads_inside}
use Rattle.lalrpop_check.proofs.check.states.leads_on.Goals as goal

pub returns-in_default : goal.returns-in_default
returns-in_default c =
    let x : Symbol = c.index-symbols-index.result in
    let here = slice_get_at c.as_slice-symbols.result.now c.item.inside.index x c.if-index-symbols.false c.index-symbols-index.is in
    let at = subst (λ (d : Dotted Bits). slice_get d.production.symbols d.index ≡ Some x) c.item.view_is (rw c.as_slice-symbols.ensures at here) in
    (λ h. cc, λ all. absurd (leads_nowhere c.args.listed.now c.args.state.now c.args.item.now x at (sym c.target.ensures ∙ c.in_default.is) all))

pub returns-then-to-listed : goal.returns-then-to-listed
returns-then-to-listed c =
    let x : Symbol = c.index-symbols-index.result in
    let here = slice_get_at c.as_slice-symbols.result.now c.item.inside.index x c.if-index-symbols.false c.index-symbols-index.is in
    let at = subst (λ (d : Dotted Bits). slice_get d.production.symbols d.index ≡ Some x) c.item.view_is (rw c.as_slice-symbols.ensures at here) in
    (λ h. cc, λ all. absurd (leads_outside c.args.listed.now c.args.state.now c.args.item.now x at c.in-Some.to (sym c.target.ensures ∙ c.in-Some.is) c.if-to-listed.true all))

pub returns : goal.returns
returns c =
    let x : Symbol = c.index-symbols-index.result in
    let here = slice_get_at c.as_slice-symbols.result.now c.item.inside.index x c.if-index-symbols.false c.index-symbols-index.is in
    let at = subst (λ (d : Dotted Bits). slice_get d.production.symbols d.index ≡ Some x) c.item.view_is (rw c.as_slice-symbols.ensures at here) in
    let set = c.index-listed-to.result in
    let there = slice_get_at c.args.listed.now c.in-Some.to set c.if-to-listed.false c.index-listed-to.is in
    let is = leads_inside c.args.listed.now c.args.state.now c.args.item.now x at c.in-Some.to set (sym c.target.ensures ∙ c.in-Some.is) there in (
      λ h. is.0 (subst (λ (d : Dotted Bits). Contains set.keys (with_dot d.production (d.index + 1))) c.item.view_is (c.has_key.ensures.0 h)),
      λ all. c.has_key.ensures.1 (subst (λ (d : Dotted Bits). Contains set.keys (with_dot d.production (d.index + 1))) (sym c.item.view_is) (is.1 all)),
    )
