use Rattle.std.proofs.Common.{ℕ, List, get_or, refl, subst, sym}
use Rattle.std.specs.Prelude.{Contains}
use Rattle.std.proofs.lemmas.List.{get_or_default}
use Rattle.std.proofs.lemmas.List.Elements.{Contains-get_or}
use Rattle.lalrpop_collections.proofs.theory.lists.EachLemmas.{each_below_more, each_of_below}
use Rattle.lalrpop_collections.proofs.theory.lists.Members.{place}
use Rattle.lalrpop_check.proofs.check.by_number.leading.lead_on.Goals as goal

pub leads_on-requires-clause-known : goal.leads_on-requires-clause-known
leads_on-requires-clause-known c =
    let items : List ℕ = c.deref-item-items.result.now in
    let item = get_or items c.loop-item.item-index 0 in
    c.requires item (subst (λ (ks : List ℕ). Contains ks item) c.deref-item-items.ensures.value (Contains-get_or items c.loop-item.item-index 0 c.loop-item-test.true))

pub loop-item-preserved : goal.loop-item-preserved
loop-item-preserved c =
    let items : List ℕ = c.deref-item-items.result.now in
    let k = c.loop-item.item-index in
    let item = get_or items k 0 in
    each_below_more _ items k item c.loop-item-test.true (get_or_default items k 0 item c.loop-item-test.true) (rw c.deref.ensures.value at (c.if-not-leads_on.ensures refl)) c.loop-item.invariant

pub returns : goal.returns
returns c = λ h item among.
    let items : List ℕ = c.deref-item-items.result.now in
    let there = subst (λ (ks : List ℕ). Contains ks item) (sym c.deref-item-items.ensures.value) among in
    let at = place items item there in
    each_of_below _ items _ c.loop-item-test.false c.loop-item.invariant at.0 item at.2
