use Rattle.std.proofs.Common.{◌≡◌, ◌∙◌, ℕ, List, false, get_or, inl, inr, subst, sym, take}
use Rattle.std.specs.Prelude.{Contains}
use Rattle.std.proofs.lemmas.List.{take_all, take_more}
use Rattle.std.proofs.lemmas.List.Elements.{Contains-push_cases}
use Rattle.lalrpop_traces.specs.Words.{is_item, source}
use Rattle.lalrpop_traces.proofs.trace.ends.ends_before.Goals as goal

pub loop-number-preserved : goal.loop-number-preserved
loop-number-preserved c = λ k there.
    let g = c.args.graph.now in
    let ks : List ℕ = c.numbers_from-number-items.result.now in
    let i = c.loop-number.number-index in
    let n : ℕ = get_or ks i 0 in
    let name : is_item (source g n) ≡ false = sym c.if-comes_from_item.ensures in
    elim (Contains-push_cases (take i ks) n k (subst (λ (js : List ℕ). Contains js k) (take_more ks i 0 c.loop-number-test.true) there)) [
      | inl before ↦ c.loop-number.invariant k before
      | inr here ↦ subst (λ (m : ℕ). is_item (source g m) ≡ false) here name
    ]

pub returns : goal.returns
returns c =
    let g = c.args.graph.now in
    let ks : List ℕ = c.numbers_from-number-items.result.now in
    record { none = λ h k there. c.loop-number.invariant k (subst (λ (js : List ℕ). Contains js k) (sym (take_all c.loop-number.number-index ks c.loop-number-test.false ∙ c.numbers_from-number-items.ensures)) there) }
