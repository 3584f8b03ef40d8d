use Rattle.std.proofs.Common.{◌∙◌, ℕ, List, get_or, inl, inr, subst, sym, take}
use Rattle.std.specs.Prelude.{Contains}
use Rattle.std.proofs.lemmas.List.{take_all, take_more}
use Rattle.std.proofs.lemmas.List.Elements.{Contains-push_cases}
use Rattle.lalrpop_collections.proofs.theory.lists.Members.{Contains-none}
use Rattle.lalrpop_traces.proofs.theory.traces.CanMeet.{NoneAt}
use Rattle.lalrpop_traces.proofs.trace.can_meet.meets_before.Goals as goal

pub loop-number-init : goal.loop-number-init
loop-number-init c = λ k there. absurd (Contains-none k there)

pub loop-number-preserved : goal.loop-number-preserved
loop-number-preserved c = λ k there.
    let ks : List ℕ = c.numbers_from-number-items.result.now in
    let i = c.loop-number.number-index in
    let n : ℕ = get_or ks i 0 in
    elim (Contains-push_cases (take i ks) n k (subst (λ (js : List ℕ). Contains js k) (take_more ks i 0 c.loop-number-test.true) there)) [
      | inl before ↦ c.loop-number.invariant k before
      | inr here ↦ subst (NoneAt c.args.graph.now c.args.first_sets.now c.args.lookahead.now) here (c.in_ok-meets.ensures.none c.if-branch.false)
    ]

pub returns : goal.returns
returns c =
    let ks : List ℕ = c.numbers_from-number-items.result.now in
    record { none = λ h k there. c.loop-number.invariant k (subst (λ (js : List ℕ). Contains js k) (sym (take_all c.loop-number.number-index ks c.loop-number-test.false ∙ c.numbers_from-number-items.ensures)) there) }
