use Rattle.std.proofs.Common.{◌≡◌, ◌∷◌, [], ℕ, ap, inl, inr, List, subst, arith}
use Rattle.std.specs.Prelude.{Contains}
use Rattle.lalrpop_collections.proofs.theory.lists.Members.{contains-cons, Contains-none}
use Rattle.lr1_theory.proofs.theory.states.CheckStates.{values, value_of_leads}
use Rattle.lalrpop_check.proofs.check.by_number.reached.leads_to_first.Goals as goal

pub loop-target-init : goal.loop-target-init
loop-target-init g c =
    let same : c.into_iter-target-iterator.result ≡ c.args.edges.now.entries = cc in
    λ h. rw same h

pub loop-target-preserved : goal.loop-target-preserved
loop-target-preserved g c =
    let rest : values c.loop-target.target-iterator ≡ c.in-Some.target.now.0 ∷ values c.next.new.self = ap values c.in-Some.ensures.steps in
    λ h. elim (contains-cons c.in-Some.target.now.0 (values c.next.new.self) 0 (subst (λ (xs : List ℕ). Contains xs 0) rest (c.loop-target.invariant h))) [
      | inl e ↦ absurd (omega arith)
      | inr left ↦ left
    ]

pub returns : goal.returns
returns g c =
    let none : values c.loop-target.target-iterator ≡ [] = ap values c.in-None.ensures.steps.0 in
    let order = g.K.Ord.cmp in
    λ h leads. Contains-none 0 (subst (λ (xs : List ℕ). Contains xs 0) none (c.loop-target.invariant (value_of_leads order g.met.K.Ord.total c.args.edges.now c.len-count.ensures.ordered 0 leads)))
