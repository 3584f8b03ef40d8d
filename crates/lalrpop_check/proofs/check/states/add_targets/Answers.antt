use Rattle.std.proofs.Common.{◌≡◌, ◌∷◌, [], ℕ, ap, inl, inr, List, subst}
use Rattle.std.specs.Prelude.{Contains}
use Rattle.lalrpop_collections.proofs.theory.lists.Members.{Contains-none}
use Rattle.lr1_theory.proofs.theory.states.CheckStates.{values, targets_more, leads_of_value, value_of_leads, number_added}
use Rattle.lalrpop_check.proofs.check.states.add_targets.Goals as goal

pub loop-target-init : goal.loop-target-init
loop-target-init g c =
    let same : c.into_iter-target-iterator.result ≡ c.args.edges.now.entries = cc in
    λ m. (λ h. rw (← same) h, λ h. rw same h)

pub loop-target-preserved : goal.loop-target-preserved
loop-target-preserved g c =
    let rest : values c.loop-target.target-iterator ≡ c.in-Some.target.now.0 ∷ values c.next.new.self = ap values c.in-Some.ensures.steps in
    let more = targets_more c.loop-target.targets.keys c.insert.new.self.keys c.in-Some.target.now.0 (values c.next.new.self) (values c.loop-target.target-iterator) (number_added c.in-Some.target.now.0 _ _ c.in_ok-insert.ensures.keys) rest in
    λ m. (λ h. (c.loop-target.invariant m).0 ((more m).0 h), λ h. (more m).1 ((c.loop-target.invariant m).1 h))

pub returns : goal.returns
returns g c =
    let none : values c.loop-target.target-iterator ≡ [] = ap values c.in-None.ensures.steps.0 in
    let order = g.K.Ord.cmp in
    let ordered = c.len-count.ensures.ordered in
    λ m. (
      λ h. elim ((c.loop-target.invariant m).0 (inl h)) [ inl o ↦ inl o | inr v ↦ inr (leads_of_value order g.met.K.Ord.total c.args.edges.now ordered m v) ],
      λ h. elim ((c.loop-target.invariant m).1 (elim h [ inl o ↦ inl o | inr l ↦ inr (value_of_leads order g.met.K.Ord.total c.args.edges.now ordered m l) ])) [ inl n ↦ n | inr r ↦ absurd (Contains-none m (subst (λ (xs : List ℕ). Contains xs m) none r)) ],
    )
