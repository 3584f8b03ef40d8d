use Rattle.std.proofs.Common.{◌≡◌, ◌⊎◌, List, inl, inr, refl, subst}
use Rattle.std.specs.Prelude.{Contains}
use Rattle.lalrpop_collections.proofs.theory.lists.Members.{Contains-none, contains-cons}
use Rattle.lalrpop_useful.proofs.Types.{NonterminalString}
use Rattle.lalrpop_useful.proofs.cycles.known.are_settled.Goals as goal

pub loop-other-preserved : goal.loop-other-preserved
loop-other-preserved c b there = elim (c.loop-other.invariant b there) [
  | inl left ↦ elim (contains-cons c.in-Some.other.now c.next.new.self b (subst (λ (names : List NonterminalString). Contains names b) c.in-Some.ensures.steps left)) [
    | inl same ↦ inr (subst (λ (x : NonterminalString). (x ≡ c.args.name.now) ⊎ Contains c.args.settled.now.keys x) same (c.if-not-is_settled.ensures refl))
    | inr later ↦ inl later
  ]
  | inr known ↦ inr known
]

pub returns : goal.returns
returns c t b there = elim (c.loop-other.invariant b there) [
  | inl left ↦ absurd (Contains-none b (subst (λ (names : List NonterminalString). Contains names b) c.in-None.ensures.steps.0 left))
  | inr known ↦ known
]
