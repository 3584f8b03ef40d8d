use Rattle.std.proofs.Common.{◌≡◌, refl, arith, inl, inr, subst, sym, ap, ◌∙◌, length, Contains}
use Rattle.std.specs.Prelude.{slice_get, Some}
use Rattle.std.proofs.lemmas.Bool.{false≢true}
use Rattle.std.proofs.lemmas.Option.{slice_get_within, slice_get_read}
use Rattle.lalrpop_grammar.proofs.Types.{Production}
use Rattle.lalrpop_grammar.specs.declared.repr.Symbol.TheVariants.{Nonterminal}
use Rattle.lalrpop_collections.proofs.theory.lists.Lists.{contains_place, place_contains, same_some}
use Rattle.lalrpop_grammar.proofs.theory.grammars.NewStart.{below}
use Rattle.lalrpop_grammar.proofs.repr.augmentation.is_in_no_production.Goals as goal

pub returns-then-names : goal.returns-then-names
returns-then-names c =
    let item : Production = c.production-item.result in
    let index = c.loop-production.production-index in
    let here : slice_get c.args.productions.now index ≡ Some item = slice_get_read c.args.productions.now (length c.args.productions.now) index item refl c.loop-production-test.true c.production-item.is in (
      λ h. cc,
      λ all. absurd (all item (place_contains c.args.productions.now index item here) (subst (λ l. Contains l (Nonterminal c.args.name.now)) c.as_slice.ensures (c.names.ensures.0 c.if-names.true))),
    )

pub loop-production-preserved : goal.loop-production-preserved
loop-production-preserved c = λ k p less at d.
    let item : Production = c.production-item.result in
    let index = c.loop-production.production-index in
    let here : slice_get c.args.productions.now index ≡ Some item = slice_get_read c.args.productions.now (length c.args.productions.now) index item refl c.loop-production-test.true c.production-item.is in
    elim (below k index (omega (arith, less))) [
      | inl earlier ↦ c.loop-production.invariant k p earlier at d
      | inr e ↦
          let same : p ≡ item = same_some (sym at ∙ ap (λ i. slice_get c.args.productions.now i) e ∙ here) in
          let symbols : Contains item.symbols (Nonterminal c.args.name.now) = subst (λ (q : Production). Contains q.symbols (Nonterminal c.args.name.now)) same d in
          absurd (false≢true (sym c.if-names.false ∙ c.names.ensures.1 (subst (λ l. Contains l (Nonterminal c.args.name.now)) (sym c.as_slice.ensures) symbols)))
    ]

pub returns : goal.returns
returns c = (
  λ h p k d.
      let at = contains_place c.args.productions.now p k in
      c.loop-production.invariant at.0 p (omega (arith, slice_get_within c.args.productions.now at.0 p at.1, c.loop-production-test.false)) at.1 d,
  λ all. refl,
)
