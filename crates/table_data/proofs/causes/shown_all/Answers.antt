use Rattle.std.proofs.Common.{◌≡◌, ◌+◌, ◌++◌, ◌∷◌, [], ℕ, List, ◌∙◌, ap, length, map, refl, subst, sym, take}
use Rattle.std.proofs.lemmas.List.{map_push, take_more}
use Rattle.std.specs.List.{All}
use Rattle.std.proofs.lemmas.List.Elements.{All-push}
use Rattle.std.proofs.lemmas.Option.{slice_get_read}
use Rattle.lalrpop_ambiguity.specs.witnesses.Searches.{AreCommonMoves}
use Rattle.lalrpop_base.specs.Words.{productions}
use Rattle.table_data.specs.Causes.{HasWitness}
use Rattle.table_data.specs.declared.causes.ShownCause.{ShownCause}
use Rattle.table_data.proofs.causes.shown_all.Goals as goal

pub shown_cause-requires-clause-within : goal.shown_cause-requires-clause-within
shown_cause-requires-clause-within c =
    let all : List (List ℕ) = c.args.all.now in
    let cause : List ℕ = c.cause-item.result in
    c.requires.causes.within c.loop-cause.cause-index cause (slice_get_read all (length all) c.loop-cause.cause-index cause refl c.loop-cause-test.true c.cause-item.is)

pub loop-cause-preserved : goal.loop-cause-preserved
loop-cause-preserved c =
    let all : List (List ℕ) = c.args.all.now in
    let i = c.loop-cause.cause-index in
    let cause : List ℕ = c.cause-item.result in
    let new = c.in_ok-push.ensures in
    let shown : List ShownCause = c.loop-cause.shown.items in
    let here : ShownCause = c.in_ok-shown_cause.field-0 in
    let numbers : ShownCause → List ℕ = (λ (s : ShownCause). s.conflicts.items) in
    let grown : c.push.new.self.items ≡ shown ++ here ∷ [] = new.items in (
      ap (map numbers) grown ∙ map_push numbers shown here ∙ ap (λ (xs : List (List ℕ)). xs ++ numbers here ∷ []) c.loop-cause.invariant.0 ∙ ap (λ (x : List ℕ). take i all ++ x ∷ []) (c.in_ok-shown_cause.ensures.numbers ∙ c.cause-item.is) ∙ sym (take_more all i cause c.loop-cause-test.true),
      subst (All (λ (s : ShownCause). HasWitness (productions c.args.finder.now.ground.grammar.now) s.search)) (sym grown) (All-push (λ (s : ShownCause). HasWitness (productions c.args.finder.now.ground.grammar.now) s.search) shown here c.loop-cause.invariant.1 c.in_ok-shown_cause.ensures.search),
      subst (All (λ (s : ShownCause). AreCommonMoves s.moves s.search)) (sym grown) (All-push (λ (s : ShownCause). AreCommonMoves s.moves s.search) shown here c.loop-cause.invariant.2 c.in_ok-shown_cause.ensures.moves),
    )
