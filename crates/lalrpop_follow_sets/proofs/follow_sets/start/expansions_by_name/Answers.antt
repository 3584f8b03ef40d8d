use Rattle.std.proofs.Common.{◌≡◌, ◌∙◌, ◌+◌, ◌++◌, ◌∷◌, [], Global, List, ℕ, Vec, ap, arith, length, refl, subst, sym, take}
use Rattle.std.proofs.lemmas.List.{length-take-le, take_all, take_more}
use mathlib.Core.Bool.{true≢false}
use Rattle.lalrpop_base.specs.Words.{Dotted, AreExpansions}
use Rattle.lalrpop_follow_sets.proofs.Types.{Nil, NonterminalString}
use Rattle.lalrpop_grammar.specs.declared.repr.Symbol.TheVariants.{Nonterminal}
use Rattle.lalrpop_follow_sets.proofs.theory.numbers.ExpansionNumbers.{Fronts-more, Expansions-none, Fronts-same}
use Rattle.lalrpop_follow_sets.proofs.follow_sets.start.expansions_by_name.Goals as goal
use Rattle.lalrpop_follow_sets.proofs.follow_sets.start.expansions_by_name.Goals.{then-item-eq0+then-equal+in_ok-push, else-item-eq0, else-item-eq0-via-then-item-eq0+else-equal, else-item-eq0-via-else-item-eq0}

pub loop-number-init : goal.loop-number-init
loop-number-init c = subst (AreExpansions [] (Nonterminal c.args.name.now)) (sym c.new-expansions.ensures.items) (Expansions-none c.args.name.now)

pub loop-number-preserved : goal.loop-number-preserved
loop-number-preserved c =
    let items : List (Dotted Nil) = c.args.numbers.now.items.items in
    let a : NonterminalString = c.args.name.now in
    let k = c.loop-number.number in
    let i : Dotted Nil = c.index-item.result.now in
    let old : List ℕ = c.loop-number.expansions.items in
    let new : List ℕ = c.if-item-eq0.expansions.items in
    let more : take (k + 1) items ≡ take k items ++ i ∷ [] = take_more items k i (omega arith) ∙ ap (λ (j : Dotted Nil). take k items ++ j ∷ []) (sym c.index-item.ensures) in
    let count : length (take k items) ≡ k = length-take-le k items (omega arith) in
    let same : List ℕ → Type 0 = AreExpansions (take k items ++ i ∷ []) (Nonterminal a) in
    let name_is = ap (λ (j : Dotted Nil). j.production.nonterminal) c.item.view_is in
    let dot_is = ap (λ (j : Dotted Nil). j.index) c.item.view_is in
    subst (λ (done : List (Dotted Nil)). AreExpansions done (Nonterminal a) new) (sym more)
    (elim c.if-item-eq0.branch [
      | then-item-eq0+then-equal+in_ok-push w ↦
          let grown : new ≡ old ++ k ∷ [] = ap (λ (v : Vec ℕ Global). v.items) w.expansions-is ∙ w.in_ok-push.ensures.items in
          let expansion : i.index ≡ 0 = omega arith in
          subst same (sym grown) (subst (λ (n : ℕ). same (old ++ n ∷ [])) count (Fronts-more (take k items) i a old c.loop-number.invariant expansion (sym name_is ∙ w.if-equal.ensures.0 refl)))
      | else-item-eq0 w ↦ subst same (sym (ap (λ (v : Vec ℕ Global). v.items) w.expansions-is)) (Fronts-same (take k items) i a old c.loop-number.invariant (elim w.else-item-eq0.branch [
        | else-item-eq0-via-then-item-eq0+else-equal v ↦ λ expansion name. true≢false (sym (v.if-equal.ensures.1 (name_is ∙ name)))
        | else-item-eq0-via-else-item-eq0 v ↦ λ expansion name. absurd (omega arith)
      ]))
    ])

pub returns : goal.returns
returns c = subst (λ (done : List (Dotted Nil)). AreExpansions done (Nonterminal c.args.name.now) c.loop-number.expansions.items) (take_all c.loop-number.number c.args.numbers.now.items.items (omega arith)) c.loop-number.invariant
