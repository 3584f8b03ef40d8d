use Rattle.std.proofs.Common.{◌≡◌, ℕ, List, map, slice_get, Option, Some, ap, ◌∙◌}
use Rattle.lalrpop_base.specs.Words.{Bits}
use Rattle.lalrpop_grammar.specs.declared.repr.Production.{Production}
use Rattle.table_numbers.specs.Numbered.{reduction_at, reduction_parts}
use Rattle.table_numbers.proofs.NumberedLemmas.{next_reduction}
use Rattle.table_numbers.proofs.number.number_reductions.Goals as goal

pub loop-tokens-preserved : goal.loop-tokens-preserved
loop-tokens-preserved c =
    let ps = c.args.productions.now in
    let new = c.number_set.new.sets in
    let number = c.in_ok-number_of.field-0 in
    let set = c.in_ok-number_set.field-0 in
    let q = c.loop-tokens-item.result in
    let first : slice_get ps number ≡ Some q.1.now = ap (slice_get ps) c.in_ok-number_of.ensures ∙ c.in-Some.ensures in
    let found : slice_get new set ≡ Some q.0 = c.in_ok-number_set.ensures.found in
    let at : reduction_at ps new (number, set) ≡ reduction_parts q = ap (λ (o : Option Production). (o, slice_get new set)) first ∙ ap (λ (o : Option Bits). (Some q.1.now, o)) found in
    record {
      done = ap (λ (xs : List (ℕ × ℕ)). map (reduction_at ps new) xs) c.in_ok-push.ensures.ok
          ∙ next_reduction ps c.loop-tokens.sets new c.in_ok-number_set.ensures.kept c.loop-tokens.pairs c.args.reductions.now c.loop-tokens.tokens-index (number, set) q c.loop-tokens-test.true c.loop-tokens-item.is at c.loop-tokens.invariant.done;
      kept = λ n x there. c.in_ok-number_set.ensures.kept n x (c.loop-tokens.invariant.kept n x there);
    }
