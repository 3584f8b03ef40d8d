use Rattle.std.proofs.Common.{◌≡◌, ◌≤◌, ◌++◌, ◌∷◌, [], ℕ, List, Option, Some, ap, arith, length, length-append, subst}
use Rattle.std.specs.Prelude.{slice_get}
use Rattle.lalrpop_collections.proofs.theory.lists.Places.{slice_get_at}
use Rattle.lalrpop_numbers.specs.declared.numbers.suffixes.Suffix.{Suffix}
use Rattle.canonical_by_number.proofs.Beginning.{Firsts-all, Firsts-more}
use Rattle.canonical_by_number.proofs.TokenSets.{keeps_all, keeps_then}
use Rattle.canonical_by_number.proofs.states.firsts_of.Goals as goal

pub loop-suffix-init : goal.loop-suffix-init
loop-suffix-init c = record {
  kept = keeps_all c.args.sets.now;
  counted = ap (λ (xs : List ℕ). length xs) c.new-firsts.ensures.items;
  each = λ k suffix l at. absurd (omega (arith, l));
}

pub loop-suffix-preserved : goal.loop-suffix-preserved
loop-suffix-preserved c =
    let i = c.loop-suffix.suffix-index in
    let suffixes = c.args.numbers.now.suffixes.items in
    let before = c.loop-suffix.invariant in
    let number = c.in_ok-first_number.field-0 in
    let read = slice_get_at c.deref-suffix-items.result.now i c.suffix-item.result c.loop-suffix-test.true c.suffix-item.is in
    let at : slice_get suffixes i ≡ Some c.suffix-item.result = subst (λ (xs : List (Option Suffix)). slice_get xs i ≡ Some c.suffix-item.result) c.deref-suffix-items.ensures.value read in
    let longer = length-append c.loop-suffix.firsts.items (number ∷ []) in
    let push = c.in_ok-push.ensures.items in
    let more : length c.push.new.self.items ≡ length (c.loop-suffix.firsts.items ++ number ∷ []) = ap (λ (xs : List ℕ). length xs) push in
    record {
      kept = keeps_then c.args.sets.now c.loop-suffix.sets c.first_number.new.sets before.kept c.in_ok-first_number.ensures.kept;
      counted = omega (arith, more, longer, before.counted);
      each = Firsts-more suffixes c.loop-suffix.sets c.first_number.new.sets c.in_ok-first_number.ensures.kept c.loop-suffix.firsts.items c.push.new.self.items number i push before.counted c.suffix-item.result at c.in_ok-first_number.ensures.number before.each;
    }

pub returns-clause-kept : goal.returns-clause-kept
returns-clause-kept c = c.loop-suffix.invariant.kept

pub returns-clause-firsts : goal.returns-clause-firsts
returns-clause-firsts c =
    let end : length c.args.numbers.now.suffixes.items ≤ c.loop-suffix.suffix-index = subst (λ (xs : List (Option Suffix)). length xs ≤ c.loop-suffix.suffix-index) c.deref-suffix-items.ensures.value c.loop-suffix-test.false in
    Firsts-all c.args.numbers.now c.loop-suffix.sets c.loop-suffix.firsts.items c.loop-suffix.suffix-index end c.loop-suffix.invariant.counted c.loop-suffix.invariant.each
