use Rattle.std.proofs.Common.{◌∙◌, ◌+◌, ℕ, List, ap, arith, cond, sym, take}
use Rattle.std.specs.Prelude.{count_by, get_or}
use Rattle.std.proofs.lemmas.List.{take_all}
use Rattle.std.proofs.lemmas.List.Sums.{sum_by_more}
use Rattle.canonical_by_number.specs.Conflicts.{shares_in}
use Rattle.canonical_by_number.proofs.Closures.{entry_among}
use Rattle.canonical_by_number.proofs.conflicts.count_later.Goals as goal

pub shared-count-requires-clause-second : goal.shared-count-requires-clause-second
shared-count-requires-clause-second c = c.requires.later (get_or c.args.later.now c.loop-entry.entry-index (0, 0)) (entry_among c.args.later.now c.loop-entry.entry-index c.loop-entry-test.true)

pub loop-entry-preserved : goal.loop-entry-preserved
loop-entry-preserved c =
    let later : List (ℕ × ℕ) = c.args.later.now in
    let i = c.loop-entry.entry-index in
    let before = c.loop-entry.invariant in
    let more = sum_by_more (λ (e : ℕ × ℕ). cond (shares_in c.args.sets.now c.args.tokens e) 1 0) later i (0, 0) c.loop-entry-test.true in
    record {
      few = omega (arith, before.few, c.shared-count.ensures.few);
      counted = ap (λ (k : ℕ). k + c.shared-count.result) before.counted ∙ ap (λ (k : ℕ). count_by (shares_in c.args.sets.now c.args.tokens) (take i later) + k) c.shared-count.ensures.shared ∙ sym more;
    }

pub returns : goal.returns
returns c = c.loop-entry.invariant.counted ∙ ap (count_by (shares_in c.args.sets.now c.args.tokens)) (take_all c.loop-entry.entry-index c.args.later.now c.loop-entry-test.false)
