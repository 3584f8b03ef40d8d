use Rattle.std.proofs.Common.{◌∙◌, ◌+◌, ℕ, List, ap, arith, cond, sym, take}
use Rattle.std.specs.Prelude.{count_by, get_or}
use Rattle.std.proofs.lemmas.List.{take_all}
use Rattle.std.proofs.lemmas.List.Sums.{sum_by_more}
use Rattle.canonical_by_number.specs.Conflicts.{holds_in}
use Rattle.canonical_by_number.proofs.Closures.{entry_among}
use Rattle.canonical_by_number.proofs.conflicts.count_on_bit.Goals as goal

pub held-count-requires : goal.held-count-requires
held-count-requires c = c.requires (get_or c.args.finished.now c.loop-entry.entry-index (0, 0)) (entry_among c.args.finished.now c.loop-entry.entry-index c.loop-entry-test.true)

pub loop-entry-preserved : goal.loop-entry-preserved
loop-entry-preserved c =
    let finished : List (ℕ × ℕ) = c.args.finished.now in
    let i = c.loop-entry.entry-index in
    let before = c.loop-entry.invariant in
    let more = sum_by_more (λ (e : ℕ × ℕ). cond (holds_in c.args.sets.now c.args.bit e) 1 0) finished i (0, 0) c.loop-entry-test.true in
    record {
      few = omega (arith, before.few, c.held-count.ensures.few);
      counted = ap (λ (k : ℕ). k + c.held-count.result) before.counted ∙ ap (λ (k : ℕ). count_by (holds_in c.args.sets.now c.args.bit) (take i finished) + k) c.held-count.ensures.held ∙ sym more;
    }

pub returns : goal.returns
returns c = c.loop-entry.invariant.counted ∙ ap (count_by (holds_in c.args.sets.now c.args.bit)) (take_all c.loop-entry.entry-index c.args.finished.now c.loop-entry-test.false)
