use Rattle.std.proofs.Common.{◌≤◌, ◌+◌, Bool, true, false, cond, bytes_eq, string_bytes, ap, sym, ◌∙◌, arith}
use Rattle.symbol_texts.proofs.NameLemmas.{occurs_more}
use Rattle.symbol_texts.proofs.distinct.occurrences.Goals as goal

at_most_1 : (b : Bool) → cond b 1 0 ≤ 1
at_most_1 true = omega arith
at_most_1 false = omega arith

pub loop-other-preserved : goal.loop-other-preserved
loop-other-preserved c =
    let text = string_bytes c.args.text.now in
    let same = bytes_eq (string_bytes c.other-item.result) text in
    let one : cond same 1 0 ≤ 1 = at_most_1 same in
    record {
      is = ap (λ n. c.loop-other.count + n) c.one_if_same-count.ensures
          ∙ ap (λ n. n + cond same 1 0) c.loop-other.invariant.is
          ∙ sym (occurs_more text c.args.all.now c.loop-other.other-index c.other-item.result c.loop-other-test.true c.other-item.is);
      few = omega (arith, one, c.one_if_same-count.ensures, c.loop-other.invariant.few);
    }
