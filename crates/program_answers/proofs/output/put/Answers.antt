use Rattle.std.proofs.Common.{◌≡◌, ◌∙◌, ◌++◌, ℕ, List, ap, refl, append_assoc}
use Rattle.std.proofs.lemmas.List.{append-nil}
use Rattle.program_answers.proofs.Written.{appends_more}
use Rattle.program_answers.proofs.output.put.Goals as goal

pub returns-clause-put : goal.returns-clause-put
returns-clause-put g c = λ h.
    let kept = c.deref.result.now in
    let same : kept ≡ c.args.buffer.now.items = c.deref.ensures.value ∙ c.if-keep.ensures.same refl in (
      kept ++ c.args.bytes.now,
      ap (λ (left : List ℕ). (kept ++ c.args.bytes.now) ++ left) c.clear.ensures.items ∙ append-nil (kept ++ c.args.bytes.now) ∙ ap (λ (b : List ℕ). b ++ c.args.bytes.now) same,
      appends_more (g.W.Write.contents c.args.out.now) (g.W.Write.contents c.write_bytes.new.out) (g.W.Write.contents c.write_bytes-2.new.out) kept c.args.bytes.now (c.if-not-write_bytes.ensures.whole refl) (c.write_bytes-2.ensures.whole h),
    )

pub returns-clause-part : goal.returns-clause-part
returns-clause-part g c =
    let kept = c.deref.result.now in
    let same : kept ≡ c.args.buffer.now.items = c.deref.ensures.value ∙ c.if-keep.ensures.same refl in
    let part = c.write_bytes-2.ensures.part in (
      kept ++ part.0,
      part.1,
      append_assoc kept part.0 part.1 ∙ ap (λ (b : List ℕ). kept ++ b) part.2 ∙ ap (λ (b : List ℕ). b ++ c.args.bytes.now) same,
      appends_more (g.W.Write.contents c.args.out.now) (g.W.Write.contents c.write_bytes.new.out) (g.W.Write.contents c.write_bytes-2.new.out) kept part.0 (c.if-not-write_bytes.ensures.whole refl) part.3,
    )
