use Rattle.std.proofs.Common.{◌≡◌, ◌+◌, ◌-◌, ◌++◌, take, drop, length, sym, ap, ◌∙◌, subst, arith}
use Rattle.std.proofs.Math.Seq.{take-add}
use Rattle.std.proofs.lemmas.List.{take_rest}
use Rattle.std.proofs.KnownBytes.{Appends-trans}
use Rattle.std.specs.Io.KnownBytes.{Appends}
use Rattle.lalrpop_report.proofs.report.sink.put_all.Goals as goal

pub loop-at-preserved : goal.loop-at-preserved
loop-at-preserved g c =
    let at = c.loop-at.at in
    let k = c.in-Ok.k in
    let text = c.args.text.now in
    let joined : take (at + k) text ≡ take at text ++ take k (take (length text - at) (drop at text)) =
    take-add at k text ∙ ap (λ xs. take at text ++ take k xs) (sym (take_rest text at)) in (
      omega (arith, c.in-Ok.ensures.count),
      subst (Appends _ _) (sym joined) (Appends-trans _ _ _ _ _ c.loop-at.invariant.1 c.in-Ok.ensures.taken),
      c.in-Ok.ensures.counted.1 (omega (arith, c.in-Ok.k-test)) ∙ c.loop-at.invariant.2,
    )
