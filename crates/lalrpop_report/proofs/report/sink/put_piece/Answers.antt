use Rattle.std.proofs.Common.{ℕ, List, ◌++◌, ◌∙◌, subst}
use Rattle.std.proofs.lemmas.Result.{on_err_weaker}
use Rattle.lalrpop_report.specs.reports.ReportSinks.{WroteBeginning}
use Rattle.lalrpop_report.proofs.theory.reports.Puts.{part_second}
use Rattle.lalrpop_report.proofs.report.sink.put_piece.Goals as goal

pub returns-clause-part : goal.returns-clause-part
returns-clause-part g c =
    let old = g.S.Sink.contents c.args.out.now in
    let mid = g.S.Sink.contents c.put_all.new.out in
    let new = g.S.Sink.contents c.put_all-2.new.out in
    let own = c.as_bytes.result.now in
    on_err_weaker c.put_all-2.result
    (λ part. subst (λ (bytes : List ℕ). WroteBeginning old new (bytes ++ c.args.piece.now.1)) c.as_bytes.ensures.value
    (subst (λ (line : List ℕ). WroteBeginning old new (own ++ line)) (c.as_bytes-2.ensures.value ∙ c.as_str.ensures) (part_second old mid new own c.as_bytes-2.result.now c.in_ok-put_all.ensures.whole part)))
    c.put_all-2.ensures.part
