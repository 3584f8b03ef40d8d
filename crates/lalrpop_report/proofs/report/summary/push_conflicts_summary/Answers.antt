use Rattle.std.proofs.Common.{◌∙◌, ◌++◌, ap, string_bytes, codes}
use Rattle.lalrpop_report.specs.Words.{kind_line}
use Rattle.lalrpop_collections.proofs.theory.lists.Pieces.{four_pieces}
use Rattle.lalrpop_report.proofs.report.summary.push_conflicts_summary.Goals as goal

pub returns : goal.returns
returns g c =
    four_pieces _ _ _ _ _ _ _ _ _ c.in_ok-write.ensures.bytes
    (c.in_ok-push_kind.ensures ∙ ap (λ n. string_bytes c.write.new.self ++ kind_line (codes "shift/reduce:  ") n) c.count_shifts.ensures)
    (c.in_ok-push_kind-2.ensures ∙ ap (λ n. string_bytes c.push_kind.new.text ++ kind_line (codes "reduce/reduce: ") n) c.count_reduces.ensures)
    c.in_ok-push_conflict_states.ensures
