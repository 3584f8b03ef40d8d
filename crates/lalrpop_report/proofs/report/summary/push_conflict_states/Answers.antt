use Rattle.std.proofs.Common.{◌∙◌, ◌++◌, ap, string_bytes, codes}
use Rattle.std.specs.Fmt.{decimal}
use Rattle.std.specs.List.{flat_map}
use Rattle.lalrpop_collections.proofs.theory.lists.Pieces.{three_pieces}
use Rattle.lalrpop_report.proofs.report.summary.push_conflict_states.Goals as goal

pub returns : goal.returns
returns g c =
    three_pieces _ _ _ _ _ _ _ c.in_ok-push_str.ensures.bytes
    (c.in_ok-push_numbers.ensures ∙ ap (λ keys. string_bytes c.push_str.new.self ++ flat_map (λ n. codes " " ++ decimal n) keys) c.in_ok-numbers.ensures)
    c.in_ok-push_str-2.ensures.bytes
