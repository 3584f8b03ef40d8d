use Rattle.std.proofs.Common.{◌≡◌, ◌++◌, string_bytes, codes}
use Rattle.std.specs.Fmt.{decimal}
use Rattle.std.specs.List.{flat_map}
use Rattle.lalrpop_report.proofs.report.summary.push_numbers.Given as goal

abbrev pub invariant-loop-number : goal.invariant-loop-number
invariant-loop-number l =
    string_bytes l.text ++ flat_map (λ n. codes " " ++ decimal n) l.number-iterator ≡ string_bytes l.fn.text ++ flat_map (λ n. codes " " ++ decimal n) l.numbers.keys
