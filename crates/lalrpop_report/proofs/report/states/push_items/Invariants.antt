use Rattle.std.proofs.Common.{◌≡◌, ◌++◌, take}
use Rattle.std.specs.List.{flat_map}
use Rattle.lalrpop_report.specs.Words.{item_lines}
use Rattle.lalrpop_report.proofs.report.states.push_items.Given as goal

abbrev pub invariant-loop-item : goal.invariant-loop-item
invariant-loop-item g l =
    l.text ≡ l.fn.text ++ flat_map (item_lines g.L.Lookahead.meaning l.lines l.width) (take l.item-index l.items)
