use Rattle.std.proofs.Common.{◌≡◌, max, map, drop}
use Rattle.lalrpop_base.specs.Words.{Dotted, nonterminal_text}
use Rattle.lalrpop_report.specs.Words.{longest}
use Rattle.lalrpop_report.proofs.report.states.widest_nonterminal.Given as goal

abbrev pub invariant-loop-item : goal.invariant-loop-item
invariant-loop-item g l =
    max l.width (longest (map (λ (i : Dotted g.row.L.Denot). nonterminal_text i.production.nonterminal) (drop l.item-index l.items)))
    ≡ longest (map (λ (i : Dotted g.row.L.Denot). nonterminal_text i.production.nonterminal) l.items)
