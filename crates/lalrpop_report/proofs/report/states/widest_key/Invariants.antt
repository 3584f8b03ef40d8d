use Rattle.std.proofs.Common.{◌≡◌, max, map}
use Rattle.lalrpop_report.specs.Words.{longest}
use Rattle.lalrpop_report.proofs.report.states.widest_key.Given as goal

abbrev pub invariant-loop-key : goal.invariant-loop-key
invariant-loop-key g l =
    max l.width (longest (map (λ (e : g.row.K.Denot × g.row.V.Denot). g.K.HasDisplayLen.shown e.0) l.key-iterator))
    ≡ longest (map (λ (e : g.row.K.Denot × g.row.V.Denot). g.K.HasDisplayLen.shown e.0) l.edges.entries)
