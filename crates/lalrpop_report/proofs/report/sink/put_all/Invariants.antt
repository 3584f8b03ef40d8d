use Rattle.std.proofs.Common.{◌≡◌, ◌≤◌, ◌-◌, length, take}
use Rattle.std.specs.Io.KnownBytes.{Appends}
use Rattle.lalrpop_report.proofs.report.sink.put_all.Given as goal

abbrev pub invariant-loop-at : goal.invariant-loop-at
invariant-loop-at g l =
    (l.at ≤ length l.text) × Appends (g.S.Sink.contents l.initial.out) (g.S.Sink.contents l.out) (take l.at l.text)
    × (g.S.Sink.fault_count l.out ≡ g.S.Sink.fault_count l.initial.out)

abbrev pub decreases-loop-at : goal.decreases-loop-at
decreases-loop-at g l = length l.text - l.at
