use Rattle.std.proofs.Common.{take}
use Rattle.std.specs.Fmt.{HasWritten, IsPlainFormatter}
use Rattle.std.specs.List.{flat_map}
use Rattle.lalrpop_traces.specs.Words.{after_mark}
use Rattle.lalrpop_traces.proofs.trace.example.show_after.Given as goal

-- the symbols so far are written
abbrev pub invariant-loop-symbol : goal.invariant-loop-symbol
invariant-loop-symbol g l =
    IsPlainFormatter l.fn.f → HasWritten g.W.Write.write_str_gives l.fn.f (flat_map after_mark (take l.symbol-index l.symbols)) l.f
