use Rattle.std.proofs.Common.{◌<◌, ◌≤◌, ◌-◌, suc, length, take}
use Rattle.lalrpop_base.specs.Words.{contents_in}
use Rattle.parse_pictures.specs.NextTokens.{DoesNotShiftAll, IsAllShifted}
use Rattle.parse_pictures.proofs.expected.shifted_count.Given as goal

-- the first `low` terminals are shifted, and no more than `high`
abbrev pub invariant-loop-low : goal.invariant-loop-low
invariant-loop-low g l =
    (l.low ≤ l.high) × (l.high ≤ length l.tokens)
    × IsAllShifted (contents_in (g.L.LookaheadInterpret.holds l.terminals) l.states) l.limit (take l.low l.tokens)
    × (l.high < length l.tokens → DoesNotShiftAll (contents_in (g.L.LookaheadInterpret.holds l.terminals) l.states) l.limit (take (suc l.high) l.tokens))

abbrev pub decreases-loop-low : goal.decreases-loop-low
decreases-loop-low g l = l.high - l.low
