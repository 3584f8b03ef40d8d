use Rattle.std.proofs.Common.{◌≡◌, ℕ, false, take}
use Rattle.std.specs.Prelude.{Contains}
use Rattle.lalrpop_traces.specs.Words.{is_item, source}
use Rattle.lalrpop_traces.proofs.trace.ends.ends_before.Given as goal

abbrev pub invariant-loop-number : goal.invariant-loop-number
invariant-loop-number l = (k : ℕ) → Contains (take l.number-index l.number-items) k → is_item (source l.graph k) ≡ false
