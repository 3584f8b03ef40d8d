use Rattle.std.proofs.Common.{◌≡◌, ◌*◌, drop}
use Rattle.parse_calls.specs.Lookups.{target_in}
use Rattle.parse_calls.specs.Pairs.{pairs_of}
use Rattle.parse_calls.proofs.lookups.target_in.Given as goal

-- the pairs that are left have the target of all
abbrev pub invariant-loop-k : goal.invariant-loop-k
invariant-loop-k l = target_in (pairs_of (drop (2 * l.k) l.pairs)) l.name ≡ target_in (pairs_of l.pairs) l.name
