use Rattle.std.proofs.Common.{◌≡◌, ◌*◌, drop}
use Rattle.parse_calls.specs.Lookups.{production_in}
use Rattle.parse_calls.specs.Pairs.{pairs_of}
use Rattle.parse_calls.proofs.lookups.production_in.Given as goal

-- the pairs that are left have the production of all
abbrev pub invariant-loop-k : goal.invariant-loop-k
invariant-loop-k l = production_in l.numbers l.counts l.token (pairs_of (drop (2 * l.k) l.pairs)) ≡ production_in l.numbers l.counts l.token (pairs_of l.pairs)
