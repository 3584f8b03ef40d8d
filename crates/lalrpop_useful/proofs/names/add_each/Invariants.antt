use Rattle.std.proofs.Common.{◌≡◌, ◌++◌, map, take}
use Rattle.std.specs.Borrow.{Bor}
use Rattle.lalrpop_useful.proofs.Types.{Production}
use Rattle.lalrpop_useful.proofs.names.add_each.Given as goal

-- the productions so far are added
abbrev pub invariant-loop-production : goal.invariant-loop-production
invariant-loop-production l =
    map (λ (p : Bor Production). p.now) l.all.items ≡ map (λ (p : Bor Production). p.now) l.fn.all.items ++ take l.production-index l.productions
