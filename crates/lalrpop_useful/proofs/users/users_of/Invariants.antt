use Rattle.std.proofs.Common.{map, take}
use Rattle.std.specs.Borrow.{Bor}
use Rattle.lalrpop_useful.specs.Words.{HasUsers}
use Rattle.lalrpop_useful.proofs.Types.{Production}
use Rattle.lalrpop_useful.proofs.users.users_of.Given as goal

abbrev pub invariant-loop-production : goal.invariant-loop-production
invariant-loop-production l = HasUsers (map (λ (p : Bor Production). p.now) (take l.production-index l.all)) l.users
