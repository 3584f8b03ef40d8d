use Rattle.std.proofs.Common.{◌≡◌, ◌++◌, map}
use Rattle.std.specs.Borrow.{Bor}
use Rattle.lalrpop_base.specs.Words.{Bits}
use Rattle.lalrpop_tables.proofs.Types.{Production}
use Rattle.lalrpop_tables.proofs.build_lalr.reductions.list_reductions.Given as goal

abbrev pub invariant-loop-production : goal.invariant-loop-production
invariant-loop-production l = l.list.items ++ map (λ (e : Bor Production × Bits). (e.1, e.0)) l.production-iterator ≡ map (λ (e : Bor Production × Bits). (e.1, e.0)) l.fn.tokens_of
