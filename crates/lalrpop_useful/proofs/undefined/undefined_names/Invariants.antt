use Rattle.std.proofs.Common.{map, take}
use Rattle.std.specs.Borrow.{Bor}
use Rattle.lalrpop_grammar.specs.Words.{productions}
use Rattle.lalrpop_useful.proofs.Types.{Production}
use Rattle.lalrpop_useful.proofs.theory.useful.Undefined.{IsListing}
use Rattle.lalrpop_useful.proofs.undefined.undefined_names.Given as goal

abbrev pub invariant-loop-production : goal.invariant-loop-production
invariant-loop-production l = IsListing (productions l.grammar) (map (λ (p : Bor Production). p.now) (take l.production-index l.production-items)) l.uses.items
