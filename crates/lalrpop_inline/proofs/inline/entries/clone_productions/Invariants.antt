use Rattle.std.proofs.Common.{◌≡◌, take}
use Rattle.lalrpop_inline.proofs.inline.entries.clone_productions.Given as goal

abbrev pub invariant-loop-production : goal.invariant-loop-production
invariant-loop-production l = l.copy.items ≡ take l.production-index l.productions
