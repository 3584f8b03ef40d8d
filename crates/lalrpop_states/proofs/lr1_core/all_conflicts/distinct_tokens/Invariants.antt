use Rattle.std.proofs.Common.{◌↔◌, ℕ, take}
use Rattle.std.specs.Prelude.{IsTrue}
use Rattle.lalrpop_collections.specs.Words.{has}
use Rattle.lalrpop_states.specs.conflicts.HeldShifts.{IsHeldBit, ShareNoBit}
use Rattle.lalrpop_states.proofs.lr1_core.all_conflicts.distinct_tokens.Given as goal

abbrev pub invariant-loop-reduction : goal.invariant-loop-reduction
invariant-loop-reduction l = record {
  apart : ShareNoBit (take l.reduction-index l.reductions);
  tokens : (bit : ℕ) → IsTrue (has l.held bit) ↔ IsHeldBit (take l.reduction-index l.reductions) bit;
}
