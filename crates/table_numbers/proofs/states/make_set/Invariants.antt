use Rattle.std.proofs.Common.{◌≡◌, ℕ, ◌==◌, take}
use Rattle.std.specs.List.{list_any}
use Rattle.lalrpop_base.specs.Words.{has}
use Rattle.table_numbers.proofs.states.make_set.Given as goal

abbrev pub invariant-loop-token : goal.invariant-loop-token
invariant-loop-token l = (q : ℕ) → has l.set q ≡ list_any (λ b. q == b) (take l.token-index l.tokens)
