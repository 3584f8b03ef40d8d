use Rattle.std.proofs.Common.{◌≡◌, ℕ, [], length, Some}
use Rattle.lalrpop_grammar.specs.Words.{pending_at}
use Rattle.lalrpop_grammar.proofs.first.rests.empty_lists.Given as goal

abbrev pub invariant-loop-name : goal.invariant-loop-name
invariant-loop-name l = record { count : length l.pending.items ≡ l._name; empty : (n : ℕ) → pending_at l.pending.items n ≡ Some [] }
