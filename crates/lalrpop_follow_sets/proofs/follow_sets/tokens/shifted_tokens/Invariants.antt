use Rattle.std.proofs.Common.{ℕ, take, ◌↔◌, IsTrue}
use Rattle.lalrpop_base.specs.Words.{has}
use Rattle.lalrpop_follow_sets.specs.follow_sets.FollowWalks.{HoldsSomeOf}
use Rattle.lalrpop_follow_sets.proofs.follow_sets.tokens.shifted_tokens.Given as goal

abbrev pub invariant-loop-edge : goal.invariant-loop-edge
invariant-loop-edge l = (bit : ℕ) → IsTrue (has l.shifted bit) ↔ HoldsSomeOf l.tokens (take l.edge-index l.edges) bit
