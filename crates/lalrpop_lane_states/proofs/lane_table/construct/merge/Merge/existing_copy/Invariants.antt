use Rattle.std.proofs.Common.{◌≡◌, ℕ, ◌<◌, ◌≤◌}
use Rattle.lalrpop_lane_states.specs.Words.{Advances, CannotJoin}
use Rattle.lalrpop_lane_states.proofs.lane_table.construct.merge.Merge.existing_copy.Given as goal

abbrev pub invariant-loop-index : goal.invariant-loop-index
invariant-loop-index l = record {
  advances : Advances l.initial.self l.self;
  same : l.self ≡ record l.initial.self { context_sets = l.self.context_sets };
  still : l.self ≡ l.initial.self;
  apart : (n : ℕ) → l.initial.self.first_copy ≤ n → n < l.index → CannotJoin l.initial.self l.fn.state l.fn.successor n;
}
