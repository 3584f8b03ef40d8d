use Rattle.std.proofs.Common.{◌≡◌, ◌≤◌, drop, length}
use Rattle.parse_calls.specs.Runs.{run}
use Rattle.parse_calls.proofs.machine.Machine.run.Given as goal

-- the run that is left is the whole run
abbrev pub invariant-loop-at : goal.invariant-loop-at
invariant-loop-at l =
    (l.at ≤ length l.tokens) × (run l.numbers l.self.left l.self.stack.items l.self.events.items (drop l.at l.tokens) ≡ run l.numbers l.initial.self.left l.initial.self.stack.items l.initial.self.events.items l.tokens)

abbrev pub decreases-loop-at : goal.decreases-loop-at
decreases-loop-at l = l.self.left
