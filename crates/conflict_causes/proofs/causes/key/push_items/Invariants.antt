use Rattle.std.proofs.Common.{◌≡◌, ◌++◌}
use Rattle.conflict_causes.proofs.causes.key.push_items.Given as goal

-- the key so far, and the items that are left
abbrev pub invariant-loop-item : goal.invariant-loop-item
invariant-loop-item l = l.key ++ l.item-iterator ≡ l.fn.key ++ l.fn.items.keys
