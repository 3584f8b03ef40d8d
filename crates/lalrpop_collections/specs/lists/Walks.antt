-- Walks over keys that lead to others, which visit each key once. A walk has the keys that were
-- visited, and a queue of those that wait (breadth-first search, Cormen, Leiserson, Rivest and
-- Stein, "Introduction to Algorithms", section 22.2).
use Rattle.std.specs.Prelude.{◌≡◌, ◌⊎◌, ◌+◌, length, Contains}
use Rattle.lalrpop_collections.specs.lists.Places.{AllDiffer}
use Rattle.lalrpop_collections.specs.declared.collections.walk.Walk.{Walk}

-- a walk visits all such keys, and no others. The new ones wait, and nothing else is queued
pub record Visits {K : Type 0} (Such : K → Type 0) (old new : Walk K) : Type 0 where
  pub kept : (k : K) → Contains old.visited.keys k → Contains new.visited.keys k
  pub there : (k : K) → Such k → Contains new.visited.keys k
  pub only : (k : K) → Contains new.visited.keys k → Contains old.visited.keys k ⊎ (Such k × Contains new.waiting.items k)
  pub stays : (k : K) → Contains old.waiting.items k → Contains new.waiting.items k
  pub waits : (k : K) → Contains new.waiting.items k → Contains old.waiting.items k ⊎ Contains new.visited.keys k
  pub differ : AllDiffer old.visited.keys → AllDiffer new.visited.keys
  pub weighed : length new.waiting.items + length old.visited.keys ≡ length old.waiting.items + length new.visited.keys

-- exactly the visited keys wait
pub record AllWait {K : Type 0} (walk : Walk K) : Type 0 where
  pub waits : (k : K) → Contains walk.visited.keys k → Contains walk.waiting.items k
  pub came : (k : K) → Contains walk.waiting.items k → Contains walk.visited.keys k
  pub differ : AllDiffer walk.visited.keys
