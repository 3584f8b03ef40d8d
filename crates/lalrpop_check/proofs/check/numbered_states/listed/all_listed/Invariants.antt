use Rattle.std.proofs.Common.{◌≡◌, ◌++◌, map, Some}
use Rattle.std.specs.Vec.Iter.{into_iter_items}
use Rattle.lalrpop_check.proofs.check.numbered_states.listed.all_listed.Given as goal

abbrev pub invariant-loop-place : goal.invariant-loop-place
invariant-loop-place l = map Some l.states.items ++ into_iter_items l.place-iterator ≡ l.fn.list.items
