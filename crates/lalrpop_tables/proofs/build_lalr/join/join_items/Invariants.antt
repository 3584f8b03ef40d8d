use Rattle.std.proofs.Common.{◌≡◌, take}
use Rattle.lalrpop_base.specs.Words.{joined_items}
use Rattle.lalrpop_tables.proofs.build_lalr.join.join_items.Given as goal

abbrev pub invariant-loop-place : goal.invariant-loop-place
invariant-loop-place l = l.items ≡ joined_items l.fn.items (take l.place l.others)
