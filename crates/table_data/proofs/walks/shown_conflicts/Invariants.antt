use Rattle.std.proofs.Common.{◌≡◌, map, take}
use Rattle.std.specs.List.{All}
use Rattle.table_data.specs.Conflicts.{ShowsItems}
use Rattle.table_data.specs.declared.conflicts.ShownConflict.{ShownConflict}
use Rattle.table_data.proofs.walks.shown_conflicts.Given as goal

-- the conflicts so far are shown
abbrev pub invariant-loop-conflict : goal.invariant-loop-conflict
invariant-loop-conflict l = record {
  conflicts : map (λ (s : ShownConflict). s.conflict.now) l.shown.items ≡ take l.conflict-index l.conflicts;
  items : All (ShowsItems l.context.states.now) l.shown.items;
}
