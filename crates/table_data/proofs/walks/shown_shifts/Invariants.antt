use Rattle.std.proofs.Common.{◌≡◌, map, take}
use Rattle.table_data.specs.Conflicts.{place_of_shown, shifted_places}
use Rattle.table_data.proofs.walks.shown_shifts.Given as goal

-- the items so far that shift the terminal are shown
abbrev pub invariant-loop-item : goal.invariant-loop-item
invariant-loop-item l = map place_of_shown l.shown.items ≡ shifted_places l.terminal (take l.item-index l.items)
