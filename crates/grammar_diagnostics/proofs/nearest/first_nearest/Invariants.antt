use Rattle.std.proofs.Common.{◌≡◌}
use Rattle.grammar_diagnostics.specs.Nearest.{near_view, nearest_from, nearest_name}
use Rattle.grammar_diagnostics.proofs.nearest.first_nearest.Given as goal

-- the nearest name is found in the entries that are left
abbrev pub invariant-loop-other : goal.invariant-loop-other
invariant-loop-other l = (nearest_from l.name (near_view l.near) l.other-iterator).name ≡ nearest_name l.grammar l.name
