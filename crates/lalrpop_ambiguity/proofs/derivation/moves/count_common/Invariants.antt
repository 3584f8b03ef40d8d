use Rattle.std.proofs.Common.{◌≡◌, map, take}
use Rattle.lalrpop_ambiguity.specs.Words.{move_of}
use Rattle.lalrpop_ambiguity.proofs.derivation.moves.count_common.Given as goal

-- the moves so far are the same
abbrev pub invariant-loop-place : goal.invariant-loop-place
invariant-loop-place l = take l.place (map move_of l.moves.items) ≡ take l.place (map move_of l.others.items)
