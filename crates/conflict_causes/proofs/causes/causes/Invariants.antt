use Rattle.conflict_causes.specs.Keys.{IsKey}
use Rattle.conflict_causes.proofs.Groups.{AreKeyed}
use Rattle.conflict_causes.proofs.causes.causes.Given as goal

-- the conflicts so far are in the groups of their keys
abbrev pub invariant-loop-number : goal.invariant-loop-number
invariant-loop-number l = AreKeyed (IsKey l.states) l.conflicts l.number l.keys.list l.causes.items
