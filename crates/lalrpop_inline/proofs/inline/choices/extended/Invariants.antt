use Rattle.std.proofs.Common.{◌≡◌, ◌++◌}
use Rattle.lalrpop_inline.specs.Words.{extended}
use Rattle.lalrpop_inline.proofs.inline.choices.extended.Given as goal

-- the lists so far, and those from the lists that are left, are those from all lists
abbrev pub invariant-loop-front : goal.invariant-loop-front
invariant-loop-front l = l.made.items ++ extended l.parts l.front-iterator.rest.items ≡ extended l.parts l.fn.fronts.items
