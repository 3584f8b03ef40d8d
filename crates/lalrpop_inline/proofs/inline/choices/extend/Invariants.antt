use Rattle.std.proofs.Common.{◌≡◌, ◌++◌, take}
use Rattle.lalrpop_inline.specs.Words.{followed}
use Rattle.lalrpop_inline.proofs.inline.choices.extend.Given as goal

abbrev pub invariant-loop-part : goal.invariant-loop-part
invariant-loop-part l = l.made.items ≡ l.initial.made.items ++ followed l.front (take l.part-index l.others)
