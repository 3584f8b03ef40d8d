use Rattle.std.proofs.Common.{◌≡◌}
use Rattle.lalrpop_inline.specs.Words.{in_front, chosen}
use Rattle.lalrpop_inline.proofs.inline.replace.add_choices.Given as goal

-- the productions so far, and those for the choices that are left, are those for all choices
abbrev pub invariant-loop-parts : goal.invariant-loop-parts
invariant-loop-parts l = in_front l.made.items (chosen l.outer l.parts-iterator.rest.items l.defns.items) ≡ in_front l.initial.made.items (chosen l.outer l.fn.choices.items l.initial.defns.items)
