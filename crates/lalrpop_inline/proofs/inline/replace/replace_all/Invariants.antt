use Rattle.std.proofs.Common.{◌≡◌}
use Rattle.lalrpop_inline.specs.Words.{in_front, replaced_all}
use Rattle.lalrpop_inline.proofs.inline.replace.replace_all.Given as goal

-- the productions so far, and those for the productions that are left, are those for all
-- productions
abbrev pub invariant-loop-production : goal.invariant-loop-production
invariant-loop-production l = in_front l.made.items (replaced_all l.name l.alternatives l.production-iterator.rest.items l.defns.items) ≡ replaced_all l.name l.alternatives l.fn.productions.items l.initial.defns.items
