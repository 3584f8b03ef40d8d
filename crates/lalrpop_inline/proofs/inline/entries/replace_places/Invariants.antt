use Rattle.std.proofs.Common.{◌≡◌}
use Rattle.lalrpop_inline.specs.inlining.InlineSteps.{view_with}
use Rattle.lalrpop_inline.specs.Words.{replaced_places}
use Rattle.lalrpop_inline.proofs.inline.entries.replace_places.Given as goal

-- with the entries at the places that are left replaced, the view is that of all places
abbrev pub invariant-loop-place : goal.invariant-loop-place
invariant-loop-place l = replaced_places l.name l.alternatives l.place-iterator (view_with l.nonterminals.entries l.defns.items) ≡ replaced_places l.name l.alternatives l.places.keys (view_with l.initial.nonterminals.entries l.initial.defns.items)
