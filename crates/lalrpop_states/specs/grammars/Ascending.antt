-- The order of items: by production, and then by the index of the dot.
use Rattle.std.specs.Prelude.{◌≡◌, ◌<◌, ◌⊎◌, List}
use Rattle.std.specs.declared.cmp.Ordering.{Ordering}
use Rattle.lalrpop_collections.specs.lists.Each.{Ordered}
use Rattle.lalrpop_grammar.specs.conflicts.Conflicts.{IsLess}
use Rattle.lalrpop_states.specs.states.Items.{Dotted}
use Rattle.lalrpop_grammar.specs.contracts.repr.ProductionOrd.TheImpl as production_ord
use Rattle.lalrpop_grammar.specs.declared.repr.Production.{Production}

-- the order of productions: by their parts, nonterminal first
abbrev pub production_order : Production → Production → Ordering
production_order = production_ord.ghosts.cmp

-- an item is before another: its production is less, or the productions are the same and its dot is
-- further left
abbrev pub Precedes : {L : Type 0} → Dotted L → Dotted L → Type 0
Precedes a b = IsLess production_order a.production b.production ⊎ ((a.production ≡ b.production) × (a.index < b.index))

-- each item is less than the items after it
abbrev pub Ascend : {L : Type 0} → List (Dotted L) → Type 0
Ascend items = Ordered Precedes items
