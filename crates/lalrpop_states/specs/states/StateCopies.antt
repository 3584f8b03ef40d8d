-- Copies of states, and items with the dot moved over one symbol.
use Rattle.std.specs.Prelude.{◌≡◌, ◌+◌, length, slice_get, Option, Some, None}
use Rattle.std.specs.Borrow.{Bor}
use Rattle.lalrpop_states.specs.states.Items.{Dotted}
use Rattle.lalrpop_grammar.specs.declared.repr.Symbol.{Symbol}
use Rattle.lalrpop_states.specs.declared.lr1_core.state.State.{State}

module _ {L : Type 0} where
  -- the states have the same number, items, shifts, reductions and gotos
  pub record IsSameState (a b : State L) : Type 0 where
    pub index : b.index ≡ a.index
    pub items : b.items.vec.items ≡ a.items.vec.items
    pub shifts : b.shifts.entries ≡ a.shifts.entries
    pub reductions : b.reductions.items ≡ a.reductions.items
    pub gotos : b.gotos.entries ≡ a.gotos.entries

  -- the result is the symbol after the dot and the item with the dot moved over it, or none if the
  -- dot is at the end
  abbrev pub IsShiftedItem : Dotted L → Option (Bor Symbol × Dotted L) → Type 0
  IsShiftedItem item None = item.index ≡ length item.production.symbols
  IsShiftedItem item (Some (symbol, shifted)) = (slice_get item.production.symbols item.index ≡ Some symbol.now) × (shifted ≡ record item { index = item.index + 1 })
