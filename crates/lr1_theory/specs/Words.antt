-- The definitions of this crate that contracts use, by the modules that have them.
pub use Rattle.lr1_theory.specs.construction.States.{AreBuiltBy, Extends, HasTransition, IsBuilt, IsBuiltBy, IsBuiltOfBy, IsLedTo, ItemsLeadTo, LeadsToAdded, item_at_start}
pub use Rattle.lr1_theory.specs.construction.States.{state_entries}
pub use Rattle.lr1_theory.specs.renumbering.Moved.{AreMoved, GrowsBy, and_one}
pub use Rattle.lr1_theory.specs.renumbering.Renumbered.{AreRenumbered, IsRenumberedState, KeepsOrder, number_in, retargeted, retargeted_all, stands_first}
