-- The states of a table under new numbers: state 0 is first, then come the states with a goto, and
-- then the others. Each part keeps its order.
use Rattle.std.specs.Prelude.{◌≡◌, ◌<◌, ◌≤◌, ◌↔◌, ◌==◌, ◌||◌, ℕ, Bool, not, List, map, length, slice_get, Some, unwrap_or}
use Rattle.std.specs.BTreeMap.{btree_map_len}
use Rattle.lalrpop_collections.specs.lists.Bits.{Bits}
use Rattle.lalrpop_grammar.specs.renumbering.Renumbering.{IsRenumbering, HasGoto, PutsGotosFirst}
use Rattle.lalrpop_states.specs.states.Coherent.{AreCoherent}
use Rattle.lalrpop_states.specs.states.Contents.{contents}
use Rattle.lalrpop_states.specs.declared.lr1_core.state.State.{State}
use Rattle.lalrpop_states.specs.declared.lr1_core.state.StateIndex.{StateIndex}
use Rattle.lalrpop_grammar.specs.declared.repr.TerminalString.{TerminalString}

-- the new number of a target
abbrev pub retargeted : (ℕ → ℕ) → StateIndex → StateIndex
retargeted new target = record { 0 = new target.0 }

-- transitions with the new numbers of their targets
abbrev pub retargeted_all : {K : Type 0} → (ℕ → ℕ) → List (K × StateIndex) → List (K × StateIndex)
retargeted_all {K} new es = map (λ (e : K × StateIndex). (e.0, retargeted new e.1)) es

-- the second state is the first one under its new number, with the new numbers of its targets;
-- it is the same in all else
pub record IsRenumberedState (new : ℕ → ℕ) (before after : State Bits) : Type 0 where
  pub index : after.index ≡ retargeted new before.index
  pub items : after.items ≡ before.items
  pub shifts : after.shifts.entries ≡ retargeted_all new before.shifts.entries
  pub reductions : after.reductions ≡ before.reductions
  pub gotos : after.gotos.entries ≡ retargeted_all new before.gotos.entries

-- after state 0, two states keep their order if both or neither of them have a goto
abbrev pub KeepsOrder : (ℕ → ℕ) → List TerminalString → List (State Bits) → Type 0
KeepsOrder new terminals states = (n m : ℕ) → 0 < n → n < m → m < length states → HasGoto (contents terminals states n) ↔ HasGoto (contents terminals states m) → new n < new m

-- the second list has the states of the first under new numbers, which put states with a goto first
pub record AreRenumbered (terminals : List TerminalString) (before after : List (State Bits)) : Type 0 where
  pub new : ℕ → ℕ
  pub old : ℕ → ℕ
  pub renumbering : IsRenumbering new old (contents terminals before) (contents terminals after)
  pub counted : length after ≡ length before
  pub outside : (n : ℕ) → length before ≤ n → new n ≡ n
  pub gotos_first : PutsGotosFirst (length after) (contents terminals after)
  pub kept : KeepsOrder new terminals before
  pub each : (n : ℕ) (state : State Bits) → slice_get before n ≡ Some state → (renumbered : State Bits) × (slice_get after (new n) ≡ Some renumbered) × IsRenumberedState new state renumbered
  pub coherent : AreCoherent after

-- ---- how the new numbers are found
-- whether a state is in the first part: it is state 0 or has a goto
abbrev pub stands_first : State Bits → Bool
stands_first state = (state.index.0 == 0) || not (btree_map_len state.gotos == 0)

-- the new number of an old one, in a list by old number; a number outside the list stays
abbrev pub number_in : List ℕ → ℕ → ℕ
number_in numbers n = unwrap_or (slice_get numbers n) n
