-- The condition that states with the same dotted productions can be merged.
use Rattle.std.specs.Prelude.{◌≡◌, ℕ, List, [], slice_get, Option, Some, None}
use Rattle.std.specs.BTreeMap.{BTreeMap, get}
use Rattle.std.specs.declared.cmp.Ordering.{Ordering}
use Rattle.lalrpop_states.specs.states.Coherent.{AreCoherent}
use Rattle.lalrpop_collections.specs.lists.Each.{EachItem, EachEntry}
use Rattle.lalrpop_states.specs.states.Items.{dots}
use Rattle.lalrpop_grammar.specs.grammars.WellFormed.{name_cmp}
use Rattle.lalrpop_grammar.specs.contracts.repr.TerminalStringOrd.TheImpl as terminal_ord
use Rattle.lalrpop_grammar.specs.declared.repr.Production.{Production}
use Rattle.lalrpop_states.specs.declared.lr1_core.state.State.{State}
use Rattle.lalrpop_states.specs.declared.lr1_core.state.StateIndex.{StateIndex}

module _ {L : Type 0} where
  -- the dotted productions of a state, or none if there is no state
  abbrev pub dots_of : Option (State L) → List (Production × ℕ)
  dots_of None = []
  dots_of (Some s) = dots s.items.vec.items

  -- the dotted productions of the state with the number, or none if there is no such state
  abbrev pub dots_at : List (State L) → ℕ → List (Production × ℕ)
  dots_at states n = dots_of (slice_get states n)

  -- the key leads to the same dotted productions as in the other map, if that has the key
  abbrev pub LeadsAlike : {K : Type 0} → (K → K → Ordering) → List (State L) → BTreeMap K StateIndex → K → StateIndex → Type 0
  LeadsAlike order states others key target = (other : StateIndex) → get order others key ≡ Some other → dots_at states target.0 ≡ dots_at states other.0

  -- each key that both maps have leads to the same dotted productions in both
  abbrev pub LeadAlike : {K : Type 0} → (K → K → Ordering) → List (State L) → List (K × StateIndex) → BTreeMap K StateIndex → Type 0
  LeadAlike order states edges others = EachEntry (LeadsAlike order states others) edges

  -- each symbol that leads from both states leads to the same dotted productions from both
  pub record AreAlike (states : List (State L)) (a b : State L) : Type 0 where
    pub shifts : LeadAlike terminal_ord.ghosts.cmp states a.shifts.entries b.shifts
    pub gotos : LeadAlike name_cmp states a.gotos.entries b.gotos

  -- if the two states list the same dotted productions, their symbols lead to the same ones
  abbrev pub IsAlikeTo : List (State L) → State L → State L → Type 0
  IsAlikeTo states a b = dots a.items.vec.items ≡ dots b.items.vec.items → AreAlike states a b

  -- the condition of a collapse: the states are coherent, and those with the same dotted
  -- productions lead by the same symbols to states with the same dotted productions
  pub record AreCollapsible (states : List (State L)) : Type 0 where
    pub coherent : AreCoherent states
    pub alike : EachItem (λ (a : State L). EachItem (λ (b : State L). IsAlikeTo states a b) states) states
