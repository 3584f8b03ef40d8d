-- Lists of conflicts that have, for each state, the canonical conflicts of the prefixes that lead
-- to the state.
use Rattle.std.specs.Prelude.{◌≡◌, ◌≢◌, ◌<◌, ◌≤◌, ◌==◌, ℕ, List, [], length, Some, Contains}
use Rattle.std.specs.List.{filter}
use Rattle.lalrpop_collections.specs.lists.Each.{Ordered}
use Rattle.lalrpop_grammar.specs.conflicts.Conflicts.{AreCanonicalConflicts}
use Rattle.lalrpop_grammar.specs.grammars.WellFormed.{productions}
use Rattle.lalrpop_collections.specs.lists.Bits.{Bits}
use Rattle.lalrpop_states.specs.states.Contents.{contents}
use Rattle.lalrpop_grammar.specs.states.States.{state_after}
use Rattle.lalrpop_grammar.specs.contracts.repr.ProductionOrd.TheImpl as production_ord
use Rattle.lalrpop_grammar.specs.contracts.repr.TerminalStringOrd.TheImpl as terminal_ord
use Rattle.lalrpop_states.specs.declared.lr1_core.state.Action.TheVariants.{Shift}
use Rattle.lalrpop_states.specs.declared.lr1_core.state.Conflict.{Conflict}
use Rattle.lalrpop_states.specs.declared.lr1_core.state.State.{State}
use Rattle.lalrpop_states.specs.declared.lr1_core.state.StateIndex.{StateIndex}
use Rattle.lalrpop_grammar.specs.declared.repr.NonterminalString.{NonterminalString}
use Rattle.lalrpop_grammar.specs.declared.repr.Symbol.{Symbol}
use Rattle.lalrpop_grammar.specs.declared.repr.TerminalString.{TerminalString}
use Rattle.lalrpop_grammar.specs.declared.repr.grammar.Grammar.{Grammar}
use Rattle.lalrpop_construction.specs.conflicts.ListedConflicts.{conflicts_of}

-- the conflicts of the state with the number in a list, in their order
abbrev pub listed_of : ℕ → List (Conflict Bits) → List (Conflict Bits)
listed_of number conflicts = filter (λ c. c.state.0 == number) conflicts

-- the conflicts are sorted by the numbers of their states
abbrev pub StatesAscend : List (Conflict Bits) → Type 0
StatesAscend conflicts = Ordered (λ c d. c.state.0 ≤ d.state.0) conflicts

-- the shift in each conflict leads to the target that the state has for its terminal
abbrev pub ShiftsLead : List TerminalString → List (State Bits) → List (Conflict Bits) → Type 0
ShiftsLead terminals states conflicts = (c : Conflict Bits) (t : TerminalString) (target : StateIndex) → Contains conflicts c → c.action ≡ Shift t target → (contents terminals states c.state.0).shift t ≡ Some target.0

-- the listed conflicts of the state after a prefix are exactly the canonical conflicts of the
-- prefix, in their order;
-- each conflict is of a state in the list, the conflicts are sorted by state, and their shifts are
-- those of the states
pub record AreCanonicalConflictsOf (g : Grammar) (start : NonterminalString) (states : List (State Bits)) (conflicts : List (Conflict Bits)) : Type 0 where
  pub each : (u : List Symbol) (n : ℕ) → state_after (contents g.terminals states) u ≡ Some n → AreCanonicalConflicts terminal_ord.ghosts.cmp production_ord.ghosts.cmp (productions g) start u (conflicts_of g.terminals (listed_of n conflicts))
  pub only : (c : Conflict Bits) → Contains conflicts c → c.state.0 < length states
  pub ascend : StatesAscend conflicts
  pub lead : ShiftsLead g.terminals states conflicts

-- the list has exactly the canonical conflicts, state by state, and is not empty
pub record AreConflictsOfFailure (g : Grammar) (start : NonterminalString) (states : List (State Bits)) (conflicts : List (Conflict Bits)) : Type 0 where
  pub canonical : AreCanonicalConflictsOf g start states conflicts
  pub some : conflicts ≢ []
