-- The actions of a state whose lanes are traced.
use Rattle.lalrpop_states.specs.contracts.lr1_core.state.ActionOrd.TheImpl as action_ord
use Rattle.std.specs.Prelude.{Contains, List, map, ◌++◌, [], ◌∷◌, ◌≡◌}
use Rattle.std.specs.declared.cmp.Ordering.{Ordering}
use Rattle.std.specs.declared.cmp.Ordering.TheVariants.{Equal}
use Rattle.std.specs.Borrow.{Bor}
use Rattle.std.specs.List.{flat_map}
use Rattle.std.specs.List.Sorted.{IsStrictlySortedBy}
use Rattle.lalrpop_base.specs.Words.{Bits, state_conflicts}
use Rattle.lalrpop_states.specs.declared.lr1_core.state.Action.{Action as CodeAction}
use Rattle.lalrpop_states.specs.declared.lr1_core.state.Action.TheVariants.{Reduce as CodeReduce}
use Rattle.lalrpop_states.specs.declared.lr1_core.state.Conflict.{Conflict}
use Rattle.lalrpop_states.specs.declared.lr1_core.state.State.{State}
use Rattle.lalrpop_grammar.specs.declared.repr.Production.{Production}
use Rattle.lalrpop_grammar.specs.declared.repr.TerminalString.{TerminalString}

-- ---- the actions of a state
abbrev pub action_order : CodeAction → CodeAction → Ordering
action_order = action_ord.ghosts.cmp

-- the reduction and the other action of a conflict
abbrev pub conflict_actions : Conflict Bits → List CodeAction
conflict_actions c = CodeReduce c.production ∷ c.action ∷ []

-- a reduction as an action
abbrev pub reduce_action : Bits × Bor Production → CodeAction
reduce_action r = CodeReduce r.1

-- the actions of a state's conflicts, and all its reductions
abbrev pub asked_actions : List TerminalString → State Bits → List CodeAction
asked_actions terminals state = flat_map conflict_actions (state_conflicts terminals state) ++ map reduce_action state.reductions.items

-- each action is asked for. For each action that is asked for, one of the actions compares as
-- equal, as reductions by equal productions do
pub record AreActions (asked actions : List CodeAction) : Type 0 where
  pub of : (a : CodeAction) → Contains actions a → Contains asked a
  pub all : (a : CodeAction) → Contains asked a → (b : CodeAction) × Contains actions b × (action_order a b ≡ Equal)

-- the actions ascend, so no action comes twice
abbrev pub ActionsAscend : List CodeAction → Type 0
ActionsAscend actions = IsStrictlySortedBy action_order actions
