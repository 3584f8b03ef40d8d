-- States that pass by number pass the check.
use Rattle.std.proofs.Common.{ℕ, ◌<◌, List, length, map, Some}
use Rattle.std.specs.Prelude.{◌≡◌, slice_get, Contains}
use Rattle.lalrpop_base.specs.Words.{AllDiffer, AreClosed, AreCoherent, Bits, AreAllConflictFree, IsTarget, IsWellFormed, contents, productions, rules_of}
use Rattle.lalrpop_check.specs.Words.{PassCheck}
use Rattle.lalrpop_base.specs.Words.{AreNumbers}
use Rattle.lalrpop_check.proofs.Types.{Grammar, NonterminalString, State}
use Rattle.lalrpop_check.specs.check.ByNumber.{AllItemsLeadOn, AreListedByNumber, AreReachedByNumber, HoldUnions}
use Rattle.lalrpop_follow_sets.specs.follow_sets.FollowWalks.{FindsLookaheads}
use Rattle.lalrpop_construction.specs.states.SamePlaces.{places_in}
use Rattle.lalrpop_numbers.specs.declared.numbers.Numbers.{Numbers}
use Rattle.lalrpop_follow_sets.specs.declared.follow_sets.sets.FollowSets.{FollowSets}
use Rattle.lalrpop_construction.specs.declared.construction.numbered_state.NumberedState.{NumberedState}
use Rattle.lalrpop_check.proofs.theory.check.CarriedLookaheads.{Unions-carried, here_there}
use Rattle.lalrpop_check.proofs.theory.check.CheckAll.{Pass-all}
use Rattle.lalrpop_check.proofs.theory.check.CheckTables.{Right-closed}
use Rattle.lalrpop_check.proofs.theory.check.NumberedRight.{are_targets, keys_of_state, listed_all, numbered_states, of_grammar, right_states, state_at, targets}
use Rattle.lalrpop_follow_sets.proofs.theory.lane_states.LanePlaces.{closed_there}

module _ (g : Grammar) (start : NonterminalString) (n : Numbers) (numbers : AreNumbers (rules_of g) n) (states : List (State Bits)) (list : List NumberedState) (listed : AreListedByNumber (rules_of g) start n states list) where
  -- items have numbers
  pub items_within : (s k : ℕ) (state : NumberedState) → slice_get list s ≡ Some state → Contains state.items.items k → k < length n.items.items
  items_within s k state at c = (state_at g n numbers start states list listed s state at).is.over.numbered.known k c

  module _ (coherent : AreCoherent states) (some : 0 < length states) (lead : AllItemsLeadOn n list) (none : IsTarget states 0 → ⊥) (reached : AreReachedByNumber list) (free : AreAllConflictFree g.terminals states) where
    -- the states are closed
    pub passed_closed : AreClosed (productions g) start (contents g.terminals states)
    passed_closed =
        Right-closed g start states coherent (map keys_of_state states) (listed_all states) (targets g n numbers start states list listed coherent free lead reached none) (are_targets g n numbers start states list listed coherent free lead reached none)
        (right_states g n numbers start states list listed coherent free lead reached none) some

    pub passed_places : AreClosed (productions g) start (places_in states)
    passed_places = closed_there (productions g) start (contents g.terminals states) (places_in states) (here_there g start states) passed_closed

    -- the states pass the check, if reductions hold the unions that are found
    pub passed : IsWellFormed g → AllDiffer g.terminals → (found : FollowSets) → FindsLookaheads (rules_of g) start n (places_in states) (length states) found → HoldUnions found states list → PassCheck g start states
    passed well differ found finds held =
        Pass-all g start states coherent (map keys_of_state states) (listed_all states) (targets g n numbers start states list listed coherent free lead reached none) (are_targets g n numbers start states list listed coherent free lead reached none)
        some (right_states g n numbers start states list listed coherent free lead reached none)
        (Unions-carried g start states well (of_grammar g n numbers start states list listed) n list coherent differ passed_closed (numbered_states g n numbers start states list listed) found finds held)
