-- The LR(0) states of a grammar (DeRemer 1971; Aho, Sethi and Ullman, section 4.7), as states of
-- the code without lookahead.
use Rattle.std.specs.Prelude.{◌≡◌, ◌≢◌, ◌<◌, ℕ, Bool, true, List, [], length, slice_get, Some}
use Rattle.std.specs.List.{flat_map}
use Rattle.lalrpop_grammar.specs.closures.Closures.{AreClosed}
use Rattle.lalrpop_states.specs.conflicts.Failures.{IfConflicts}
use Rattle.lalrpop_states.specs.conflicts.NilConflicts.{nil_conflicts}
use Rattle.lalrpop_grammar.specs.grammars.WellFormed.{Rules}
use Rattle.lalrpop_grammar.specs.lanes.Lanes.{AreLr0}
use Rattle.lalrpop_grammar.specs.parsing.Validity.{IsLive}
use Rattle.lalrpop_states.specs.states.Coherent.{AreCoherent}
use Rattle.lalrpop_states.specs.states.Contents.{contents_in}
use Rattle.lalrpop_grammar.specs.states.States.{Contents, state_after}
use Rattle.lalrpop_states.specs.declared.lookahead.nil.Nil.{Nil}
use Rattle.lalrpop_grammar.specs.declared.lookahead.token.Token.{Token}
use Rattle.lalrpop_states.specs.declared.lr1_core.state.BuildError.{BuildError}
use Rattle.lalrpop_states.specs.declared.lr1_core.state.State.{State}
use Rattle.lalrpop_grammar.specs.declared.repr.NonterminalString.{NonterminalString}
use Rattle.lalrpop_grammar.specs.declared.repr.Symbol.{Symbol}
use Rattle.lalrpop_states.specs.grammars.Ascending.{Ascend}

-- a reduction without lookahead is on any token
abbrev pub on_any : Nil → Token → Bool
on_any lookahead t = true

-- the contents of the state with each number, in a list of states without lookahead
abbrev pub lr0_contents : List (State Nil) → ℕ → Contents
lr0_contents states = contents_in on_any states

-- some live prefix leads to the state
pub record IsAfterLive (g : Rules) (start : NonterminalString) (states : List (State Nil)) (n : ℕ) : Type 0 where
  pub prefix : List Symbol
  pub live : IsLive g.productions start prefix
  pub after : state_after (lr0_contents states) prefix ≡ Some n

-- each live prefix leads to its state, with exactly its valid dotted productions, ascending;
-- the state has the edges and reductions of these items;
-- live prefixes with the same valid dotted productions lead to the same state;
-- some live prefix leads to each state
pub record AreLr0States (g : Rules) (start : NonterminalString) (states : List (State Nil)) : Type 0 where
  pub lr0 : AreLr0 g.productions start (lr0_contents states)
  pub live : (n : ℕ) → n < length states → IsAfterLive g start states n
  pub closed : AreClosed g.productions start (lr0_contents states)
  pub ascend : (n : ℕ) (state : State Nil) → slice_get states n ≡ Some state → Ascend state.items.vec.items
  pub some : 0 < length states
  pub coherent : AreCoherent states

-- the states of the error are the LR(0) states; an allocation failure says nothing
abbrev pub HasLr0States : Rules → NonterminalString → BuildError Nil → Type 0
HasLr0States g start = IfConflicts (λ error. AreLr0States g start error.states.items)

-- no state has a shift and a reduction, or two reductions
abbrev pub HaveNoNilConflict : List (State Nil) → Type 0
HaveNoNilConflict states = flat_map nil_conflicts states ≡ []

-- the error lists the conflicts of each of its states, in their order, and there are some;
-- an allocation failure says nothing
abbrev pub ListsNilConflicts : BuildError Nil → Type 0
ListsNilConflicts = IfConflicts (λ error. (error.conflicts.items ≡ flat_map nil_conflicts error.states.items) × (error.conflicts.items ≢ []))
