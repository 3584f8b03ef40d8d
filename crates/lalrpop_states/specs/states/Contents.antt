-- The contents of states of the code, to which the definitions of LR(1) parsing apply.
use Rattle.std.specs.Prelude.{ℕ, ◌+◌, Bool, false, List, [], length, slice_get, map, Option, Some, None, option_map}
use Rattle.std.specs.Borrow.{Bor}
use Rattle.std.specs.BTreeMap.{get}
use Rattle.std.specs.List.{flat_map}
use Rattle.lalrpop_collections.specs.lists.Bits.{Bits, has}
use Rattle.lalrpop_states.specs.states.Items.{dotted_of}
use Rattle.lalrpop_grammar.specs.states.States.{Reduction, Contents}
use Rattle.lalrpop_grammar.specs.grammars.TerminalPlaces.{place_in}
use Rattle.lalrpop_grammar.specs.grammars.WellFormed.{name_cmp}
use Rattle.lalrpop_grammar.specs.contracts.repr.TerminalStringOrd.TheImpl as terminal_ord
use Rattle.lalrpop_grammar.specs.declared.repr.TerminalString.{TerminalString}
use Rattle.lalrpop_grammar.specs.declared.repr.Production.{Production}
use Rattle.lalrpop_grammar.specs.declared.lookahead.token.Token.{Token}
use Rattle.lalrpop_grammar.specs.declared.lookahead.token.Token.TheVariants.{Eof, Error, Terminal}
use Rattle.lalrpop_states.specs.declared.lr1_core.state.StateIndex.{StateIndex}
use Rattle.lalrpop_states.specs.declared.lr1_core.state.State.{State}

-- whether the bit, if there is one, is in the set
abbrev pub has_at : Bits → Option ℕ → Bool
has_at set None = false
has_at set (Some bit) = has set bit

-- whether the token is in the set, which has its bit;
-- the bit of a terminal is its place in the list; a terminal that is not in the list is in no set
abbrev pub holds_token : List TerminalString → Bits → Token → Bool
holds_token terminals set Eof = has set (length terminals)
holds_token terminals set Error = has set (length terminals + 1)
holds_token terminals set (Terminal t) = has_at set (place_in terminals t)

-- the number of a state
abbrev pub number_of : StateIndex → ℕ
number_of n = n.0

-- the contents of a state without items, edges and reductions
abbrev pub no_contents : Contents
no_contents = record { items = []; shift = λ t. None; goto = λ name. None; reductions = [] }

-- which tokens a lookahead holds is a parameter, so that these definitions apply to any lookahead
module _ {L : Type 0} (holds : L → Token → Bool) where
  -- the reduction of the definitions that a reduction of the code means
  abbrev pub reduction_of : L × Bor Production → Reduction
  reduction_of r = record { production = r.1.now; holds = holds r.0 }

  -- the contents of a state of the code
  abbrev pub contents_of : State L → Contents
  contents_of state = record {
    items = map dotted_of state.items.vec.items;
    shift = λ t. option_map number_of (get terminal_ord.ghosts.cmp state.shifts t);
    goto = λ name. option_map number_of (get name_cmp state.gotos name);
    reductions = map reduction_of state.reductions.items;
  }

  -- the contents of a state, or empty contents if there is no state
  abbrev pub contents_at : Option (State L) → Contents
  contents_at None = no_contents
  contents_at (Some state) = contents_of state

  -- the contents of the state with each number, in a list of states
  abbrev pub contents_in : List (State L) → ℕ → Contents
  contents_in states n = contents_at (slice_get states n)

-- the contents of the states of a table with sets of tokens;
-- the bit of a terminal is its place in the list of terminals
abbrev pub contents : List TerminalString → List (State Bits) → ℕ → Contents
contents terminals states = contents_in (holds_token terminals) states

-- the productions by which some state reduces
abbrev pub reduced_productions : {L : Type 0} → List (State L) → List Production
reduced_productions {L} states = flat_map (λ (s : State L). map (λ (r : L × Bor Production). r.1.now) s.reductions.items) states
