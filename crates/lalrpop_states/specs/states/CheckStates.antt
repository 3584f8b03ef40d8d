-- The conditions of the check of tables on each state.
use Rattle.std.specs.Prelude.{◌≡◌, ◌↔◌, ◌+◌, ◌<◌, ℕ, List, length, map, slice_get, Option, Some, option_map, Contains}
use Rattle.std.specs.Borrow.{Bor}
use Rattle.std.specs.BTreeMap.{BTreeMap, get}
use Rattle.std.specs.BTreeSet.{BTreeSet}
use Rattle.std.specs.declared.cmp.Ordering.{Ordering}
use Rattle.lalrpop_grammar.specs.closures.Closures.{IsAtStart}
use Rattle.lalrpop_grammar.specs.grammars.WellFormed.{productions, name_cmp}
use Rattle.lalrpop_collections.specs.lists.Bits.{Bits}
use Rattle.lalrpop_collections.specs.lists.Places.{AllDiffer}
use Rattle.lalrpop_states.specs.states.Contents.{number_of}
use Rattle.lalrpop_states.specs.states.Items.{Dotted, dots, with_dot}
use Rattle.lalrpop_states.specs.conflicts.StateConflicts.{IsConflictFree}
use Rattle.lalrpop_grammar.specs.contracts.repr.TerminalStringOrd.TheImpl as terminal_ord
use Rattle.lalrpop_states.specs.declared.lookahead.nil.Nil.{Nil}
use Rattle.lalrpop_states.specs.declared.lr1_core.state.State.{State}
use Rattle.lalrpop_states.specs.declared.lr1_core.state.StateIndex.{StateIndex}
use Rattle.lalrpop_grammar.specs.declared.repr.NonterminalString.{NonterminalString}
use Rattle.lalrpop_grammar.specs.declared.repr.Production.{Production}
use Rattle.lalrpop_grammar.specs.declared.repr.Symbol.{Symbol}
use Rattle.lalrpop_grammar.specs.declared.repr.Symbol.TheVariants.{Nonterminal, Terminal}
use Rattle.lalrpop_grammar.specs.declared.repr.grammar.Grammar.{Grammar}
use Rattle.lalrpop_states.specs.closures.CheckClosing.{AreClosure, IsMovedIn}

-- the number of the state to which a symbol leads from the state, if there is one
abbrev pub target_of : State Bits → Symbol → Option ℕ
target_of s (Terminal t) = option_map number_of (get terminal_ord.ghosts.cmp s.shifts t)
target_of s (Nonterminal a) = option_map number_of (get name_cmp s.gotos a)

-- some key leads to the state with the number
abbrev pub LeadsBy : {K : Type 0} → (K → K → Ordering) → BTreeMap K StateIndex → ℕ → Type 0
LeadsBy {K} order edges m = (key : K) × (option_map number_of (get order edges key) ≡ Some m)

-- some symbol leads from the state to the state with the number
abbrev pub LeadsFrom : State Bits → ℕ → Type 0
LeadsFrom s m = (x : Symbol) × (target_of s x ≡ Some m)

-- an edge of some state leads to the state with the number
pub record IsTarget (states : List (State Bits)) (m : ℕ) : Type 0 where
  pub from : State Bits
  pub place : ℕ
  pub there : slice_get states place ≡ Some from
  pub leads : LeadsFrom from m

-- the keys are exactly the dotted productions of the items
abbrev pub Lists : List (Dotted Bits) → List (Dotted Nil) → Type 0
Lists items keys = (k : Dotted Nil) → Contains keys k ↔ Contains (dots items) (k.production, k.index)

-- the dotted production is in the set of the state with the number
pub record IsListed (listed : List (BTreeSet (Dotted Nil))) (m : ℕ) (k : Dotted Nil) : Type 0 where
  pub set : BTreeSet (Dotted Nil)
  pub there : slice_get listed m ≡ Some set
  pub has : Contains set.keys k

-- the productions of reductions
abbrev pub productions_of_reductions : List (Bits × Bor Production) → List Production
productions_of_reductions reductions = map (λ (r : Bits × Bor Production). r.1.now) reductions

-- the production with the dot at its end
abbrev pub finished : Production → Dotted Nil
finished p = with_dot p (length p.symbols)

-- the symbol leads from the state to a state that lists the item with its dot moved
pub record LeadsOn (listed : List (BTreeSet (Dotted Nil))) (s : State Bits) (i : Dotted Bits) (x : Symbol) : Type 0 where
  pub to : ℕ
  pub edge : target_of s x ≡ Some to
  pub moved : IsListed listed to (with_dot i.production (i.index + 1))

-- the symbol after the dot of the item leads to a state that lists the item with its dot moved;
-- if the item is finished, its production is reduced
pub record IsRightItem (listed : List (BTreeSet (Dotted Nil))) (s : State Bits) (reductions : List Production) (i : Dotted Bits) : Type 0 where
  pub shifts : (x : Symbol) → slice_get i.production.symbols i.index ≡ Some x → LeadsOn listed s i x
  pub finished : i.index ≡ length i.production.symbols → Contains reductions i.production

-- the state has an item, and its items are the closure of those with the dot past the start
pub record IsRightTarget (g : Grammar) (items : List (Dotted Bits)) (here : List (Dotted Nil)) : Type 0 where
  pub some : 0 < length items
  pub closed : AreClosure g (IsMovedIn (dots items)) here

-- the state is right: state 0 is the closure of the start, and a target is that of the moved items;
-- its items are right, it reduces by each production at most once, and it has no conflict
pub record IsRightState (g : Grammar) (start : NonterminalString) (listed : List (BTreeSet (Dotted Nil))) (targets : List ℕ) (n : ℕ) (here : List (Dotted Nil)) (s : State Bits) : Type 0 where
  pub first : n ≡ 0 → AreClosure g (IsAtStart (productions g) start) here
  pub target : Contains targets n → IsRightTarget g s.items.vec.items here
  pub items : (i : Dotted Bits) → Contains s.items.vec.items i → IsRightItem listed s (productions_of_reductions s.reductions.items) i
  pub once : AllDiffer (productions_of_reductions s.reductions.items)
  pub free : IsConflictFree g.terminals s

-- each state is right
abbrev pub AreRightStates : Grammar → NonterminalString → List (BTreeSet (Dotted Nil)) → List ℕ → List (State Bits) → Type 0
AreRightStates g start listed targets states = (n : ℕ) (s : State Bits) (here : BTreeSet (Dotted Nil)) → slice_get states n ≡ Some s → slice_get listed n ≡ Some here → IsRightState g start listed targets n here.keys s

-- there is a set for each state, which has exactly the dotted productions of its items
pub record AreListed (states : List (State Bits)) (listed : List (BTreeSet (Dotted Nil))) : Type 0 where
  pub counted : length listed ≡ length states
  pub each : (n : ℕ) (s : State Bits) (here : BTreeSet (Dotted Nil)) → slice_get states n ≡ Some s → slice_get listed n ≡ Some here → Lists s.items.vec.items here.keys
