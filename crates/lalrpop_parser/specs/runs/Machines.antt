-- The code's stack, as a configuration.
use Rattle.std.specs.Prelude.{◌≡◌, ◌≢◌, ℕ, suc, ◌+◌, ◌<◌, ◌≤◌, List, [], ◌∷◌, ◌++◌, length, map, reverse, Option, Some, None}
use Rattle.std.specs.BTreeMap.{get}
use Rattle.lalrpop_base.specs.Words.{number_of, EachItem, Contents, leads, Tree, Leaf, root, Configuration, reduction_on, reduces, Move, Stands, Goes, Ends}
use Rattle.lalrpop_grammar.specs.declared.repr.TerminalString.{TerminalString}
use Rattle.lalrpop_grammar.specs.declared.lookahead.token.Token.{Token}
use Rattle.lalrpop_grammar.specs.contracts.repr.TerminalStringOrd.TheImpl as terminal_ord
use Rattle.lalrpop_grammar.specs.declared.lookahead.token.Token.TheVariants.{Eof, Error, Terminal as TokenOf}
use Rattle.lalrpop_states.specs.declared.lr1_core.state.State.{State}
use Rattle.lalrpop_states.specs.declared.lr1_core.state.StateIndex.{StateIndex}
use Rattle.lalrpop_parser.specs.trees.ParseTrees.{tree_of}
use Rattle.lalrpop_parser.specs.runs.Reading.{Reads}
use Rattle.lalrpop_parser.specs.declared.interpret.error.InterpretError.{InterpretError}
use Rattle.lalrpop_parser.specs.declared.interpret.error.InterpretError.TheVariants.{Refused, Limit, Memory}
use Rattle.lalrpop_parser.specs.declared.interpret.machine.Machine.{Machine}
use Rattle.lalrpop_parser.specs.declared.interpret.machine.Progress.{Progress}
use Rattle.lalrpop_parser.specs.declared.interpret.machine.Progress.TheVariants.{Stuck, GoesOn, Ended}
use Rattle.lalrpop_parser.specs.declared.interpret.tree.ParseTree.{ParseTree}

-- the numbers of states, the newest first, from a list with the newest last
abbrev pub numbers : List StateIndex → List ℕ
numbers states = reverse (map number_of states)

-- the trees, the newest first, from a list with the newest last
abbrev pub trees_on : List ParseTree → List Tree
trees_on trees = reverse (map tree_of trees)

-- the configuration of a machine that has the rest of an input to read
abbrev pub configuration : Machine → List TerminalString → Configuration
configuration m rest = record { state = m.state.0; below = numbers m.below.items; trees = trees_on m.trees.items; rest = rest }

-- the machine is at its start: in state 0, without trees
pub record IsInitialMachine (m : Machine) : Type 0 where
  pub state : m.state.0 ≡ 0
  pub below : m.below.items ≡ []
  pub trees : m.trees.items ≡ []

-- a stack: each state is the one to which the state below it leads by the root of its tree
pub data IsStack (states : ℕ → Contents) : ℕ → List ℕ → List Tree → Type 0 where
  bottom : IsStack states 0 [] []
  above : {s : ℕ} {below : List ℕ} {trees : List Tree} (t : Tree) (n : ℕ) → IsStack states s below trees → leads (states s) (root t) ≡ Some n → IsStack states n (s ∷ below) (t ∷ trees)

-- the machine has a stack
abbrev pub IsStacked : (ℕ → Contents) → Machine → Type 0
IsStacked states m = IsStack states m.state.0 (numbers m.below.items) (trees_on m.trees.items)

-- the machine has so many trees and so many states below the top, and each state is one of the list
pub record CanPop (count : ℕ) (m : Machine) (popped : ℕ) : Type 0 where
  pub trees : popped ≤ length m.trees.items
  pub states : popped ≤ length m.below.items
  pub within : EachItem (λ (s : StateIndex). s.0 < count) (m.below.items ++ m.state ∷ [])

-- the state to which a state leads by a shift of the token, if it has one
abbrev pub shift_on : {L : Type 0} → State L → Token → Option StateIndex
shift_on state Eof = None
shift_on state Error = None
shift_on state (TokenOf t) = get terminal_ord.ghosts.cmp state.shifts t

-- the move of the first reduction on a token, if there is one
abbrev pub reduction_move : (ℕ → Contents) → Configuration → Token → Move
reduction_move states c token = reduces states c (reduction_on (states c.state).reductions token)

-- the attempt to reduce had this progress: there was no reduction, or one was made
abbrev pub IsProgress : (ℕ → Contents) → Machine → Token → List TerminalString → Machine → Progress → Type 0
IsProgress states old token rest new Stuck = (reduction_move states (configuration old rest) token ≡ Stands) × (new.left ≡ old.left)
IsProgress states old token rest new GoesOn = (reduction_move states (configuration old rest) token ≡ Goes (configuration new rest)) × (suc new.left ≡ old.left)
IsProgress states old token rest new Ended = (reduction_move states (configuration old rest) token ≡ Ends (trees_on new.trees.items)) × (0 < old.left)

-- a reduction was not made: there is one, but no step is left for it
abbrev pub IsHalted : {L : Type 0} → (ℕ → Contents) → Machine → Token → List TerminalString → InterpretError L → Type 0
IsHalted states old token rest (Refused state t) = ⊥
IsHalted states old token rest Limit = (reduction_move states (configuration old rest) token ≢ Stands) × (old.left ≡ 0)
IsHalted states old token rest Memory = Unit {0}

-- a shift was not made, since no step is left for it
abbrev pub IsSpent : {L : Type 0} → Machine → InterpretError L → Type 0
IsSpent old (Refused state t) = ⊥
IsSpent old Limit = old.left ≡ 0
IsSpent old Memory = Unit {0}

-- a terminal was shifted
pub record IsShifted (old : Machine) (target : ℕ) (t : TerminalString) (new : Machine) : Type 0 where
  pub state : new.state.0 ≡ target
  pub below : numbers new.below.items ≡ old.state.0 ∷ numbers old.below.items
  pub trees : trees_on new.trees.items ≡ Leaf t ∷ trees_on old.trees.items
  pub counted : suc new.left ≡ old.left

-- the machine was reached from the configuration by steps on terminals; it has left what remains of
-- the steps
pub record HasRead (states : ℕ → Contents) (b : Configuration) (left : ℕ) (m : Machine) (rest : List TerminalString) : Type 0 where
  pub steps : ℕ
  pub reads : Reads states steps b (configuration m rest)
  pub counted : steps + m.left ≡ left
