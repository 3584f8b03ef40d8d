-- The results of the parser, and the outcomes of runs that they report.
use Rattle.std.specs.Prelude.{◌≡◌, ℕ, List, slice_get, Some, map, Result, Ok, Err}
use Rattle.lalrpop_base.specs.Words.{number_of, Outcome, Parsed, Refused, Limit}
use Rattle.lalrpop_states.specs.declared.lr1_core.state.State.{State}
use Rattle.lalrpop_states.specs.declared.lr1_core.state.StateIndex.{StateIndex}
use Rattle.lalrpop_parser.specs.trees.ParseTrees.{tree_of}
use Rattle.lalrpop_parser.specs.runs.Reading.{PartialOutcome, Stack, Stop}
use Rattle.lalrpop_parser.specs.declared.interpret.error.InterpretError.{InterpretError}
use Rattle.lalrpop_parser.specs.declared.interpret.error.InterpretError.TheVariants.{Refused as RefusedBy, Limit as LimitPassed, Memory}
use Rattle.lalrpop_parser.specs.declared.interpret.tree.ParseTree.{ParseTree}
use Rattle.std.specs.declared.vec.Vec.{Vec}

-- the error reports the outcome: a refusal by its state and token, or the limit; nothing is said of
-- an allocation failure
abbrev pub IsFailure : {L : Type 0} → (Outcome → Type 0) → List (State L) → InterpretError L → Type 0
IsFailure R states (RefusedBy state token) = (n : ℕ) × (slice_get states n ≡ Some state.now) × R (Refused n token)
IsFailure R states LimitPassed = R Limit
IsFailure R states Memory = Unit {0}

-- the result reports the outcome: a tree, or an error
abbrev pub ReportsOutcome : {L : Type 0} → (Outcome → Type 0) → List (State L) → Result ParseTree (InterpretError L) → Type 0
ReportsOutcome R states (Ok tree) = R (Parsed (tree_of tree))
ReportsOutcome R states (Err e) = IsFailure R states e

-- the result reports the outcome of a run up to the last terminal: a stack of states, or an error
abbrev pub IsPartialAnswer : {A L : Type 0} → (PartialOutcome → Type 0) → List (State L) → Result (Vec StateIndex A) (InterpretError L) → Type 0
IsPartialAnswer R states (Ok stack) = R (Stack (map number_of stack.items))
IsPartialAnswer R states (Err e) = IsFailure (λ o. R (Stop o)) states e
