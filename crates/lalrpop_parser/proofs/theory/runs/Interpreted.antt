-- What the parts of a run say of the whole run.
use Rattle.std.proofs.Common.{Bool, ◌≡◌, ℕ, ◌+◌, ◌≤◌, List, [], ◌∷◌, ◌++◌, length, map, reverse, refl, sym, ap, subst, ◌∙◌, arith}
use Rattle.std.specs.Prelude.{Result, Ok, Err, IfOk}
use Rattle.std.proofs.lemmas.List.{reverse-reverse}
use Rattle.lalrpop_base.specs.Words.{AreCoherent, number_of, contents_in, reduced_productions, Contents, beside, no_trees, leaves, nodes, AreOfGrammar, here, begin, HasOutcome}
use Rattle.lalrpop_parser.proofs.Types.{State, StateIndex, TerminalString, Token}
use Rattle.lalrpop_parser.specs.Words.{IsFailure, ReportsOutcome, numbers, trees_on, configuration, bottom, IsInitialMachine, IsStacked, HasRead, tree_of, Reads, StopsReading}
use Rattle.lalrpop_parser.specs.Words.{HasPartialOutcome, Stack, Stop, all_read, stopped, HasOutcomeFrom, IsParsedIn}
use Rattle.lalrpop_parser.specs.runs.Reading.{read}
use Rattle.lalrpop_parser.specs.declared.interpret.error.InterpretError.{InterpretError}
use Rattle.lalrpop_parser.specs.declared.interpret.machine.Machine.{Machine}
use Rattle.lalrpop_parser.specs.declared.interpret.tree.ParseTree.{ParseTree}
use Rattle.lalrpop_parser.proofs.theory.runs.MachineRuns.{lead}
use Rattle.lalrpop_parser.proofs.theory.runs.Outcomes.{reads_reaches, stop_outcome, whole_outcome, failure_follows}
use Rattle.lalrpop_parser.proofs.theory.runs.Parses.{IsBuilt, parsed_built, reduces_by}
use Rattle.lalrpop_parser.proofs.theory.runs.Popping.{numbers_more}
use Rattle.lalrpop_parser.proofs.theory.runs.Stacks.{IsStackOf, run_keeps}

pub begins : (m : Machine) (w : List TerminalString) → IsInitialMachine m → configuration m w ≡ begin w
begins m w start =
    ap (λ n. record { state = n; below = numbers m.below.items; trees = trees_on m.trees.items; rest = w }) start.state
    ∙ ap (λ l. record { state = 0; below = numbers l; trees = trees_on m.trees.items; rest = w }) start.below
    ∙ ap (λ ts. record { state = 0; below = []; trees = trees_on ts; rest = w }) start.trees

pub start_stacked : (states : ℕ → Contents) (m : Machine) → IsInitialMachine m → IsStacked states m
start_stacked states m start = subst (IsStackOf states) (sym (begins m [] start)) bottom

-- no step was made yet
pub nothing_read : {states : ℕ → Contents} (m : Machine) (w rest : List TerminalString) → w ≡ rest → HasRead states (configuration m w) m.left m rest
nothing_read {states} m w rest e = record {
  steps = 0;
  reads = subst (λ l. Reads states 0 (configuration m w) (configuration m l)) e read;
  counted = omega arith;
}

-- what was read from a machine at its start was read from the beginning of a run
pub read_from_start : {states : ℕ → Contents} (m new : Machine) (w rest : List TerminalString) (limit left : ℕ) → IsInitialMachine m → left ≡ limit → HasRead states (configuration m w) left new rest → HasRead states (begin w) limit new rest
read_from_start {states} m new w rest limit left start e r =
    subst (λ c. HasRead states c limit new rest) (begins m w start) (subst (λ n. HasRead states (configuration m w) n new rest) e r)

-- what holds of each tree holds of the tree in a result
if_ok : {E : Type 0} {P Q : ParseTree → Type 0} → ((t : ParseTree) → P t → Q t) → (answer : Result ParseTree E) → IfOk answer P → IfOk answer Q
if_ok f (Ok tree) h = f tree h
if_ok f (Err e) h = tt

module _ {L : Type 0} (holds : L → Token → Bool) (states : List (State L)) (coherent : AreCoherent states) where
  -- the stack stays one
  pub read_stacked : (m new : Machine) (w rest : List TerminalString) (left : ℕ) → IsStacked (contents_in holds states) m → HasRead (contents_in holds states) (configuration m w) left new rest → IsStacked (contents_in holds states) new
  read_stacked m new w rest left st r = run_keeps (contents_in holds states) (length states) (lead holds states coherent) (reads_reaches r.reads) st

  -- a stop while terminals are left is the outcome
  pub stop_answer : (m : Machine) (w : List TerminalString) (limit : ℕ) → IsInitialMachine m → m.left ≡ limit → (e : InterpretError L) → IsFailure (StopsReading (contents_in holds states) (configuration m w) m.left) states e → IsFailure (HasOutcome (contents_in holds states) w limit) states e
  stop_answer m w limit start size e h =
      failure_follows (StopsReading (contents_in holds states) (configuration m w) m.left) (HasOutcome (contents_in holds states) w limit) states
      (λ o k. whole_outcome {k = 0} here (let whole : 0 + m.left ≡ limit = omega (arith, size) in whole) (subst (λ c. HasOutcomeFrom (contents_in holds states) c m.left o) (begins m w start) (stop_outcome k)))
      e h

  -- it is the outcome of a run without the end of the input, too
  pub stop_partial : (m : Machine) (w : List TerminalString) (limit : ℕ) → IsInitialMachine m → m.left ≡ limit → (e : InterpretError L) → IsFailure (StopsReading (contents_in holds states) (configuration m w) m.left) states e → IsFailure (λ o. HasPartialOutcome (contents_in holds states) (begin w) limit (Stop o)) states e
  stop_partial m w limit start size e h =
      failure_follows (StopsReading (contents_in holds states) (configuration m w) m.left) (λ o. HasPartialOutcome (contents_in holds states) (begin w) limit (Stop o)) states
      (λ o k. stopped o (subst (λ c. StopsReading (contents_in holds states) c limit o) (begins m w start) (subst (λ n. StopsReading (contents_in holds states) (configuration m w) n o) size k)))
      e h

  -- the end of a run is the outcome of the whole run
  pub last_answer : (m : Machine) (w : List TerminalString) (limit : ℕ) → HasRead (contents_in holds states) (begin w) limit m [] → (answer : Result ParseTree (InterpretError L)) → ReportsOutcome (HasOutcomeFrom (contents_in holds states) (configuration m []) m.left) states answer → ReportsOutcome (HasOutcome (contents_in holds states) w limit) states answer
  last_answer m w limit r (Ok tree) h = whole_outcome (reads_reaches r.reads) r.counted h
  last_answer m w limit r (Err e) h =
      failure_follows (HasOutcomeFrom (contents_in holds states) (configuration m []) m.left) (HasOutcome (contents_in holds states) w limit) states
      (λ o k. whole_outcome (reads_reaches r.reads) r.counted k) e h

  -- a tree in a result is a parse
  pub answer_built : (w : List TerminalString) (limit : ℕ) (answer : Result ParseTree (InterpretError L)) → ReportsOutcome (HasOutcome (contents_in holds states) w limit) states answer → IfOk answer (λ tree. IsBuilt (reduced_productions states) (contents_in holds states) w limit (tree_of tree))
  answer_built w limit (Ok tree) h =
      parsed_built (reduced_productions states) (contents_in holds states) (length states) (lead holds states coherent) (reduces_by holds states) w limit h
  answer_built w limit (Err e) h = tt

  -- so its inner nodes are given by productions, its leaves are the list, and it has a node for
  -- each step
  pub tree_of_productions : (w : List TerminalString) (limit : ℕ) (answer : Result ParseTree (InterpretError L)) → ReportsOutcome (HasOutcome (contents_in holds states) w limit) states answer → IfOk answer (λ tree. AreOfGrammar (reduced_productions states) (beside (tree_of tree) no_trees))
  tree_of_productions w limit answer h = if_ok (λ tree built. built.of_grammar) answer (answer_built w limit answer h)

  pub tree_of_list : (w : List TerminalString) (limit : ℕ) (answer : Result ParseTree (InterpretError L)) → ReportsOutcome (HasOutcome (contents_in holds states) w limit) states answer → IfOk answer (λ tree. leaves (beside (tree_of tree) no_trees) ≡ w)
  tree_of_list w limit answer h = if_ok (λ tree built. built.of_list) answer (answer_built w limit answer h)

  pub tree_steps : (w : List TerminalString) (limit : ℕ) (answer : Result ParseTree (InterpretError L)) → ReportsOutcome (HasOutcome (contents_in holds states) w limit) states answer → IfOk answer (λ tree. IsParsedIn (contents_in holds states) w (nodes (beside (tree_of tree) no_trees)) (tree_of tree))
  tree_steps w limit answer h = if_ok (λ tree built. built.steps) answer (answer_built w limit answer h)

  pub tree_within : (w : List TerminalString) (limit : ℕ) (answer : Result ParseTree (InterpretError L)) → ReportsOutcome (HasOutcome (contents_in holds states) w limit) states answer → IfOk answer (λ tree. nodes (beside (tree_of tree) no_trees) ≤ limit)
  tree_within w limit answer h = if_ok (λ tree built. built.within) answer (answer_built w limit answer h)

-- a result for as many steps as the limit is one for the limit
pub answer_at : {L : Type 0} (table : ℕ → Contents) (states : List (State L)) (w : List TerminalString) (left limit : ℕ) → left ≡ limit → (answer : Result ParseTree (InterpretError L)) → ReportsOutcome (HasOutcome table w left) states answer → ReportsOutcome (HasOutcome table w limit) states answer
answer_at table states w left limit e answer h = subst (λ n. ReportsOutcome (HasOutcome table w n) states answer) e h

-- the stack that is returned, as numbers
pub stack_is : (below : List StateIndex) (s : StateIndex) → reverse (s.0 ∷ numbers below) ≡ map number_of (below ++ s ∷ [])
stack_is below s = ap reverse (sym (numbers_more below s)) ∙ reverse-reverse (map number_of (below ++ s ∷ []))

pub stack_answer : {states : ℕ → Contents} (m : Machine) (w : List TerminalString) (limit : ℕ) (stack : List StateIndex) → HasRead states (begin w) limit m [] → stack ≡ m.below.items ++ m.state ∷ [] → HasPartialOutcome states (begin w) limit (Stack (map number_of stack))
stack_answer {states} m w limit stack r e =
    subst (λ l. HasPartialOutcome states (begin w) limit (Stack l)) (stack_is m.below.items m.state ∙ ap (map number_of) (sym e))
    (all_read r.steps (configuration m []) (let k : r.steps + m.left ≡ limit = r.counted in omega (arith, k)) r.reads refl)
