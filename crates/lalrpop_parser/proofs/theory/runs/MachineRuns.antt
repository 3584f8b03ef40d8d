-- A machine over coherent states makes the steps of a run.
use Rattle.std.proofs.Common.{Bool, ◌≡◌, ◌≢◌, ℕ, suc, ◌+◌, ◌-◌, ◌<◌, ◌≤◌, List, [], ◌∷◌, ◌++◌, length, map, reverse, get_or, Option, Some, None, refl, sym, ap, ap₂, subst, ◌∙◌, arith}
use Rattle.std.specs.Prelude.{slice_get, option_map, Result, Ok, Err, OnOk, IfErr, IfSome, IsNone, IsErrAnd, ◌⊎◌, ok_or}
use Rattle.std.specs.Borrow.{Bor}
use Rattle.std.specs.declared.vec.Vec.{Vec}
use Rattle.std.proofs.Common.{⊎_elim}
use Rattle.std.specs.BTreeMap.{get}
use Rattle.std.proofs.lemmas.List.{get_or-reverse, length-map, length-reverse}
use Rattle.std.proofs.lemmas.Option.{slice_get_read, slice_get_within, get_or_from_slice_get, slice_get-map}
use Rattle.lalrpop_base.specs.Words.{AreCoherent, number_of, contents_of, contents_at, contents_in, Contents, Tree, Leaf, Configuration, reduction_on, Stands}
use Rattle.lalrpop_base.specs.Words.{Goes, Ends, shifts_or, move, Reaches, here, further, Outcome, Parsed, Refused, Limit}
use Rattle.lalrpop_grammar.specs.contracts.repr.TerminalStringOrd.TheImpl as terminal_ord
use Rattle.lalrpop_parser.proofs.Types.{Production, State, StateIndex, TerminalString, Token}
use Rattle.lalrpop_grammar.specs.declared.lookahead.token.Token.TheVariants.{Eof, Terminal as TokenOf}
use Rattle.lalrpop_states.proofs.theory.states.ContentsViews.{LeadAsItemsSay, lead_as_items_say}
use Rattle.lalrpop_parser.specs.Words.{numbers, trees_on, configuration, IsStacked, CanPop, reduction_move, IsProgress, IsHalted, IsSpent, IsShifted, HasRead}
use Rattle.lalrpop_parser.specs.Words.{Reads, before, StopsReading, stuck, early_end, cut_off, PartialOutcome, Stop, tree_of, HasOutcomeFrom, parsed_from}
use Rattle.lalrpop_parser.specs.Words.{stuck_from, other_end_from, cut_off_from, IsFailure, ReportsOutcome, IsPartialAnswer}
use Rattle.lalrpop_parser.specs.runs.Reading.{read}
use Rattle.lalrpop_parser.specs.declared.interpret.tree.ParseTree.{ParseTree}
use Rattle.lalrpop_parser.specs.declared.interpret.error.InterpretError.{InterpretError}
use Rattle.lalrpop_parser.specs.declared.interpret.error.InterpretError.TheVariants.{Refused as RefusedBy, Limit as LimitPassed, Memory}
use Rattle.lalrpop_parser.specs.declared.interpret.machine.Machine.{Machine}
use Rattle.lalrpop_parser.specs.declared.interpret.machine.Progress.TheVariants.{Stuck, GoesOn, Ended}
use Rattle.lalrpop_parser.specs.declared.interpret.machine.Progress.{Progress}
use Rattle.lalrpop_parser.proofs.theory.runs.Outcomes.{Reads-append, stop_later, failure_follows}
use Rattle.lalrpop_parser.proofs.theory.runs.Popping.{numbers_more}
use Rattle.lalrpop_parser.proofs.theory.runs.Stacks.{Found, found, on_stack, stack_length, step_keeps}
use Rattle.lalrpop_grammar.proofs.theory.runs.Steps.{Reaches-append}

-- a state of a list with the newest last has its number in the list with the newest first
number_there : (xs : List StateIndex) (k : ℕ) (x : StateIndex) → slice_get xs k ≡ Some x → (j : ℕ) × (slice_get (numbers xs) j ≡ Some x.0)
number_there xs k x e =
    let all = map number_of xs in
    let within : k < length xs = slice_get_within xs k x e in
    let size : length all ≡ length xs = length-map xs number_of in
    let turned : length (reverse all) ≡ length all = length-reverse all in
    let j = length all - 1 - k in
    let back : length all - 1 - j ≡ k = omega arith in
    let there : get_or all k x.0 ≡ x.0 = get_or_from_slice_get all k x.0 x.0 (slice_get-map number_of xs k ∙ ap (option_map number_of) e) in
    (j, slice_get_read (reverse all) (length (reverse all)) j x.0 refl (omega arith) (sym (get_or-reverse all j x.0 (omega arith) ∙ ap (λ i. get_or all i x.0) back ∙ there)))

module _ {L : Type 0} (holds : L → Token → Bool) (states : List (State L)) where
  -- the contents of the top state
  pub top_is : (m : Machine) (top : State L) → slice_get states m.state.0 ≡ Some top → contents_in holds states m.state.0 ≡ contents_of holds top
  top_is m top there = ap (contents_at holds) there

  pub lead : AreCoherent states → LeadAsItemsSay (contents_in holds states) (length states)
  lead coherent = lead_as_items_say holds states coherent

  module _ (coherent : AreCoherent states) (some : 0 < length states) where
    pub top_within : (m : Machine) → IsStacked (contents_in holds states) m → m.state.0 < length states
    top_within m st = on_stack (contents_in holds states) (length states) (lead coherent) some st 0 m.state.0 refl

    -- a reduction can be made
    pub can_pop : (m : Machine) (top : State L) (token : Token) (p : Production) → IsStacked (contents_in holds states) m → slice_get states m.state.0 ≡ Some top → Some p ≡ reduction_on (contents_of holds top).reductions token → CanPop (length states) m (length p.symbols)
    can_pop m top token p st there e =
        let c = configuration m [] in
        let f : Found (contents_in holds states) c p = found (contents_in holds states) (length states) (lead coherent) c token p st (ap (λ (s : Contents). reduction_on s.reductions token) (top_is m top there) ∙ sym e) in
        let fits : length p.symbols ≤ length (numbers m.below.items) = f.popped.fits in
        let below : length (numbers m.below.items) ≡ length m.below.items = length-reverse (map number_of m.below.items) ∙ length-map m.below.items number_of in
        let trees : length (trees_on m.trees.items) ≡ length m.trees.items = length-reverse (map _ m.trees.items) ∙ length-map m.trees.items _ in
        let same : length (trees_on m.trees.items) ≡ length (numbers m.below.items) = stack_length st in
        record {
          trees = omega arith;
          states = omega arith;
          within = λ k x h.
              let (j, at) = number_there (m.below.items ++ m.state ∷ []) k x h in
              on_stack (contents_in holds states) (length states) (lead coherent) some st j x.0 (subst (λ l. slice_get l j ≡ Some x.0) (numbers_more m.below.items m.state) at);
        }

  -- a shift is the step that the top state has on a terminal
  pub shift_goes : (m new : Machine) (top : State L) (t : TerminalString) (target : StateIndex) (rest : List TerminalString) → slice_get states m.state.0 ≡ Some top → get terminal_ord.ghosts.cmp top.shifts t ≡ Some target → IsShifted m target.0 t new →
      move (contents_in holds states) (configuration m (t ∷ rest)) ≡ Goes (configuration new rest)
  shift_goes m new top t target rest there e s =
      let first : move (contents_in holds states) (configuration m (t ∷ rest)) ≡ shifts_or (contents_in holds states) (configuration m (t ∷ rest)) t rest (Some target.0) =
      ap (λ (k : Contents). shifts_or (contents_in holds states) (configuration m (t ∷ rest)) t rest (k.shift t)) (top_is m top there)
      ∙ ap (λ o. shifts_or (contents_in holds states) (configuration m (t ∷ rest)) t rest (option_map number_of o)) e in
      first
      ∙ ap (λ n. Goes (record { state = n; below = m.state.0 ∷ numbers m.below.items; trees = Leaf t ∷ trees_on m.trees.items; rest = rest })) (sym s.state)
      ∙ ap₂ (λ l ts. Goes (record { state = new.state.0; below = l; trees = ts; rest = rest })) (sym s.below) (sym s.trees)

  pub shift_is_a_step : (m : Machine) (top : State L) (t : TerminalString) (target : StateIndex) (rest : List TerminalString) → slice_get states m.state.0 ≡ Some top → get terminal_ord.ghosts.cmp top.shifts t ≡ Some target →
      move (contents_in holds states) (configuration m (t ∷ rest)) ≢ Stands
  shift_is_a_step m top t target rest there e h =
      let first : move (contents_in holds states) (configuration m (t ∷ rest)) ≡ shifts_or (contents_in holds states) (configuration m (t ∷ rest)) t rest (Some target.0) =
      ap (λ (k : Contents). shifts_or (contents_in holds states) (configuration m (t ∷ rest)) t rest (k.shift t)) (top_is m top there)
      ∙ ap (λ o. shifts_or (contents_in holds states) (configuration m (t ∷ rest)) t rest (option_map number_of o)) e in
      let k : shifts_or (contents_in holds states) (configuration m (t ∷ rest)) t rest (Some target.0) ≡ Stands = sym first ∙ h in
      cc

  -- without a shift the step is the reduction
  pub no_shift : (m : Machine) (top : State L) (t : TerminalString) (rest : List TerminalString) → slice_get states m.state.0 ≡ Some top → get terminal_ord.ghosts.cmp top.shifts t ≡ None →
      move (contents_in holds states) (configuration m (t ∷ rest)) ≡ reduction_move (contents_in holds states) (configuration m (t ∷ rest)) (TokenOf t)
  no_shift m top t rest there e =
      ap (λ (k : Contents). shifts_or (contents_in holds states) (configuration m (t ∷ rest)) t rest (k.shift t)) (top_is m top there)
      ∙ ap (λ o. shifts_or (contents_in holds states) (configuration m (t ∷ rest)) t rest (option_map number_of o)) e

-- the machine was reached from the configuration and has no input left; it has left what remains of
-- the steps
pub record HasReached (states : ℕ → Contents) (b : Configuration) (left : ℕ) (m : Machine) : Type 0 where
  pub steps : ℕ
  pub reached : Reaches states steps b (configuration m [])
  pub counted : steps + m.left ≡ left

-- one more step without input
pub reaches_on : {states : ℕ → Contents} {b : Configuration} {left : ℕ} (m new : Machine) → HasReached states b left m → move states (configuration m []) ≡ Goes (configuration new []) → suc new.left ≡ m.left → HasReached states b left new
reaches_on m new r e counted = record {
  steps = r.steps + 1;
  reached = Reaches-append r.reached (further e here);
  counted = let k : r.steps + m.left ≡ _ = r.counted in omega (arith, k);
}

-- how a run ends without input
module _ {states : ℕ → Contents} {b : Configuration} {left : ℕ} (m : Machine) (r : HasReached states b left m) where
  pub ends_stuck : move states (configuration m []) ≡ Stands → HasOutcomeFrom states b left (Refused m.state.0 Eof)
  ends_stuck e = stuck_from r.steps (configuration m []) (let k : r.steps + m.left ≡ left = r.counted in omega (arith, k)) r.reached e

  pub ends_parsed : (trees : List Tree) (t : Tree) → move states (configuration m []) ≡ Ends trees → 0 < m.left → trees ≡ t ∷ [] → HasOutcomeFrom states b left (Parsed t)
  ends_parsed trees t e some one = parsed_from r.steps (configuration m []) trees t (let k : r.steps + m.left ≡ left = r.counted in omega (arith, k)) r.reached e (one, refl)

  pub ends_otherwise : (trees : List Tree) → move states (configuration m []) ≡ Ends trees → 0 < m.left → ((t : Tree) → trees ≡ t ∷ [] → ⊥) → HasOutcomeFrom states b left (Refused m.state.0 Eof)
  ends_otherwise trees e some other = other_end_from r.steps (configuration m []) trees (let k : r.steps + m.left ≡ left = r.counted in omega (arith, k)) r.reached e (λ t p. other t p.0)

  pub ends_cut_off : move states (configuration m []) ≢ Stands → m.left ≡ 0 → HasOutcomeFrom states b left Limit
  ends_cut_off e none =
      let all : r.steps ≡ left = let k : r.steps + m.left ≡ left = r.counted in omega (arith, k) in
      cut_off_from (configuration m []) (subst (λ n. Reaches states n b (configuration m [])) all r.reached) e

-- one more step on a terminal
pub reads_on : {states : ℕ → Contents} {b : Configuration} {left : ℕ} (m new : Machine) (t : TerminalString) (rest after : List TerminalString) →
    HasRead states b left m (t ∷ rest) → move states (configuration m (t ∷ rest)) ≡ Goes (configuration new after) → suc new.left ≡ m.left → HasRead states b left new after
reads_on m new t rest after r e counted = record {
  steps = r.steps + 1;
  reads = Reads-append r.reads (before t rest refl e read);
  counted = let k : r.steps + m.left ≡ _ = r.counted in omega (arith, k);
}

-- how a run stops while terminals are left
module _ {states : ℕ → Contents} {b : Configuration} {left : ℕ} (m : Machine) (t : TerminalString) (rest : List TerminalString) (r : HasRead states b left m (t ∷ rest)) where
  pub stops_stuck : move states (configuration m (t ∷ rest)) ≡ Stands → StopsReading states b left (Refused m.state.0 (TokenOf t))
  stops_stuck e = stuck r.steps (configuration m (t ∷ rest)) t rest (let k : r.steps + m.left ≡ left = r.counted in omega (arith, k)) r.reads refl e

  pub stops_early : (trees : List Tree) → move states (configuration m (t ∷ rest)) ≡ Ends trees → 0 < m.left → StopsReading states b left (Refused m.state.0 (TokenOf t))
  stops_early trees e some = early_end r.steps (configuration m (t ∷ rest)) trees t rest (let k : r.steps + m.left ≡ left = r.counted in omega (arith, k)) r.reads refl e

  pub stops_cut_off : move states (configuration m (t ∷ rest)) ≢ Stands → m.left ≡ 0 → StopsReading states b left Limit
  stops_cut_off e none =
      let all : r.steps ≡ left = let k : r.steps + m.left ≡ left = r.counted in omega (arith, k) in
      cut_off (configuration m (t ∷ rest)) t rest (subst (λ n. Reads states n b (configuration m (t ∷ rest))) all r.reads) refl e

  pub stops_spent : {L : Type 0} (list : List (State L)) → move states (configuration m (t ∷ rest)) ≢ Stands → (e : InterpretError L) → IsSpent m e → IsFailure (StopsReading states b left) list e
  stops_spent list h (RefusedBy state token) s = absurd s
  stops_spent list h LimitPassed s = stops_cut_off h s
  stops_spent list h Memory s = tt

-- a reduction for which no step is left stops the run
pub halted_stops : {L : Type 0} {states : ℕ → Contents} {b : Configuration} {left : ℕ} (m : Machine) (t : TerminalString) (rest : List TerminalString) (token : Token) (list : List (State L)) → HasRead states b left m (t ∷ rest) →
    token ≡ TokenOf t → move states (configuration m (t ∷ rest)) ≡ reduction_move states (configuration m (t ∷ rest)) (TokenOf t) → (e : InterpretError L) → IsHalted states m token (t ∷ rest) e → IsFailure (StopsReading states b left) list e
halted_stops m t rest token list r same k (RefusedBy state u) h = absurd h
halted_stops {states} m t rest token list r same k LimitPassed h = stops_cut_off m t rest r (λ e. h.0 (ap (reduction_move states (configuration m (t ∷ rest))) same ∙ sym k ∙ e)) h.1
halted_stops m t rest token list r same k Memory h = tt

-- a reduction for which no step is left ends the run on Eof
pub halted_ends : {L : Type 0} {states : ℕ → Contents} {b : Configuration} {left : ℕ} (m : Machine) (list : List (State L)) → HasReached states b left m → (e : InterpretError L) → IsHalted states m Eof [] e → IsFailure (HasOutcomeFrom states b left) list e
halted_ends m list r (RefusedBy state u) h = absurd h
halted_ends m list r LimitPassed h = ends_cut_off m r h.0 h.1
halted_ends m list r Memory h = tt

-- a reduction on a terminal that goes on is a step
pub reduces_on : {states : ℕ → Contents} {b : Configuration} {left : ℕ} (m new : Machine) (t : TerminalString) (rest : List TerminalString) (token : Token) → HasRead states b left m (t ∷ rest) →
    token ≡ TokenOf t → move states (configuration m (t ∷ rest)) ≡ reduction_move states (configuration m (t ∷ rest)) (TokenOf t) → IsProgress states m token (t ∷ rest) new GoesOn → HasRead states b left new (t ∷ rest)
reduces_on {states} m new t rest token r same k h =
    reads_on m new t rest (t ∷ rest) r (k ∙ ap (reduction_move states (configuration m (t ∷ rest))) (sym same) ∙ h.0) h.1

pub on_ok : {T E A B : Type 0} → (A → B) → (r : Result T E) → OnOk r A → OnOk r B
on_ok f (Ok v) h = f h
on_ok f (Err e) h = tt

pub if_err : {T E : Type 0} (P Q : E → Type 0) → ((e : E) → P e → Q e) → (r : Result T E) → IfErr r P → IfErr r Q
if_err P Q f (Ok v) h = tt
if_err P Q f (Err e) h = f e h

-- a machine has a stack after a reduction on a terminal
pub reduces_stacked : {L : Type 0} (holds : L → Token → Bool) (states : List (State L)) → AreCoherent states → (m new : Machine) (t : TerminalString) (token : Token) → IsStacked (contents_in holds states) m →
    token ≡ TokenOf t → move (contents_in holds states) (configuration m (t ∷ [])) ≡ reduction_move (contents_in holds states) (configuration m (t ∷ [])) (TokenOf t) →
    IsProgress (contents_in holds states) m token (t ∷ []) new GoesOn → IsStacked (contents_in holds states) new
reduces_stacked holds states coherent m new t token st same k h =
    step_keeps (contents_in holds states) (length states) (lead holds states coherent) (configuration m (t ∷ [])) (configuration new (t ∷ []))
    (k ∙ ap (reduction_move (contents_in holds states) (configuration m (t ∷ []))) (sym same) ∙ h.0) st

-- a missing reduction, or a last one, stops the run on a terminal
pub refused_stops : {states : ℕ → Contents} {b : Configuration} {left : ℕ} (m new : Machine) (t : TerminalString) (rest : List TerminalString) (token : Token) → HasRead states b left m (t ∷ rest) →
    token ≡ TokenOf t → move states (configuration m (t ∷ rest)) ≡ reduction_move states (configuration m (t ∷ rest)) (TokenOf t) →
    (p : Progress) → (p ≡ Stuck) ⊎ (p ≡ Ended) → IsProgress states m token (t ∷ rest) new p → StopsReading states b left (Refused m.state.0 token)
refused_stops {states} {b} {left} m new t rest token r same k Stuck is h =
    subst (λ u. StopsReading states b left (Refused m.state.0 u)) (sym same) (stops_stuck m t rest r (k ∙ ap (reduction_move states (configuration m (t ∷ rest))) (sym same) ∙ h.0))
refused_stops m new t rest token r same k GoesOn is h = absurd (⊎_elim (λ e. cc) (λ e. cc) is)
refused_stops {states} {b} {left} m new t rest token r same k Ended is h =
    subst (λ u. StopsReading states b left (Refused m.state.0 u)) (sym same) (stops_early m t rest r (trees_on new.trees.items) (k ∙ ap (reduction_move states (configuration m (t ∷ rest))) (sym same) ∙ h.0) h.1)

-- a run goes on by what is read from where it is
pub read_on : {states : ℕ → Contents} {b : Configuration} {left : ℕ} (m new : Machine) (all rest : List TerminalString) (t : TerminalString) →
    HasRead states b left m all → all ≡ t ∷ rest → HasRead states (configuration m (t ∷ rest)) m.left new rest → HasRead states b left new rest
read_on {states} {b} {left} m new all rest t r e s = record {
  steps = r.steps + s.steps;
  reads = Reads-append (subst (λ l. Reads states r.steps b (configuration m l)) e r.reads) s.reads;
  counted = let k : r.steps + m.left ≡ left = r.counted in let h : s.steps + new.left ≡ m.left = s.counted in omega (arith, k, h);
}

-- a run stops if it stops from where it is
pub fail_later : {L : Type 0} {states : ℕ → Contents} {b : Configuration} {left : ℕ} (list : List (State L)) (m : Machine) (all rest : List TerminalString) (t : TerminalString) →
    HasRead states b left m all → all ≡ t ∷ rest → (error : InterpretError L) → IsFailure (StopsReading states (configuration m (t ∷ rest)) m.left) list error → IsFailure (StopsReading states b left) list error
fail_later {states} {b} {left} list m all rest t r e error h =
    failure_follows (StopsReading states (configuration m (t ∷ rest)) m.left) (StopsReading states b left) list
    (λ o k. stop_later (subst (λ l. Reads states r.steps b (configuration m l)) e r.reads) r.counted k) error h

-- if one tree is left it is a parse, and if others are left there is none
pub ended_answer : {L : Type 0} {states : ℕ → Contents} {b : Configuration} {left : ℕ} (list : List (State L)) (m : Machine) (state : Bor (State L)) (trees : List Tree) → HasReached states b left m →
    slice_get list m.state.0 ≡ Some state.now → move states (configuration m []) ≡ Ends trees → 0 < m.left →
    (o : Option ParseTree) → IfSome o (λ tree. trees ≡ tree_of tree ∷ []) → (IsNone o → (t : Tree) → trees ≡ t ∷ [] → ⊥) →
    ReportsOutcome (HasOutcomeFrom states b left) list (ok_or o (RefusedBy state Eof))
ended_answer list m state trees r there e some (Some tree) one other = ends_parsed m r trees (tree_of tree) e some one
ended_answer list m state trees r there e some None one other = (m.state.0, there, ends_otherwise m r trees e some (other refl))

-- an error that is passed on
pub raised : {T E : Type 0} (Q : E → Type 0) (error : E) → Q error → (r : Result T E) → IsErrAnd r (λ e. e ≡ error) → IfErr r Q
raised Q error h (Ok v) k = absurd k
raised Q error h (Err e) k = subst Q (sym k) h

pub raised_answer : {L : Type 0} (R : Outcome → Type 0) (list : List (State L)) (error : InterpretError L) → IsFailure R list error → (r : Result ParseTree (InterpretError L)) → IsErrAnd r (λ e. e ≡ error) → ReportsOutcome R list r
raised_answer R list error h (Ok v) k = absurd k
raised_answer R list error h (Err e) k = subst (IsFailure R list) (sym k) h

pub raised_partial : {A L : Type 0} (R : PartialOutcome → Type 0) (list : List (State L)) (error : InterpretError L) → IsFailure (λ o. R (Stop o)) list error → (r : Result (Vec StateIndex A) (InterpretError L)) → IsErrAnd r (λ e. e ≡ error) → IsPartialAnswer R list r
raised_partial R list error h (Ok v) k = absurd k
raised_partial R list error h (Err e) k = subst (IsFailure (λ o. R (Stop o)) list) (sym k) h

-- the progress of a reduction, under other names of its token and its outcome
pub progressed : (states : ℕ → Contents) (old new : Machine) (token u : Token) (rest : List TerminalString) (p q : Progress) → token ≡ u → p ≡ q → IsProgress states old token rest new p → IsProgress states old u rest new q
progressed states old new token u rest p q same is h =
    subst (λ (x : Progress). IsProgress states old u rest new x) is (subst (λ (v : Token). IsProgress states old v rest new p) same h)
