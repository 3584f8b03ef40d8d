use Rattle.std.proofs.Common.{◌≡◌, ℕ, ◌<◌, ◌≤◌, ◌+◌, [], ◌∷◌, ◌++◌, List, length, drop, get_or, refl, sym, ◌∙◌, ap, subst, arith}
use Rattle.std.specs.Prelude.{Contains, slice_get, Option}
use Rattle.std.proofs.lemmas.Option.{slice_get-get_or, slice_get_past}
use mathlib.Core.Bool.{true≢false}
use Rattle.lalrpop_base.specs.Words.{Bits, Dotted}
use Rattle.lalrpop_traces.proofs.Types.{State}
use Rattle.lalrpop_traces.specs.Words.{Meeting, take_up, take_up_each, items_at, asked, duties_left, IsStep}
use Rattle.lalrpop_traces.specs.declared.trace.walk_back.Met.{Met}
use Rattle.lalrpop_traces.specs.declared.trace.walk_back.Task.{Task}
use Rattle.lalrpop_traces.specs.declared.trace.walk_back.Task.TheVariants.{MeetItems}
use Rattle.lalrpop_traces.proofs.theory.traces.TraceGraphs.{on_ok}
use Rattle.lalrpop_traces.proofs.theory.traces.TraceSteps.{passed_none, passed_one, step_end, step_item, named_pushed}
use Rattle.lalrpop_traces.proofs.trace.walk_back.meet_items.Goals as goal

-- the items of a state of the list
read : (states : List (State Bits)) (n : ℕ) (d : State Bits) (items : List (Dotted Bits)) → n < length states → items ≡ (get_or states n d).items.vec.items → items_at (slice_get states n) ≡ items
read states n d items within is = ap (λ (o : Option (State Bits)). items_at o) (slice_get-get_or states n d within) ∙ sym is

pub returns-then-state-states : goal.returns-then-state-states
returns-then-state-states c =
    let b = asked c.args.trace.now in
    let m : Meeting = (c.args.state, c.args.name.now) in
    let items = items_at (slice_get b.states c.args.state.0) in
    let P : Option (State Bits) → Type 0 = λ o. length (items_at o) ≤ c.args.next in
    step_end b c.args.tasks.now.items m items c.args.next c.args.next c.args.met.now (passed_none b m items (duties_left b c.args.tasks.now.items) c.args.met.now c.args.next)
    (subst P (sym (slice_get_past b.states c.args.state.0 c.if-state-states.true)) (omega arith)) c.requires.named

pub loop-place-init : goal.loop-place-init
loop-place-init c =
    let b = asked c.args.trace.now in
    record { met = refl; tasks = refl; passed = passed_none b (c.args.state, c.args.name.now) c.as_slice-items.result.now (duties_left b c.args.tasks.now.items) c.args.met.now c.args.next }

pub meet_item-requires-clause-takes : goal.meet_item-requires-clause-takes
meet_item-requires-clause-takes c =
    let states = c.args.trace.now.context.now.states.now in
    let state = get_or states c.args.state.0 c.index-states-state.result in
    let item = c.index-items-place.result in
    let P : List (Dotted Bits) → Type 0 = λ is. Contains is item in
    ((state, slice_get-get_or states c.args.state.0 c.index-states-state.result c.if-state-states.false, subst P c.as_slice-items.ensures.value (c.loop-place.place, c.loop-place-test.true, sym c.index-items-place.is)), c.can_shift_nonterminal.ensures.0 c.if-can_shift_nonterminal.true)

pub meet_item-requires-clause-named : goal.meet_item-requires-clause-named
meet_item-requires-clause-named c =
    let b = asked c.args.trace.now in
    let m : Meeting = (c.args.state, c.args.name.now) in
    let task : Task = MeetItems c.args.state c.args.name (c.loop-place.place + 1) in
    named_pushed b m (drop (c.loop-place.place + 1) (items_at (slice_get b.states c.args.state.0))) c.args.tasks.now.items c.push.new.self.items task (c.in_ok-push.ensures.items ∙ ap (λ (ts : List Task). ts ++ task ∷ []) c.loop-place.invariant.tasks) refl c.requires.named

pub returns-then-can_shift_nonterminal : goal.returns-then-can_shift_nonterminal
returns-then-can_shift_nonterminal c =
    let b = asked c.args.trace.now in
    let m : Meeting = (c.args.state, c.args.name.now) in
    let tasks = c.args.tasks.now.items in
    let task : Task = MeetItems c.args.state c.args.name (c.loop-place.place + 1) in
    let item = c.index-items-place.result in
    let there = read b.states c.args.state.0 c.index-states-state.result c.as_slice-items.result.now c.if-state-states.false c.as_slice-items.ensures.value in
    let duties = ap (λ (is : List (Dotted Bits)). take_up_each m (drop (c.loop-place.place + 1) is)) there in
    let P : List (Dotted Bits) → Type 0 = λ is. IsStep b c.args.met.now c.meet_item.new.met (take_up_each m (drop c.args.next is) ++ duties_left b tasks) (length tasks + 1) c.meet_item.new.tasks.items in
    let Q : Met → Type 0 = λ met. IsStep b met c.meet_item.new.met (take_up m item ∷ duties_left b c.push.new.self.items) (length c.push.new.self.items) c.meet_item.new.tasks.items in
    on_ok c.meet_item.result c.meet_item.ensures (λ step.
    subst P (sym there)
    (step_item b tasks m c.as_slice-items.result.now c.args.next c.loop-place.place c.args.met.now c.loop-place.invariant.passed c.meet_item.new.met task c.push.new.self.items c.meet_item.new.tasks.items item
    c.loop-place-test.true c.index-items-place.is (c.in_ok-push.ensures.items ∙ ap (λ (ts : List Task). ts ++ task ∷ []) c.loop-place.invariant.tasks) duties (subst Q c.loop-place.invariant.met step)))

pub loop-place-preserved : goal.loop-place-preserved
loop-place-preserved c =
    let b = asked c.args.trace.now in
    record {
      met = c.loop-place.invariant.met;
      tasks = c.loop-place.invariant.tasks;
      passed = passed_one b (c.args.state, c.args.name.now) c.as_slice-items.result.now (duties_left b c.args.tasks.now.items) c.args.met.now c.args.next c.loop-place.place c.index-items-place.result c.loop-place-test.true c.index-items-place.is
          (λ at. true≢false (sym (c.can_shift_nonterminal.ensures.1 at) ∙ c.if-can_shift_nonterminal.false)) c.loop-place.invariant.passed;
    }

pub returns : goal.returns
returns c =
    let b = asked c.args.trace.now in
    let m : Meeting = (c.args.state, c.args.name.now) in
    let tasks = c.args.tasks.now.items in
    let there = read b.states c.args.state.0 c.index-states-state.result c.as_slice-items.result.now c.if-state-states.false c.as_slice-items.ensures.value in
    let P : List (Dotted Bits) → Type 0 = λ is. IsStep b c.args.met.now c.args.met.now (take_up_each m (drop c.args.next is) ++ duties_left b tasks) (length tasks + 1) tasks in
    let Q : Met → Type 0 = λ met. IsStep b c.args.met.now met (take_up_each m (drop c.args.next (items_at (slice_get b.states c.args.state.0))) ++ duties_left b tasks) (length tasks + 1) c.loop-place.tasks.items in
    let R : List Task → Type 0 = λ ts. IsStep b c.args.met.now c.args.met.now (take_up_each m (drop c.args.next (items_at (slice_get b.states c.args.state.0))) ++ duties_left b tasks) (length tasks + 1) ts in
    subst Q (sym c.loop-place.invariant.met) (subst R (sym c.loop-place.invariant.tasks) (subst P (sym there)
    (step_end b tasks m c.as_slice-items.result.now c.args.next c.loop-place.place c.args.met.now c.loop-place.invariant.passed c.loop-place-test.false c.requires.named)))
