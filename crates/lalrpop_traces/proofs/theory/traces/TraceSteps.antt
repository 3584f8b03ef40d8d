-- Steps of a trace with its tasks.
use Rattle.std.proofs.Common.{◌≡◌, ◌≢◌, inl, inr, ℕ, ◌<◌, ◌≤◌, ◌+◌, Bool, true, false, List, [], ◌∷◌, ◌++◌, map, length, drop, get_or, refl, sym, ◌∙◌, ap, subst, arith, append_assoc}
use Rattle.std.specs.Prelude.{Contains, slice_get, Some}
use Rattle.std.specs.List.{flat_map}
use Rattle.std.proofs.lemmas.List.{drop_all, drop_more, length_push, map-append, reverse-append}
use Rattle.std.proofs.lemmas.List.Elements.{Contains-append_cases, Contains-append_right}
use Rattle.std.proofs.lemmas.Option.{slice_get_within}
use Rattle.lalrpop_base.specs.Words.{Bits, Dotted}
use Rattle.lalrpop_traces.proofs.Types.{NonterminalString, Production, StateIndex}
use Rattle.lalrpop_grammar.specs.declared.repr.Symbol.TheVariants.{Nonterminal}
use Rattle.lalrpop_collections.proofs.theory.lists.Members.{contains_head, contains_tail}
use Rattle.lalrpop_traces.specs.Words.{Backtrace, Meeting, Takes, GoesOn, Duty, come_to, take_up, come_to_each, take_up_each, items_at, stop_edge, onward_edges, AreSources}
use Rattle.lalrpop_traces.specs.Words.{IsInsertedPair, AddsInOrder, duties_of, duties_left, names_in, AreNamed, work, WalksOn, IsStep}
use Rattle.lalrpop_traces.specs.declared.trace.walk_back.Met.{Met}
use Rattle.lalrpop_traces.specs.declared.trace.walk_back.Task.{Task}
use Rattle.lalrpop_traces.proofs.theory.traces.Meetings.{named_item, come_work, met_work, item_work, sources_work}
use Rattle.lalrpop_traces.proofs.theory.traces.TraceOrder.{walks_none, walks_then, walks_known, walks_met, walks_past, walks_stop, walks_on}
use Rattle.lalrpop_collections.proofs.theory.lists.Lists.{contains_of_map}

module _ (b : Backtrace) where
  -- ---- duties of a stack
  -- the duties with one more task on top
  pub duties_push : (tasks : List Task) (task : Task) → duties_left b (tasks ++ task ∷ []) ≡ duties_of b task ++ duties_left b tasks
  duties_push tasks task = ap (λ (ts : List Task). flat_map (duties_of b) ts) (reverse-append tasks (task ∷ []))

  duties_pushed : (before after : List Task) (task : Task) (duties : List Duty) → after ≡ before ++ task ∷ [] → duties_of b task ≡ duties → duties_left b after ≡ duties ++ duties_left b before
  duties_pushed before after task duties is_after is_task = ap (λ (ts : List Task). duties_left b ts) is_after ∙ duties_push before task ∙ ap (λ (ds : List Duty). ds ++ duties_left b before) is_task

  -- the duties with one more of the sources, from the last on
  pub duties_source : (name : NonterminalString) (before after : List Task) (task : Task) (sources left : List StateIndex) (source : StateIndex) → after ≡ before ++ task ∷ [] → duties_of b task ≡ come_to (source, name) ∷ [] → sources ≡ left ++ source ∷ []
      → map (λ n. come_to (n, name)) sources ++ duties_left b before ≡ map (λ n. come_to (n, name)) left ++ duties_left b after
  duties_source name before after task sources left source is_after is_task is_sources =
      let come : StateIndex → Duty = λ n. come_to (n, name) in
      let top : duties_left b after ≡ come source ∷ duties_left b before = duties_pushed before after task (come source ∷ []) is_after is_task in
      ap (λ (xs : List StateIndex). map come xs ++ duties_left b before) is_sources
      ∙ ap (λ (ds : List Duty). ds ++ duties_left b before) (map-append come left (source ∷ []))
      ∙ append_assoc (map come left) (come source ∷ []) (duties_left b before)
      ∙ ap (λ (ds : List Duty). map come left ++ ds) (sym top)

  -- ---- names
  named_taken : (m : Meeting) (items : List (Dotted Bits)) (duties : List Duty) → AreNamed b duties → AreNamed b (take_up_each m items ++ duties)
  named_taken m items duties named q c = elim (Contains-append_cases (take_up_each m items) duties (come_to q) c) [
    | inl k ↦ (let from = contains_of_map (take_up m) items (come_to q) k in let apart : take_up m from.0 ≡ come_to q = from.2 in cc)
    | inr k ↦ named q k
  ]

  -- duties to take items come to no nonterminal
  pub named_pushed : (m : Meeting) (items : List (Dotted Bits)) (tasks pushed : List Task) (task : Task) → pushed ≡ tasks ++ task ∷ [] → duties_of b task ≡ take_up_each m items → AreNamed b (duties_left b tasks) → AreNamed b (duties_left b pushed)
  named_pushed m items tasks pushed task is_pushed duties named = subst (AreNamed b) (sym (duties_pushed tasks pushed task (take_up_each m items) is_pushed duties)) (named_taken m items (duties_left b tasks) named)

  pub named_rest : (one two : List Duty) → AreNamed b (one ++ two) → AreNamed b two
  named_rest one two named q c = named q (Contains-append_right one two (come_to q) c)

  named_tail : (d : Duty) (duties : List Duty) → AreNamed b (d ∷ duties) → AreNamed b duties
  named_tail d duties named q c = named q (contains_tail d duties (come_to q) c)

  -- the duties of sources come to the nonterminal of the production
  pub named_sources : (p : Production) (sources : List StateIndex) (duties : List Duty) → Contains (names_in b) p.nonterminal → AreNamed b duties → AreNamed b (come_to_each p sources ++ duties)
  named_sources p sources duties among named q c = elim (Contains-append_cases (come_to_each p sources) duties (come_to q) c) [
    | inl k ↦
        let from = contains_of_map (λ (n : StateIndex). come_to (n, p.nonterminal)) sources (come_to q) k in
        let same : come_to (from.0, p.nonterminal) ≡ come_to q = from.2 in
        let is : (from.0, p.nonterminal) ≡ q = cc in
        subst (Contains (names_in b)) (ap (λ (m : Meeting). m.1) is) among
    | inr k ↦ named q k
  ]

  -- ---- items that shift another symbol, or none
  -- the walk passes over the items from one place up to another, and has no more work then
  pub record IsPassed (m : Meeting) (items : List (Dotted Bits)) (duties : List Duty) (met : Met) (next place : ℕ) : Type 0 where
    pub walks : WalksOn b (take_up_each m (drop next items) ++ duties) (take_up_each m (drop place items) ++ duties) met met
    pub no_more : work b met (take_up_each m (drop place items) ++ duties) ≤ work b met (take_up_each m (drop next items) ++ duties)

  module _ (m : Meeting) (items : List (Dotted Bits)) (duties : List Duty) (met : Met) (next : ℕ) where
    pub passed_none : IsPassed m items duties met next next
    passed_none = record { walks = walks_none b (take_up_each m (drop next items) ++ duties) met; no_more = omega arith }

    pub passed_one : (place : ℕ) (item : Dotted Bits) → place < length items → item ≡ get_or items place item → slice_get item.production.symbols item.index ≢ Some (Nonterminal m.1) → IsPassed m items duties met next place → IsPassed m items duties met next (place + 1)
    passed_one place item within is other passed =
        let before = take_up_each m (drop next items) ++ duties in
        let behind = take_up_each m (drop (place + 1) items) ++ duties in
        let parted : drop place items ≡ item ∷ drop (place + 1) items = drop_more items place item within ∙ ap (λ (i : Dotted Bits). i ∷ drop (place + 1) items) (sym is) in
        let P : List (Dotted Bits) → Type 0 = λ is. WalksOn b before (take_up_each m is ++ duties) met met in
        let Q : List (Dotted Bits) → Type 0 = λ is. work b met (take_up_each m is ++ duties) ≤ work b met before in
        let no_more = subst Q parted passed.no_more in
        record {
          walks = walks_then b before (take_up m item ∷ behind) behind met met met (subst P parted passed.walks) (walks_past b behind m item met other);
          no_more = omega (arith, no_more, item_work b met met behind m item refl);
        }

  -- ---- steps
  module _ (tasks : List Task) where
    module _ (old middle : Met) (fresh : Bool) (m : Meeting) (inserted : IsInsertedPair fresh m old.visited_set middle.visited_set) (same : middle.trace_graph ≡ old.trace_graph) (named : AreNamed b (come_to m ∷ duties_left b tasks)) where
      -- a step to a nonterminal that was met before
      pub step_known : fresh ≡ false → IsStep b old middle (come_to m ∷ duties_left b tasks) (length tasks + 1) tasks
      step_known is = record {
        walks = walks_known b (duties_left b tasks) old middle fresh m inserted same is;
        named = named_tail (come_to m) (duties_left b tasks) named;
        fewer = let less = come_work b old middle (duties_left b tasks) fresh m inserted in omega (arith, less);
      }

      -- a step to a nonterminal that was not met before
      pub step_met : fresh ≡ true → (task : Task) (after : List Task) → duties_of b task ≡ take_up_each m (items_at (slice_get b.states m.0.0)) → after ≡ tasks ++ task ∷ [] → IsStep b old middle (come_to m ∷ duties_left b tasks) (length tasks + 1) after
      step_met is task after duties is_after =
          let items = items_at (slice_get b.states m.0.0) in
          let left : duties_left b after ≡ take_up_each m items ++ duties_left b tasks = duties_pushed tasks after task (take_up_each m items) is_after duties in
          let count : length after ≡ length tasks + 1 = ap (λ (ts : List Task). length ts) is_after ∙ length_push tasks task in
          let less : work b middle (take_up_each m items ++ duties_left b tasks) < work b old (come_to m ∷ duties_left b tasks) = met_work b old middle (duties_left b tasks) fresh m inserted is (named m (contains_head (come_to m) (duties_left b tasks))) in
          let same_work : work b middle (duties_left b after) ≡ work b middle (take_up_each m items ++ duties_left b tasks) = ap (λ (ds : List Duty). work b middle ds) left in
          record {
            walks = subst (λ (ds : List Duty). WalksOn b (come_to m ∷ duties_left b tasks) ds old middle) (sym left) (walks_met b (duties_left b tasks) old middle fresh m inserted same is);
            named = subst (AreNamed b) (sym left) (named_taken m items (duties_left b tasks) (named_tail (come_to m) (duties_left b tasks) named));
            fewer = omega (arith, less, same_work, count);
          }

    module _ (m : Meeting) (items : List (Dotted Bits)) (next place : ℕ) (old : Met) (passed : IsPassed m items (duties_left b tasks) old next place) where
      -- a step past the last item of a state
      pub step_end : length items ≤ place → AreNamed b (duties_left b tasks) → IsStep b old old (take_up_each m (drop next items) ++ duties_left b tasks) (length tasks + 1) tasks
      step_end past named =
          let none : drop place items ≡ [] = drop_all place items past in
          let P : List (Dotted Bits) → Type 0 = λ is. WalksOn b (take_up_each m (drop next items) ++ duties_left b tasks) (take_up_each m is ++ duties_left b tasks) old old in
          let Q : List (Dotted Bits) → Type 0 = λ is. work b old (take_up_each m is ++ duties_left b tasks) ≤ work b old (take_up_each m (drop next items) ++ duties_left b tasks) in
          let no_more = subst Q none passed.no_more in
          record { walks = subst P none passed.walks; named = named; fewer = omega (arith, no_more) }

      -- a step to one of the items; a task for those after it is pushed
      pub step_item : (new : Met) (task : Task) (pushed after : List Task) (item : Dotted Bits) → place < length items → item ≡ get_or items place item → pushed ≡ tasks ++ task ∷ [] → duties_of b task ≡ take_up_each m (drop (place + 1) items)
          → IsStep b old new (take_up m item ∷ duties_left b pushed) (length pushed) after → IsStep b old new (take_up_each m (drop next items) ++ duties_left b tasks) (length tasks + 1) after
      step_item new task pushed after item within is is_pushed duties step =
          let before = take_up_each m (drop next items) ++ duties_left b tasks in
          let at = take_up_each m (drop place items) ++ duties_left b tasks in
          let behind = drop (place + 1) items in
          let parted : drop place items ≡ item ∷ behind = drop_more items place item within ∙ ap (λ (i : Dotted Bits). i ∷ behind) (sym is) in
          let left : duties_left b pushed ≡ take_up_each m behind ++ duties_left b tasks = duties_pushed tasks pushed task (take_up_each m behind) is_pushed duties in
          let count : length pushed ≡ length tasks + 1 = ap (λ (ts : List Task). length ts) is_pushed ∙ length_push tasks task in
          let all : take_up m item ∷ duties_left b pushed ≡ at = ap (λ (ds : List Duty). take_up m item ∷ ds) left ∙ ap (λ (is : List (Dotted Bits)). take_up_each m is ++ duties_left b tasks) (sym parted) in
          let on = subst (λ (n : ℕ). IsStep b old new at n after) count (subst (λ (ds : List Duty). IsStep b old new ds (length pushed) after) all step) in
          let fewer = on.fewer in
          let no_more = passed.no_more in
          record { walks = walks_then b before at (duties_left b after) old old new passed.walks on.walks; named = on.named; fewer = omega (arith, fewer, no_more) }

    module _ (m : Meeting) (item : Dotted Bits) (named : AreNamed b (duties_left b tasks)) where
      module _ (old new : Met) (same : new.visited_set ≡ old.visited_set) (takes : Takes b m item) where
        -- a step over an item at which the trace stops
        pub step_stop : ¬ GoesOn b item → AddsInOrder old.trace_graph new.trace_graph (stop_edge m.1 item ∷ []) → IsStep b old new (take_up m item ∷ duties_left b tasks) (length tasks) tasks
        step_stop out added = record {
          walks = walks_stop b (duties_left b tasks) m item old new same takes.1 out added;
          named = named;
          fewer = omega (arith, item_work b old new (duties_left b tasks) m item same);
        }

        -- a step to the sources of an item from which the trace goes on
        pub step_on : GoesOn b item → AddsInOrder old.trace_graph new.trace_graph (onward_edges b.traced m.1 item) → (sources : List StateIndex) → AreSources b item.production item.index m.0 sources → (after : List Task)
            → duties_left b after ≡ come_to_each item.production sources ++ duties_left b tasks → length after ≡ length tasks + length sources → IsStep b old new (take_up m item ∷ duties_left b tasks) (length tasks) after
        step_on on added sources are after left count =
            let less = sources_work b old new (duties_left b tasks) m item same sources are (slice_get_within b.states m.0.0 takes.0.0 takes.0.1) in
            let same_work : work b new (duties_left b after) ≡ work b new (come_to_each item.production sources ++ duties_left b tasks) = ap (λ (ds : List Duty). work b new ds) left in
            record {
              walks = subst (λ (ds : List Duty). WalksOn b (take_up m item ∷ duties_left b tasks) ds old new) (sym left) (walks_on b (duties_left b tasks) m item old new same takes.1 sources on added are);
              named = subst (AreNamed b) (sym left) (named_sources item.production sources (duties_left b tasks) (named_item b m.0 item takes.0) named);
              fewer = omega (arith, less, same_work, count);
            }
