-- The edges that a walk gives from the sources of the traced item on are exactly those of the
-- backtrace.
use Rattle.std.proofs.Common.{◌≡◌, ◌≢◌, ◌⊎◌, inl, inr, ℕ, List, [], ◌∷◌, ◌++◌, refl, sym, ap, subst}
use Rattle.std.specs.Prelude.{slice_get, Option, None, Some, Contains}
use Rattle.std.proofs.lemmas.List.Elements.{Contains-append_left, Contains-append_right, Contains-append_cases, Contains-push, Contains-push_cases}
use Rattle.lalrpop_base.specs.Words.{AllDiffer, Bits, Dotted}
use Rattle.lalrpop_traces.proofs.Types.{NonterminalString, Production, State, StateIndex}
use Rattle.lalrpop_grammar.specs.declared.repr.Symbol.TheVariants.{Nonterminal}
use Rattle.lalrpop_collections.proofs.theory.lists.Members.{Contains-none, contains_head, contains_tail, contains-cons, of_flat}
use Rattle.lalrpop_traces.specs.Words.{Graph, PlainEdge, plain, plain_edges, IsEndpoint, AddsInTurn, all_added, left_out, put_behind, ends_of, stop_edge, onward_edges, Duty, come_to}
use Rattle.lalrpop_traces.specs.Words.{take_up, come_to_each, take_up_each, items_at, AreSources, Walks, ends, known, meets, passes, IsInOrder, Backtrace, Meeting}
use Rattle.lalrpop_traces.specs.Words.{own_edge, StandsIn, Takes, GoesOn, IsSource, IsMet, begins, GivesEdge, onward, itself, IsTraced, first, given, IsTraceOf}
use Rattle.lalrpop_traces.specs.traces.Traces.{goes_on as met_on, stops as gives_stop}
use Rattle.lalrpop_traces.specs.traces.TraceOrder.{stops, goes_on}
use Rattle.lalrpop_traces.specs.declared.trace.context.Traced.{Traced}
use Rattle.lalrpop_traces.specs.declared.trace.context.Traced.TheVariants.{Shift, Reduce}
use Rattle.lalrpop_traces.specs.declared.trace.node.TraceGraphNode.{TraceGraphNode}
use Rattle.lalrpop_collections.proofs.theory.lists.Places.{differ_push}
use Rattle.lalrpop_traces.proofs.theory.traces.TraceGraphs.{plain_there}
use Rattle.lalrpop_collections.proofs.theory.lists.Lists.{contains_of_map, contains_map}
use Rattle.lalrpop_collections.proofs.theory.lists.Bounded.{in_flat_map}

-- ---- values added in turn
-- the old values stay
turn_keeps : {X : Type 0} {old xs new : List X} → AddsInTurn old xs new → (x : X) → Contains old x → Contains new x
turn_keeps all_added x c = c
turn_keeps (left_out k rest) x c = turn_keeps rest x c
turn_keeps (put_behind {old = old} {x = y} out rest) x c = turn_keeps rest x (Contains-append_left old (y ∷ []) x c)

-- each of the added values is there
turn_adds : {X : Type 0} {old xs new : List X} → AddsInTurn old xs new → (x : X) → Contains xs x → Contains new x
turn_adds all_added x c = absurd (Contains-none x c)
turn_adds (left_out {old = old} {xs = xs} {x = y} k rest) x c = elim (contains-cons y xs x c) [
  | inl e ↦ turn_keeps rest x (subst (Contains old) e k)
  | inr d ↦ turn_adds rest x d
]
turn_adds (put_behind {old = old} {xs = xs} {x = y} out rest) x c = elim (contains-cons y xs x c) [
  | inl e ↦ turn_keeps rest x (subst (Contains (old ++ y ∷ [])) e (Contains-push old y))
  | inr d ↦ turn_adds rest x d
]

-- no other value is there
turn_only : {X : Type 0} {old xs new : List X} → AddsInTurn old xs new → (x : X) → Contains new x → Contains old x ⊎ Contains xs x
turn_only all_added x c = inl c
turn_only (left_out {xs = xs} {x = y} k rest) x c = elim (turn_only rest x c) [ inl d ↦ inl d | inr d ↦ inr (contains_tail y xs x d) ]
turn_only (put_behind {old = old} {xs = xs} {x = y} out rest) x c = elim (turn_only rest x c) [
  | inl d ↦ elim (Contains-push_cases old y x d) [ inl k ↦ inl k | inr e ↦ inr (subst (Contains (y ∷ xs)) e (contains_head y xs)) ]
  | inr d ↦ inr (contains_tail y xs x d)
]

-- no value is there twice
turn_differs : {X : Type 0} {old xs new : List X} → AddsInTurn old xs new → AllDiffer old → AllDiffer new
turn_differs all_added differ = differ
turn_differs (left_out k rest) differ = turn_differs rest differ
turn_differs (put_behind {old = old} {x = y} out rest) differ = turn_differs rest (differ_push old y differ out)

-- ---- ends
abbrev both_ends : PlainEdge → List TraceGraphNode
both_ends e = e.from ∷ e.to ∷ []

end_there : (e : PlainEdge) (n : TraceGraphNode) → (e.from ≡ n) ⊎ (e.to ≡ n) → Contains (both_ends e) n
end_there e n (inl f) = subst (Contains (both_ends e)) f (contains_head e.from (e.to ∷ []))
end_there e n (inr t) = subst (Contains (both_ends e)) t (contains_tail e.from (e.to ∷ []) e.to (contains_head e.to []))

end_of : (e : PlainEdge) (n : TraceGraphNode) → Contains (both_ends e) n → (e.from ≡ n) ⊎ (e.to ≡ n)
end_of e n c = elim (contains-cons e.from (e.to ∷ []) n c) [
  | inl f ↦ inl f
  | inr k ↦ elim (contains-cons e.to [] n k) [ inl t ↦ inr t | inr none ↦ absurd (Contains-none n none) ]
]

in_ends : (es : List PlainEdge) (n : TraceGraphNode) → IsEndpoint es n → Contains (ends_of es) n
in_ends es n end = in_flat_map both_ends es end.0 n end.1 (end_there end.0 n end.2)

from_ends : (es : List PlainEdge) (n : TraceGraphNode) → Contains (ends_of es) n → IsEndpoint es n
from_ends es n c = let from = of_flat both_ends es n c in (from.0, from.1, end_of from.0 n from.2)

-- ---- items of a state
item_stands : (states : List (State Bits)) (state : StateIndex) (o : Option (State Bits)) → slice_get states state.0 ≡ o → (item : Dotted Bits) → Contains (items_at o) item → StandsIn states state item
item_stands states state None at item c = absurd (Contains-none item c)
item_stands states state (Some s) at item c = (s, at, c)

stands_there : (states : List (State Bits)) (state : StateIndex) (item : Dotted Bits) → StandsIn states state item → Contains (items_at (slice_get states state.0)) item
stands_there states state item stands = subst (λ (o : Option (State Bits)). Contains (items_at o) item) (sym stands.1) stands.2

module _ (b : Backtrace) where
  -- ---- the edges of an item from which the trace goes on
  onward_given : (traced : Traced) (name : NonterminalString) (item : Dotted Bits) → b.traced ≡ traced → GoesOn b item → (e : PlainEdge) → Contains (onward_edges traced name item) e → GivesEdge b name item e
  onward_given Shift name item is on e c = elim (contains-cons _ [] e c) [ inl h ↦ onward on (sym h) | inr none ↦ absurd (Contains-none e none) ]
  onward_given Reduce name item is on e c = elim (contains-cons _ (own_edge item.production item.index ∷ []) e c) [
    | inl h ↦ onward on (sym h)
    | inr k ↦ elim (contains-cons (own_edge item.production item.index) [] e k) [ inl h ↦ itself on is (sym h) | inr none ↦ absurd (Contains-none e none) ]
  ]

  onward_there : (traced : Traced) (name : NonterminalString) (item : Dotted Bits) → b.traced ≡ traced → GoesOn b item → (e : PlainEdge) → GivesEdge b name item e → Contains (onward_edges traced name item) e
  onward_there Shift name item is on e (onward o h) = subst (Contains (onward_edges Shift name item)) (sym h) (contains_head _ [])
  onward_there Reduce name item is on e (onward o h) = subst (Contains (onward_edges Reduce name item)) (sym h) (contains_head _ (own_edge item.production item.index ∷ []))
  onward_there Shift name item is on e (itself o reduces h) = cc
  onward_there Reduce name item is on e (itself o reduces h) = subst (Contains (onward_edges Reduce name item)) (sym h) (contains_tail _ (own_edge item.production item.index ∷ []) (own_edge item.production item.index) (contains_head (own_edge item.production item.index) []))
  onward_there traced name item is on e (gives_stop out h) = absurd (out on)

  -- ---- a walk gives no edges but those of the backtrace
  -- a duty of the backtrace: a nonterminal to come to is met, and an item to take is in a state,
  -- for a nonterminal that was met there
  abbrev IsOwed : Duty → Type 0
  IsOwed (come_to m) = IsMet b m
  IsOwed (take_up m item) = IsMet b m × StandsIn b.states m.0 item

  abbrev AreOwed : List Duty → Type 0
  AreOwed duties = (d : Duty) → Contains duties d → IsOwed d

  -- the duties come to each source, and to nothing else
  source_there : (p : Production) (index : ℕ) (state : StateIndex) (sources : List StateIndex) → AreSources b p index state sources → (m : Meeting) → IsSource b p index state m → Contains (come_to_each p sources) (come_to m)
  source_there p index state sources are m source =
      let P : Meeting → Type 0 = λ q. Contains (come_to_each p sources) (come_to q) in
      let name : (m.0, p.nonterminal) ≡ m = ap (λ (a : NonterminalString). let q : Meeting = (m.0, a) in q) (sym source.0) in
      subst P name (contains_map (λ (n : StateIndex). come_to (n, p.nonterminal)) sources m.0 ((are.exactly m.0).1 source.1))

  owed_sources : (p : Production) (index : ℕ) (state : StateIndex) (sources : List StateIndex) → AreSources b p index state sources → ((m : Meeting) → IsSource b p index state m → IsMet b m) → AreOwed (come_to_each p sources)
  owed_sources p index state sources are met d c =
      let from = contains_of_map (λ (n : StateIndex). come_to (n, p.nonterminal)) sources d c in
      subst IsOwed from.2 (met (from.0, p.nonterminal) (refl, (are.exactly from.0).0 from.1))

  owed_both : (one two : List Duty) → AreOwed one → AreOwed two → AreOwed (one ++ two)
  owed_both one two p q d c = elim (Contains-append_cases one two d c) [ inl k ↦ p d k | inr k ↦ q d k ]

  owed_items : (m : Meeting) → IsMet b m → AreOwed (take_up_each m (items_at (slice_get b.states m.0.0)))
  owed_items m met d c =
      let items = items_at (slice_get b.states m.0.0) in
      let from = contains_of_map (take_up m) items d c in
      subst IsOwed from.2 (met, item_stands b.states m.0 (slice_get b.states m.0.0) refl from.0 from.1)

  gives_traced : {met : List Meeting} {duties : List Duty} {es : List PlainEdge} → Walks b met duties es → AreOwed duties → (e : PlainEdge) → Contains es e → IsTraced b e
  gives_traced ends owed e c = absurd (Contains-none e c)
  gives_traced (known {m = m} {duties = duties} k w) owed e c = gives_traced w (λ d i. owed d (contains_tail (come_to m) duties d i)) e c
  gives_traced (meets {m = m} {duties = duties} out w) owed e c =
      let met : IsMet b m = owed (come_to m) (contains_head (come_to m) duties) in
      gives_traced w (owed_both (take_up_each m (items_at (slice_get b.states m.0.0))) duties (owed_items m met) (λ d i. owed d (contains_tail (come_to m) duties d i))) e c
  gives_traced (passes {m = m} {item = item} {duties = duties} other w) owed e c = gives_traced w (λ d i. owed d (contains_tail (take_up m item) duties d i)) e c
  gives_traced (stops {m = m} {item = item} {duties = duties} {es = es} at out w) owed e c =
      let own = owed (take_up m item) (contains_head (take_up m item) duties) in
      elim (contains-cons _ es e c) [
        | inl h ↦ given m item own.0 (own.1, at) (gives_stop out (sym h))
        | inr k ↦ gives_traced w (λ d i. owed d (contains_tail (take_up m item) duties d i)) e k
      ]
  gives_traced (goes_on {m = m} {item = item} {duties = duties} sources later at on are w is) owed e c =
      let own = owed (take_up m item) (contains_head (take_up m item) duties) in
      let takes : Takes b m item = (own.1, at) in
      elim (Contains-append_cases (onward_edges b.traced m.1 item) later e (subst (λ (es : List PlainEdge). Contains es e) is c)) [
        | inl k ↦ given m item own.0 takes (onward_given b.traced m.1 item refl on e k)
        | inr k ↦ gives_traced w (owed_both (come_to_each item.production sources) duties (owed_sources item.production item.index m.0 sources are (λ n source. met_on {m = m} {item = item} own.0 takes on source)) (λ d i. owed d (contains_tail (take_up m item) duties d i))) e k
      ]

  -- ---- a walk gives each edge of the backtrace
  -- the edges that the item gives for the nonterminal are there, and the nonterminals to which it
  -- leads were met
  record IsDone (met : List Meeting) (es : List PlainEdge) (m : Meeting) (item : Dotted Bits) : Type 0 where
    gives : (e : PlainEdge) → GivesEdge b m.1 item e → Contains es e
    leads : (n : Meeting) → GoesOn b item → IsSource b item.production item.index m.0 n → Contains met n

  -- this holds of each item that takes the nonterminal
  abbrev IsFinished : List Meeting → List PlainEdge → Meeting → Type 0
  IsFinished met es m = (item : Dotted Bits) → Takes b m item → IsDone met es m item

  done_on : (met : List Meeting) (xs ys : List PlainEdge) (m : Meeting) (item : Dotted Bits) → IsDone met ys m item → IsDone met (xs ++ ys) m item
  done_on met xs ys m item done = record { gives = λ e g. Contains-append_right xs ys e (done.gives e g); leads = done.leads }

  -- what a walk has met at its end: what it had met, what its duties come to, and what these lead
  -- to. The items that it takes are done. So are all items of what it has met besides
  record Completes (met : List Meeting) (duties : List Duty) (es : List PlainEdge) : Type 0 where
    after : List Meeting
    kept : (m : Meeting) → Contains met m → Contains after m
    comes : (m : Meeting) → Contains duties (come_to m) → Contains after m
    takes : (m : Meeting) (item : Dotted Bits) → Contains duties (take_up m item) → Takes b m item → IsDone after es m item
    finished : (m : Meeting) → Contains after m → Contains met m ⊎ IsFinished after es m

  completes_none : (met : List Meeting) → Completes met [] []
  completes_none met = record {
    after = met;
    kept = λ m c. c;
    comes = λ m c. absurd (Contains-none (come_to m) c);
    takes = λ m item c. absurd (Contains-none (take_up m item) c);
    finished = λ m c. inl c;
  }

  module _ (met : List Meeting) (duties : List Duty) (n : Meeting) where
    -- a duty comes to a nonterminal that was met
    completes_known : (es : List PlainEdge) → Contains met n → Completes met duties es → Completes met (come_to n ∷ duties) es
    completes_known es k later = record {
      after = later.after;
      kept = later.kept;
      comes = λ m c. elim (contains-cons (come_to n) duties (come_to m) c) [
        | inl h ↦ (let same : n ≡ m = cc in later.kept m (subst (Contains met) same k))
        | inr d ↦ later.comes m d
      ];
      takes = λ m item c. elim (contains-cons (come_to n) duties (take_up m item) c) [ inl h ↦ cc | inr d ↦ later.takes m item d ];
      finished = later.finished;
    }

    -- a duty comes to a nonterminal that was not met
    completes_met : (es : List PlainEdge) → Completes (n ∷ met) (take_up_each n (items_at (slice_get b.states n.0.0)) ++ duties) es → Completes met (come_to n ∷ duties) es
    completes_met es later =
        let items = items_at (slice_get b.states n.0.0) in
        record {
          after = later.after;
          kept = λ m c. later.kept m (contains_tail n met m c);
          comes = λ m c. elim (contains-cons (come_to n) duties (come_to m) c) [
            | inl h ↦ (let same : n ≡ m = cc in later.kept m (subst (Contains (n ∷ met)) same (contains_head n met)))
            | inr d ↦ later.comes m (Contains-append_right (take_up_each n items) duties (come_to m) d)
          ];
          takes = λ m item c. elim (contains-cons (come_to n) duties (take_up m item) c) [
            | inl h ↦ cc
            | inr d ↦ later.takes m item (Contains-append_right (take_up_each n items) duties (take_up m item) d)
          ];
          finished = λ m c. elim (later.finished m c) [
            | inl d ↦ elim (contains-cons n met m d) [
              | inl same ↦ inr (subst (IsFinished later.after es) same (λ item takes. later.takes n item (Contains-append_left (take_up_each n items) duties (take_up n item) (contains_map (take_up n) items item (stands_there b.states n.0 item takes.0))) takes))
              | inr before ↦ inl before
            ]
            | inr fin ↦ inr fin
          ];
        }

    module _ (kind : Dotted Bits) where
      -- an item is taken that has another symbol after its dot, or none
      completes_past : (es : List PlainEdge) → slice_get kind.production.symbols kind.index ≢ Some (Nonterminal n.1) → Completes met duties es → Completes met (take_up n kind ∷ duties) es
      completes_past es other later = record {
        after = later.after;
        kept = later.kept;
        comes = λ m c. elim (contains-cons (take_up n kind) duties (come_to m) c) [ inl h ↦ cc | inr d ↦ later.comes m d ];
        takes = λ m item c takes. elim (contains-cons (take_up n kind) duties (take_up m item) c) [
          | inl h ↦
              let here : n ≡ m = cc in
              let same : kind ≡ item = cc in
              let P : Meeting → Type 0 = λ k. slice_get kind.production.symbols kind.index ≡ Some (Nonterminal k.1) in
              let Q : Dotted Bits → Type 0 = λ i. slice_get i.production.symbols i.index ≡ Some (Nonterminal m.1) in
              absurd (other (subst P (sym here) (subst Q (sym same) takes.1)))
          | inr d ↦ later.takes m item d takes
        ];
        finished = later.finished;
      }

      -- an item is taken that is done after the later duties
      completes_item : (later_duties : List Duty) (others es : List PlainEdge) (later : Completes met later_duties others) → ((m : Meeting) (item : Dotted Bits) → IsDone later.after others m item → IsDone later.after es m item) → ((d : Duty) → Contains duties d → Contains later_duties d) → IsDone later.after es n kind → Completes met (take_up n kind ∷ duties) es
      completes_item later_duties others es later on among done = record {
        after = later.after;
        kept = later.kept;
        comes = λ m c. elim (contains-cons (take_up n kind) duties (come_to m) c) [ inl h ↦ cc | inr d ↦ later.comes m (among (come_to m) d) ];
        takes = λ m item c takes. elim (contains-cons (take_up n kind) duties (take_up m item) c) [
          | inl h ↦
              let here : n ≡ m = cc in
              let same : kind ≡ item = cc in
              let P : Meeting → Type 0 = λ k. IsDone later.after es k item in
              let Q : Dotted Bits → Type 0 = λ i. IsDone later.after es n i in
              subst P here (subst Q same done)
          | inr d ↦ on m item (later.takes m item (among (take_up m item) d) takes)
        ];
        finished = λ m c. elim (later.finished m c) [ inl before ↦ inl before | inr fin ↦ inr (λ item takes. on m item (fin item takes)) ];
      }

      -- the trace stops at the item
      completes_stop : (es : List PlainEdge) → ¬ GoesOn b kind → Completes met duties es → Completes met (take_up n kind ∷ duties) (stop_edge n.1 kind ∷ es)
      completes_stop es out later =
          let edge = stop_edge n.1 kind in
          completes_item duties es (edge ∷ es) later (λ m item done. done_on later.after (edge ∷ []) es m item done) (λ d c. c) (record { gives = λ e g. subst (Contains (edge ∷ es)) (stop_is e g) (contains_head edge es); leads = λ k goes. absurd (out goes) })
        where
          stop_is : (e : PlainEdge) → GivesEdge b n.1 kind e → stop_edge n.1 kind ≡ e
          stop_is e (onward on h) = absurd (out on)
          stop_is e (itself on reduces h) = absurd (out on)
          stop_is e (gives_stop o h) = sym h

      -- the trace goes on from the item
      completes_on : (sources : List StateIndex) (others es : List PlainEdge) → GoesOn b kind → AreSources b kind.production kind.index n.0 sources → es ≡ onward_edges b.traced n.1 kind ++ others → Completes met (come_to_each kind.production sources ++ duties) others → Completes met (take_up n kind ∷ duties) es
      completes_on sources others es goes are is later =
          let own = onward_edges b.traced n.1 kind in
          let P : List PlainEdge → Type 0 = λ l. (m : Meeting) (item : Dotted Bits) → IsDone later.after others m item → IsDone later.after l m item in
          let Q : List PlainEdge → Type 0 = λ l. IsDone later.after l n kind in
          completes_item (come_to_each kind.production sources ++ duties) others es later (subst P (sym is) (λ m item done. done_on later.after own others m item done)) (λ d c. Contains-append_right (come_to_each kind.production sources) duties d c)
          (subst Q (sym is) (record {
            gives = λ e g. Contains-append_left own others e (onward_there b.traced n.1 kind refl goes e g);
            leads = λ k g source. later.comes k (Contains-append_left (come_to_each kind.production sources) duties (come_to k) (source_there kind.production kind.index n.0 sources are k source));
          }))

  completes : {met : List Meeting} {duties : List Duty} {es : List PlainEdge} → Walks b met duties es → Completes met duties es
  completes (ends {met = met}) = completes_none met
  completes (known {met = met} {m = n} {duties = duties} {es = es} k w) = completes_known met duties n es k (completes w)
  completes (meets {met = met} {m = n} {duties = duties} {es = es} out w) = completes_met met duties n es (completes w)
  completes (passes {met = met} {m = n} {item = item} {duties = duties} {es = es} other w) = completes_past met duties n item es other (completes w)
  completes (stops {met = met} {m = n} {item = item} {duties = duties} {es = es} at out w) = completes_stop met duties n item es out (completes w)
  completes (goes_on {met = met} {m = n} {item = item} {duties = duties} {es = es} sources others at on are w is) = completes_on met duties n item sources others es on are is (completes w)

  -- ---- the whole
  module _ (graph : Graph) (order : IsInOrder b graph) where
    all : List PlainEdge
    all = own_edge b.item.production b.item.index ∷ order.given

    exactly_all : (e : PlainEdge) → Contains (plain_edges graph) e → Contains all e
    unfolding all
    exactly_all e c = elim (turn_only order.edges e c) [ inl none ↦ absurd (Contains-none e none) | inr d ↦ d ]

    walked : Completes [] (come_to_each b.item.production order.sources) order.given
    walked = completes order.walk

    finished_all : (m : Meeting) → Contains walked.after m → IsFinished walked.after order.given m
    finished_all m c = elim (walked.finished m c) [ inl none ↦ absurd (Contains-none m none) | inr fin ↦ fin ]

    all_met : (m : Meeting) → IsMet b m → Contains walked.after m
    all_met m (begins source) = walked.comes m (source_there b.item.production b.item.index b.state order.sources order.begins m source)
    all_met m (met_on {m = n} {item = item} met takes on source) = (finished_all n (all_met n met) item takes).leads m on source

    traced_there : (e : PlainEdge) → IsTraced b e → Contains all e
    unfolding all
    traced_there e (first is) = subst (Contains all) (sym is) (contains_head (own_edge b.item.production b.item.index) order.given)
    traced_there e (given m item met takes gives) = contains_tail (own_edge b.item.production b.item.index) order.given e ((finished_all m (all_met m met) item takes).gives e gives)

    there_traced : (e : PlainEdge) → Contains all e → IsTraced b e
    unfolding all
    there_traced e c = elim (contains-cons (own_edge b.item.production b.item.index) order.given e c) [ inl h ↦ first (sym h) | inr d ↦ gives_traced order.walk (owed_sources b.item.production b.item.index b.state order.sources order.begins (λ m source. begins source)) e d ]

    end_node : (n : TraceGraphNode) → IsEndpoint all n → Contains graph.nodes n
    unfolding all
    end_node n end = turn_adds order.nodes n (in_ends all n end)

    no_two : {X : Type 0} → AllDiffer {X = X} []
    no_two i j x l at = cc

    -- edges in order are exactly those of the backtrace, and their ends are the nodes
    pub is_trace : IsTraceOf b graph
    unfolding all
    is_trace = record {
      exactly = λ e. (λ c. there_traced e (exactly_all e c), λ t. turn_adds order.edges e (traced_there e t));
      nodes = λ n. (
        λ c. elim (turn_only order.nodes n c) [
          | inl none ↦ absurd (Contains-none n none)
          | inr d ↦ (let end = from_ends all n d in (end.0, turn_adds order.edges end.0 end.1, end.2))
        ],
        λ end. end_node n (end.0, exactly_all end.0 end.1, end.2),
      );
      is_graph = record {
        nodes = turn_differs order.nodes no_two;
        edges = turn_differs order.edges no_two;
        ends = λ k e at.
            let there : Contains all (plain e) = exactly_all (plain e) (plain_there graph.edges k e at) in
            (end_node e.from (plain e, there, inl refl), end_node e.to (plain e, there, inr refl));
      };
    }
