-- Actions are traced one by one, each into its column.
use Rattle.std.proofs.Common.{◌≡◌, ◌↔◌, ◌⊎◌, inl, inr, ℕ, suc, ◌+◌, ◌<◌, List, [], ◌∷◌, ◌++◌, length, refl, sym, ◌∙◌, ap, subst, arith, length-append, append_assoc, append-nil}
use Rattle.std.specs.Prelude.{slice_get}
use Rattle.lalrpop_base.specs.Words.{Bits, Contents, IsBitOf, Rules, rules_of}
use Rattle.lalrpop_grammar.specs.declared.lookahead.token.Token.TheVariants.{Terminal as TokenOf}
use Rattle.lalrpop_lane_states.proofs.Types.{Action, Grammar, NonterminalString, State, StateIndex}
use Rattle.lalrpop_states.specs.declared.lr1_core.state.Action.TheVariants.{Shift, Reduce}
use Rattle.lalrpop_lane_states.specs.Words.{HasActionBit, AreTraced}
use Rattle.lalrpop_lanes.specs.Words.{HasRow, InColumn, IsClosed, IsEmptyTable, IsReadyToTrace, TakesAction}
use Rattle.lalrpop_construction.specs.Words.{places_in}
use Rattle.lalrpop_lane_states.specs.declared.lane_table.construct.LaneTableConstruct.{LaneTableConstruct}
use Rattle.lalrpop_lanes.specs.declared.lane_table.lane.LaneTracer.{LaneTracer}
use Rattle.lalrpop_lanes.specs.declared.lane_table.table.LaneTable.{LaneTable}
use Rattle.lalrpop_lane_states.proofs.theory.lane_tables.LaneClosed.{more_closed, none_closed, own_row}
use Rattle.lalrpop_collections.proofs.theory.lists.Places.{push_cases, slice_get-push_at, slice_get-longer}

-- the invariant of the loop: the actions done are traced, and the table is closed
pub record IsTracing (construct : LaneTableConstruct) (states : List (State Bits)) (s : StateIndex) (actions : List Action) (place : ℕ) (tracer : LaneTracer Bits) (left : List Action) : Type 0 where
  pub ready : IsReadyToTrace tracer
  pub grammar : tracer.grammar.now ≡ construct.grammar.now
  pub start : tracer.start ≡ construct.start
  pub over : tracer.states.now ≡ states
  pub columns : tracer.table.conflicts ≡ length actions
  pub done : List Action
  pub counted : length done ≡ place
  pub split : done ++ left ≡ actions
  pub traced : AreTraced (rules_of construct.grammar.now) construct.start (places_in states) s.0 done tracer.table
  pub closed : IsClosed (length states) tracer.table
  pub row : 0 < place → HasRow tracer.table s

module _ (g : Rules) (start : NonterminalString) (places : ℕ → Contents) (s : StateIndex) where
  -- the column of the action gets its bits
  column_gets : (k : ℕ) (action : Action) (old new : LaneTable) → TakesAction g start places s k action old new → (j bit : ℕ) → InColumn new j bit ↔ (InColumn old j bit ⊎ ((j ≡ k) × HasActionBit g start places s.0 action bit))
  column_gets k (Shift t target) old new takes j bit = (
    λ h. elim ((takes.2.tokens h.0 j bit).0 h.1) [
      | inl o ↦ inl (h.0, o)
      | inr n ↦ inr (n.1, record { token = TokenOf t; number = (takes.1 bit).0 n.2; of = refl })
    ],
    λ h. elim h [
      | inl o ↦ (o.0, (takes.2.tokens o.0 j bit).1 (inl o.1))
      | inr n ↦
          let b = n.1 in
          (s, (takes.2.tokens s j bit).1 (inr (refl, n.0, (takes.1 bit).1 (subst (λ token. IsBitOf g.terminals token bit) b.of b.number))))
    ],
  )
  column_gets k (Reduce p) old new takes j bit = (
    λ h. elim ((takes.tokens h.0 j bit).0 h.1) [
      | inl o ↦ inl (h.0, o)
      | inr n ↦ let b = n.1 in inr (n.0, record { token = b.token; number = b.number; of = (h.0.0, b.lane) })
    ],
    λ h. elim h [
      | inl o ↦ (o.0, (takes.tokens o.0 j bit).1 (inl o.1))
      | inr n ↦
          let b = n.1 in
          let row : StateIndex = record { 0 = (b.of).0 } in
          (row, (takes.tokens row j bit).1 (inr (n.0, record { token = b.token; number = b.number; lane = (b.of).1 })))
    ],
  )

  -- a table without rows has traced nothing
  pub none_traced : (table : LaneTable) → IsEmptyTable table → AreTraced g start places s.0 [] table
  none_traced table empty k bit = (
    λ h. absurd (empty.cells h.0 k (h.1.0, h.1.1)),
    λ b. cc,
  )

  -- one action more
  pub more_traced : (done : List Action) (action : Action) (k : ℕ) (old new : LaneTable) → k ≡ length done → AreTraced g start places s.0 done old → TakesAction g start places s k action old new → AreTraced g start places s.0 (done ++ action ∷ []) new
  more_traced done action k old new last traced takes j bit = (
    λ h. elim ((column_gets k action old new takes j bit).0 h) [
      | inl o ↦ let b = (traced j bit).0 o in record { action = b.action; there = slice_get-longer done (action ∷ []) j b.action b.there; of = b.of }
      | inr n ↦ record { action = action; there = ap (slice_get (done ++ action ∷ [])) (n.0 ∙ last) ∙ slice_get-push_at done action; of = n.1 }
    ],
    λ b. (column_gets k action old new takes j bit).1 (elim (push_cases done action j b.action b.there) [
      | inl before ↦ inl ((traced j bit).1 (record { action = b.action; there = before; of = b.of }))
      | inr here ↦ inr (here.0 ∙ sym last, subst (λ a. HasActionBit g start places s.0 a bit) (sym here.1) b.of)
    ]),
  )

-- ---- the loop
-- the tracer's fields that stay
abbrev pub IsOver : LaneTracer Bits → LaneTracer Bits → Type 0
IsOver old new = (new.grammar.now ≡ old.grammar.now) × (new.start ≡ old.start) × (new.states.now ≡ old.states.now) × (new.table.conflicts ≡ old.table.conflicts)

-- a trace of a tracer is that of one with equal parts
takes_over : (g h : Grammar) (start first : NonterminalString) (xs states : List (State Bits)) (s : StateIndex) (k : ℕ) (action : Action) (old new : LaneTable) → h ≡ g → first ≡ start → states ≡ xs → TakesAction (rules_of h) first (places_in states) s k action old new → TakesAction (rules_of g) start (places_in xs) s k action old new
takes_over g h start first xs states s k action old new same_g same_start same_states t =
    subst (λ z. TakesAction (rules_of z) start (places_in xs) s k action old new) same_g
    (subst (λ z. TakesAction (rules_of h) z (places_in xs) s k action old new) same_start
    (subst (λ z. TakesAction (rules_of h) first (places_in z) s k action old new) same_states t))

module _ (construct : LaneTableConstruct) (states : List (State Bits)) (s : StateIndex) (actions : List Action) where
  pub tracing_start : (tracer : LaneTracer Bits) (left : List Action) (start : NonterminalString) → IsReadyToTrace tracer → (tracer.grammar.now ≡ construct.grammar.now) × (tracer.start ≡ start) × (tracer.states.now ≡ states) → start ≡ construct.start → IsEmptyTable tracer.table → tracer.table.conflicts ≡ length actions → left ≡ actions → IsTracing construct states s actions 0 tracer left
  tracing_start tracer left start ready over same empty columns all = record {
    ready = ready;
    grammar = over.0;
    start = over.1 ∙ same;
    over = over.2;
    columns = columns;
    done = [];
    counted = refl;
    split = all;
    traced = none_traced (rules_of construct.grammar.now) construct.start (places_in states) s tracer.table empty;
    closed = none_closed (length states) tracer.table empty;
    row = λ more. absurd (omega (arith, more));
  }

  pub tracing_within : (place : ℕ) (tracer : LaneTracer Bits) (left rest : List Action) (action : Action) → IsTracing construct states s actions place tracer left → left ≡ action ∷ rest → place < tracer.table.conflicts
  tracing_within place tracer left rest action h more =
      let all : length h.done + length left ≡ length actions = sym (length-append h.done left) ∙ ap length h.split in
      let one : length left ≡ suc (length rest) = ap length more in
      let c = h.counted in
      let d = h.columns in
      omega arith

  pub tracing_more : (place k : ℕ) (tracer next : LaneTracer Bits) (left rest : List Action) (action given : Action) → s.0 < length states → IsTracing construct states s actions place tracer left → left ≡ action ∷ rest → given ≡ action → k ≡ place → IsReadyToTrace next → IsOver tracer next → TakesAction (rules_of tracer.grammar.now) tracer.start (places_in tracer.states.now) s k given tracer.table next.table → IsTracing construct states s actions (place + 1) next rest
  tracing_more place k tracer next left rest action given listed h more same at ready over takes =
      let takes_here : TakesAction (rules_of construct.grammar.now) construct.start (places_in states) s place action tracer.table next.table = subst (λ a. TakesAction (rules_of construct.grammar.now) construct.start (places_in states) s place a tracer.table next.table) same
      (takes_over construct.grammar.now tracer.grammar.now construct.start tracer.start states tracer.states.now s place given tracer.table next.table h.grammar h.start h.over (subst (λ j. TakesAction (rules_of tracer.grammar.now) tracer.start (places_in tracer.states.now) s j given tracer.table next.table) at takes)) in
      record {
        ready = ready;
        grammar = over.0 ∙ h.grammar;
        start = over.1 ∙ h.start;
        over = over.2 ∙ h.over;
        columns = over.3 ∙ h.columns;
        done = h.done ++ action ∷ [];
        counted = length-append h.done (action ∷ []) ∙ ap (λ (n : ℕ). n + 1) h.counted;
        split = append_assoc h.done (action ∷ []) rest ∙ ap (λ (xs : List Action). h.done ++ xs) (sym more) ∙ h.split;
        traced = more_traced (rules_of construct.grammar.now) construct.start (places_in states) s h.done action place tracer.table next.table (sym h.counted) h.traced takes_here;
        closed = more_closed (rules_of construct.grammar.now) construct.start states s place action tracer.table next.table listed takes_here h.closed;
        row = λ _. own_row (rules_of construct.grammar.now) construct.start states s place action tracer.table next.table takes_here;
      }

  tracing_done : (place : ℕ) (tracer : LaneTracer Bits) (left : List Action) → left ≡ [] → (h : IsTracing construct states s actions place tracer left) → h.done ≡ actions
  tracing_done place tracer left none h = sym (append-nil h.done) ∙ ap (λ (xs : List Action). h.done ++ xs) (sym none) ∙ h.split

  pub tracing_end : (place : ℕ) (tracer : LaneTracer Bits) (left : List Action) → IsTracing construct states s actions place tracer left → left ≡ [] → AreTraced (rules_of construct.grammar.now) construct.start (places_in states) s.0 actions tracer.table
  tracing_end place tracer left h none = subst (λ (xs : List Action). AreTraced (rules_of construct.grammar.now) construct.start (places_in states) s.0 xs tracer.table) (tracing_done place tracer left none h) h.traced

  pub tracing_row : (place : ℕ) (tracer : LaneTracer Bits) (left : List Action) → IsTracing construct states s actions place tracer left → left ≡ [] → 0 < length actions → HasRow tracer.table s
  tracing_row place tracer left h none some =
      let all : length h.done ≡ length actions = ap length (tracing_done place tracer left none h) in
      let counted = h.counted in
      h.row (omega arith)
