-- The loop that traces a place back: it visits each place to which the lane leads once, and adds
-- the contribution of this place.
use Rattle.std.proofs.Common.{◌≡◌, ℕ, ◌+◌, ◌-◌, ◌<◌, ◌≤◌, inl, inr, ◌↔◌, List, [], ◌∷◌, ◌++◌, length, map, refl, sym, ◌∙◌, subst, arith}
use Rattle.std.specs.Prelude.{Contains}
use Rattle.std.specs.List.{flat_map, range_with_len}
use Rattle.std.proofs.lemmas.Option.{slice_get_within}
use Rattle.lalrpop_base.specs.Words.{LeadsBack, IsTracedTo, itself, back, Contents, Rules, productions, rules_of, at_place, Visits}
use Rattle.lalrpop_lanes.proofs.Types.{Production}
use Rattle.lalrpop_grammar.specs.declared.repr.Symbol.TheVariants.{Nonterminal}
use Rattle.lalrpop_lanes.specs.Words.{IsAutomaton, Gains, Some_of, GivesCell, GivesBit, GivesSuccessor, GainsOf, VisitsOf, TracesTo, GainsAll}
use Rattle.lalrpop_lanes.specs.Words.{GainsSomeOf, GainsSomeOfAll, IsEndPlace, AreInRange}
use Rattle.lalrpop_construction.specs.Words.{places_in}
use Rattle.lalrpop_lanes.specs.lanes.LaneSteps.{LeadsBackTo, IsTracedFrom}
use Rattle.lalrpop_lanes.specs.declared.lane_table.lane.automaton.Automaton.{Automaton}
use Rattle.lalrpop_collections.specs.declared.collections.walk.Walk.{Walk}
use Rattle.lalrpop_lanes.specs.declared.lane_table.table.LaneTable.{LaneTable}
use Rattle.lalrpop_states.specs.declared.lr1_core.place.Place.{Place}
use Rattle.lalrpop_collections.proofs.theory.lists.Bounded.{in_flat_map}
use Rattle.lr1_theory.proofs.theory.check.CheckSending.{same_place}
use Rattle.lalrpop_states.proofs.theory.closures.Closing.{split_drop}
use Rattle.lalrpop_state_graph.proofs.theory.states.EdgeLeads.{leads_within}
use Rattle.lalrpop_lanes.proofs.theory.lanes.Gains.{Gains-none, Gains-then, Gains-same}
use Rattle.lalrpop_lanes.proofs.theory.lanes.GainsSome.{GainsSome-last, GainsSome-none}
use Rattle.lalrpop_collections.proofs.theory.lists.Members.{contains_map, Contains-range}
use Rattle.lalrpop_collections.proofs.theory.lists.Places.{filled}
use Rattle.lalrpop_lanes.proofs.theory.lanes.SomeOf.{some_none, some_kept, some_last, some_cases}
use Rattle.lalrpop_collections.proofs.theory.collections.Walks.{All-wait, IsTraversing, Traversing-end, Traversing-smaller, Traversing-start, Traversing-step, next_visited, visited_such}
use Rattle.lalrpop_lanes.proofs.theory.lanes.Unepsilon.{parent_item}
use Rattle.lalrpop_lanes.proofs.theory.lanes.Unshifting.{back_cases}

-- one step more at the end of a trace
pub traced_on : {g : List Production} {states : ℕ → Contents} {s r n : ℕ} {p q k : Production} {dot e d : ℕ} → IsTracedTo g states s p dot r q e → LeadsBack g states r q e n k d → IsTracedTo g states s p dot n k d
traced_on itself b = back b itself
traced_on (back a t) b = back a (traced_on t b)

module _ {L : Type 0} (automaton : Automaton L) (first : Place) where
  abbrev pub R : Rules
  R = rules_of automaton.grammar.now

  abbrev pub S : ℕ → Contents
  S = places_in automaton.states.now

  -- the place is a dotted production of the grammar in a state of the list
  pub record IsKnownPlace (n : ℕ) (p : Production) (dot : ℕ) : Type 0 where
    pub listed : n < length automaton.states.now
    pub own : Contains (productions automaton.grammar.now) p
    pub within : dot ≤ length p.symbols

  -- ---- all places
  dotted_in : ℕ → Production → List Place
  dotted_in n p = map (λ (d : ℕ). at_place n p d) (range_with_len 0 (length p.symbols + 1))

  places_at : ℕ → List Place
  places_at n = flat_map (dotted_in n) (productions automaton.grammar.now)

  pub all_places : List Place
  all_places = flat_map places_at (range_with_len 0 (length automaton.states.now))

  -- ---- the loop
  abbrev Cell : ℕ → Place → Type 0
  Cell row p = GivesCell R automaton.start.now S p row

  abbrev Bit : ℕ → ℕ → Place → Type 0
  Bit row bit p = GivesBit R automaton.start.now S p row bit

  abbrev Step : ℕ → ℕ → Place → Type 0
  Step l r p = GivesSuccessor R automaton.start.now S p l r

  -- of the visited places, those that are done added their contributions
  abbrev pub IsAt : List Place → Walk Place → Type 0
  IsAt = IsTraversing (λ p. first ≡ p) (LeadsBackTo R automaton.start.now S) (IsTracedFrom automaton first)

  pub record IsTracing (k : ℕ) (old now : LaneTable) (walk : Walk Place) : Type 0 where
    pub done : List Place
    pub walking : IsAt done walk
    pub gains : Gains k (λ row. Some_of (Cell row) done) (λ row bit. Some_of (Bit row bit) done) (λ l r. Some_of (Step l r) done) old now
    pub columns : now.conflicts ≡ old.conflicts
    pub in_range : AreInRange old → AreInRange now

module _ {L : Type 0} (automaton : Automaton L) (first : Place) (on : IsAutomaton automaton) (ended : IsEndPlace automaton first) where
  -- ---- all places
  known_back : {s : ℕ} {p : Production} {i r : ℕ} {q : Production} {e : ℕ} → LeadsBack (productions automaton.grammar.now) (places_in automaton.states.now) s p i r q e → IsKnownPlace automaton first s p i → IsKnownPlace automaton first r q e
  known_back {s} {p} {i} {r} {q} {e} b h = elim (back_cases (productions automaton.grammar.now) (places_in automaton.states.now) b) [
    | inl o ↦
        let moved = o.moved in
        let within = h.within in
        let less : e ≤ length p.symbols = omega arith in
        record {
          listed = leads_within automaton.states.now r s o.symbol o.edge;
          own = subst (Contains (productions automaton.grammar.now)) (sym o.same) h.own;
          within = subst (λ (x : Production). e ≤ length x.symbols) (sym o.same) less;
        }
    | inr t ↦
        let state = filled automaton.states.now s h.listed in
        let item = parent_item automaton.states.now s state.0 state.1 p.nonterminal q e t.after t.item t.behind in
        let own = on.own s state.0 item.item state.1 item.among in
        let at = slice_get_within q.symbols e (Nonterminal p.nonterminal) (split_drop e q.symbols (Nonterminal p.nonterminal) t.after t.behind) in
        record {
          listed = subst (λ (n : ℕ). n < length automaton.states.now) (sym t.here) h.listed;
          own = subst (Contains (productions automaton.grammar.now)) item.production own;
          within = omega (arith, at);
        }
  ]

  known_on : {s n : ℕ} {p k : Production} {dot d : ℕ} → IsTracedTo (productions automaton.grammar.now) (places_in automaton.states.now) s p dot n k d → IsKnownPlace automaton first s p dot → IsKnownPlace automaton first n k d
  known_on itself h = h
  known_on (back b t) h = known_on t (known_back b h)

  pub reached_known : (p : Place) → IsTracedFrom automaton first p → IsKnownPlace automaton first p.state p.item.production p.item.index
  reached_known p t = known_on t (record { listed = ended.listed; own = ended.own; within = let e = ended.end in omega arith })

  in_all : (p : Place) → IsKnownPlace automaton first p.state p.item.production p.item.index → Contains (all_places automaton first) p
  unfolding all_places places_at dotted_in
  in_all p h =
      let within = h.within in
      let dot : p.item.index < length p.item.production.symbols + 1 = omega arith in
      let key : at_place p.state p.item.production p.item.index ≡ p = same_place (at_place p.state p.item.production p.item.index) p refl refl refl in
      let here : Contains (dotted_in automaton first p.state p.item.production) (at_place p.state p.item.production p.item.index) = contains_map (λ (d : ℕ). at_place p.state p.item.production d) (range_with_len 0 (length p.item.production.symbols + 1)) p.item.index (Contains-range (length p.item.production.symbols + 1) p.item.index dot) in
      let named = in_flat_map (dotted_in automaton first p.state) (productions automaton.grammar.now) p.item.production (at_place p.state p.item.production p.item.index) h.own here in
      subst (Contains (all_places automaton first)) key (in_flat_map (places_at automaton first) (range_with_len 0 (length automaton.states.now)) p.state (at_place p.state p.item.production p.item.index) (Contains-range (length automaton.states.now) p.state h.listed) named)

  -- ---- the loop
  abbrev Leads : Place → Place → Type 0
  Leads = LeadsBackTo (R automaton first) automaton.start.now (S automaton first)

  pub Tracing-start : (k : ℕ) (table : LaneTable) (none walk : Walk Place) → none.visited.keys ≡ [] → none.waiting.items ≡ [] → Visits (λ p. first ≡ p) none walk → IsTracing automaton first k table table walk
  Tracing-start k table none walk no_visits no_waits v =
      let such = visited_such (λ p. first ≡ p) none walk no_visits no_waits v in
      record {
        done = [];
        walking = Traversing-start (λ p. first ≡ p) Leads (IsTracedFrom automaton first) walk (All-wait (λ p. first ≡ p) none walk no_visits no_waits v) v.there (λ p c. subst (λ (x : Place). IsTracedFrom automaton first x) (such p c) itself);
        gains = Gains-none k (λ row. Some_of (Cell automaton first row) []) (λ row bit. Some_of (Bit automaton first row bit) []) (λ l r. Some_of (Step automaton first l r) []) table (λ row h. some_none (Cell automaton first row) h) (λ row bit h. some_none (Bit automaton first row bit) h) (λ l r h. some_none (Step automaton first l r) h);
        columns = refl;
        in_range = λ h. h;
      }

  module _ (k : ℕ) (place : Place) (old now next : LaneTable) (before popped after : Walk Place) (same : popped.visited.keys ≡ before.visited.keys) (taken : before.waiting.items ≡ place ∷ popped.waiting.items) (h : IsTracing automaton first k old now before) where
    there : Contains before.visited.keys place
    there = next_visited (λ p. first ≡ p) Leads (IsTracedFrom automaton first) h.done place before popped after same taken h.walking

    pub place_listed : place.state < length automaton.states.now
    place_listed = (reached_known place (h.walking.reached place there)).listed

    -- the places so far were gained; if the step of the next one fails, a part of it was gained
    pub Tracing-part : GainsSomeOf automaton place k now next → GainsSomeOfAll automaton first k old next
    Tracing-part part = GainsSome-last k (λ row. Some_of (Cell automaton first row) h.done) (λ row. Cell automaton first row place) (λ row. TracesTo automaton first (Cell automaton first row)) (λ row bit. Some_of (Bit automaton first row bit) h.done) (λ row bit. Bit automaton first row bit place) (λ row bit. TracesTo automaton first (Bit automaton first row bit)) (λ l r. Some_of (Step automaton first l r) h.done) (λ l r. Step automaton first l r place) (λ l r. TracesTo automaton first (Step automaton first l r))
        (λ row. all_reached (Cell automaton first row)) (λ row c. (place, h.walking.reached place there, c)) (λ row bit. all_reached (Bit automaton first row bit)) (λ row bit b. (place, h.walking.reached place there, b)) (λ l r. all_reached (Step automaton first l r)) (λ l r s. (place, h.walking.reached place there, s)) old now next h.gains part
      where
        all_reached : (P : Place → Type 0) → Some_of P h.done → TracesTo automaton first P
        all_reached P m = (m.0, h.walking.reached m.0 (h.walking.settled m.0 m.1), m.2)

    pub Tracing-step : GainsOf automaton place k now next → VisitsOf automaton place popped after → next.conflicts ≡ now.conflicts → (AreInRange now → AreInRange next) → IsTracing automaton first k old next after
    Tracing-step gains v columns in_range = record {
      done = h.done ++ place ∷ [];
      walking = Traversing-step (λ p. first ≡ p) Leads (IsTracedFrom automaton first) h.done place before popped after same taken h.walking v (λ p t b. traced_on t b);
      gains = Gains-then k (λ row. Some_of (Cell automaton first row) h.done) (λ row. Cell automaton first row place) (λ row. Some_of (Cell automaton first row) (h.done ++ place ∷ [])) (λ row bit. Some_of (Bit automaton first row bit) h.done) (λ row bit. Bit automaton first row bit place) (λ row bit. Some_of (Bit automaton first row bit) (h.done ++ place ∷ [])) (λ l r. Some_of (Step automaton first l r) h.done) (λ l r. Step automaton first l r place) (λ l r. Some_of (Step automaton first l r) (h.done ++ place ∷ []))
          (λ row. some_kept (Cell automaton first row) h.done place) (λ row. some_last (Cell automaton first row) h.done place) (λ row. some_cases (Cell automaton first row) h.done place) (λ row bit. some_kept (Bit automaton first row bit) h.done place) (λ row bit. some_last (Bit automaton first row bit) h.done place) (λ row bit. some_cases (Bit automaton first row bit) h.done place)
          (λ l r. some_kept (Step automaton first l r) h.done place) (λ l r. some_last (Step automaton first l r) h.done place) (λ l r. some_cases (Step automaton first l r) h.done place) old now next h.gains gains;
      columns = columns ∙ h.columns;
      in_range = λ r. in_range (h.in_range r);
    }

  pub nothing_traced : (k : ℕ) (table : LaneTable) → GainsSomeOfAll automaton first k table table
  nothing_traced k table = GainsSome-none k (λ row. TracesTo automaton first (Cell automaton first row)) (λ row bit. TracesTo automaton first (Bit automaton first row bit)) (λ l r. TracesTo automaton first (Step automaton first l r)) table

  pub Tracing-smaller : (k : ℕ) (place : Place) (old now next : LaneTable) (before popped after : Walk Place) → popped.visited.keys ≡ before.visited.keys → before.waiting.items ≡ place ∷ popped.waiting.items → IsTracing automaton first k old now before → VisitsOf automaton place popped after → IsTracing automaton first k old next after →
      length (all_places automaton first) + length after.waiting.items - length after.visited.keys < length (all_places automaton first) + length before.waiting.items - length before.visited.keys
  Tracing-smaller k place old now next before popped after same taken h v g = Traversing-smaller (λ p. first ≡ p) Leads (IsTracedFrom automaton first) (all_places automaton first) (λ p t. in_all p (reached_known p t)) h.done g.done place before popped after same taken h.walking v g.walking

  -- ---- if no place waits
  module _ (k : ℕ) (old new : LaneTable) (walk : Walk Place) (none : walk.waiting.items ≡ []) (h : IsTracing automaton first k old new walk) where
    finished : (p : Place) → Contains walk.visited.keys p → Contains h.done p
    finished = Traversing-end (λ p. first ≡ p) Leads (IsTracedFrom automaton first) h.done walk none h.walking

    went : {s n : ℕ} {p q : Production} {dot d : ℕ} → IsTracedTo (productions automaton.grammar.now) (places_in automaton.states.now) s p dot n q d → Contains walk.visited.keys (at_place s p dot) → Contains walk.visited.keys (at_place n q d)
    went itself c = c
    went (back {s = s} {r = r} {p = p} {q = q} {dot = dot} {e = e} b t) c = went t (h.walking.led (at_place s p dot) (at_place r q e) (finished (at_place s p dot) c) b)

    all_done : (p : Place) → IsTracedFrom automaton first p → Contains h.done p
    all_done p t =
        let start : at_place first.state first.item.production first.item.index ≡ first = same_place (at_place first.state first.item.production first.item.index) first refl refl refl in
        let end : at_place p.state p.item.production p.item.index ≡ p = same_place (at_place p.state p.item.production p.item.index) p refl refl refl in
        finished p (subst (Contains walk.visited.keys) end (went t (subst (Contains walk.visited.keys) (sym start) (h.walking.begun first refl))))

    both : (P : Place → Type 0) → Some_of P h.done ↔ TracesTo automaton first P
    both P = (λ m. (m.0, h.walking.reached m.0 (h.walking.settled m.0 m.1), m.2), λ m. (m.0, all_done m.0 m.1, m.2))

    pub Tracing-end : GainsAll automaton first k old new
    Tracing-end = Gains-same k (λ row. Some_of (Cell automaton first row) h.done) (λ row. TracesTo automaton first (Cell automaton first row)) (λ row bit. Some_of (Bit automaton first row bit) h.done) (λ row bit. TracesTo automaton first (Bit automaton first row bit)) (λ l r. Some_of (Step automaton first l r) h.done) (λ l r. TracesTo automaton first (Step automaton first l r))
        (λ row. both (Cell automaton first row)) (λ row bit. both (Bit automaton first row bit)) (λ l r. both (Step automaton first l r)) old new h.gains
