-- The work that a trace has left falls.
use Rattle.std.proofs.Common.{◌≡◌, inl, inr, ℕ, zero, suc, ◌<◌, ◌≤◌, ◌+◌, ◌*◌, Bool, true, false, List, [], ◌∷◌, ◌++◌, map, length, refl, sym, ◌∙◌, ap, subst, arith}
use Rattle.std.specs.Prelude.{Contains, not, slice_get, Option}
use Rattle.std.specs.List.{flat_map, range_with_len, sum_by}
use Rattle.std.specs.BTreeSet.{BTreeSet, contains}
use Rattle.std.proofs.Math.Nat.{suc-mul, mul-le-mul_right}
use Rattle.std.proofs.lemmas.Bool.{cases_lt}
use Rattle.std.proofs.lemmas.List.{length-append, length-map}
use Rattle.std.proofs.lemmas.List.FromFn.{length-map-range_with_len}
use Rattle.std.proofs.lemmas.List.Sums.{sum_by-cons, sum_by-append}
use Rattle.std.proofs.lemmas.Option.{slice_get_past, slice_get_within}
use mathlib.Core.Bool.{true≢false}
use Rattle.lalrpop_base.specs.Words.{Bits, Dotted}
use Rattle.lalrpop_traces.proofs.Types.{NonterminalString, Production, State, StateIndex, Symbol}
use Rattle.lalrpop_state_graph.specs.Words.{edges, over, nowhere, state_cmp}
use Rattle.lalrpop_state_graph.specs.graphs.StateGraph.{LeadsTo}
use Rattle.lalrpop_collections.proofs.theory.lists.Bounded.{in_flat_map}
use Rattle.lalrpop_state_graph.proofs.theory.states.EdgeLeads.{source_of_edge}
use Rattle.lalrpop_collections.proofs.theory.lists.Members.{contains_head, contains_tail, contains_map, Contains-range, apart-from_sorted, pigeonhole}
use Rattle.lalrpop_collections.proofs.theory.lists.Places.{contains_at}
use Rattle.lalrpop_state_graph.proofs.theory.graphs.StateGraphs.{state_total}
use Rattle.lalrpop_traces.specs.Words.{Backtrace, Meeting, StandsIn, Duty, come_to, take_up, come_to_each, take_up_each, items_at, AreSources}
use Rattle.lalrpop_traces.specs.Words.{meeting_cmp, IsInsertedPair, names_in, meetings, unmet, item_steps, duty_steps, work}
use Rattle.lalrpop_traces.specs.declared.trace.walk_back.Met.{Met}
use Rattle.lalrpop_traces.proofs.theory.traces.Counting.{count_le, count_less}

not_true : (b : Bool) → not b ≡ true → b ≡ false
not_true true h = absurd (true≢false (sym h))
not_true false h = refl

still_unmet : (a b : Bool) → (a ≡ true → b ≡ true) → not b ≡ true → not a ≡ true
still_unmet true b h n = absurd (true≢false (sym (h refl) ∙ not_true b n))
still_unmet false b h n = refl

abbrev names_of : State Bits → List NonterminalString
names_of s = map (λ (i : Dotted Bits). i.production.nonterminal) s.items.vec.items

-- a state has no more items than all of them together
few_items : (states : List (State Bits)) (n : ℕ) → length (items_at (slice_get states n)) ≤ length (flat_map names_of states)
few_items [] n = omega arith
few_items (s ∷ states) zero = omega (arith, length-append (names_of s) (flat_map names_of states), length-map s.items.vec.items (λ (i : Dotted Bits). i.production.nonterminal))
few_items (s ∷ states) (suc n) = omega (arith, length-append (names_of s) (flat_map names_of states), few_items states n)

module _ (b : Backtrace) where
  -- ---- nonterminals that can still be met

  module _ (old new : BTreeSet Meeting) (kept : (q : Meeting) → contains meeting_cmp old q ≡ true → contains meeting_cmp new q ≡ true) where
    unmet_le : unmet b new ≤ unmet b old
    unmet_le = count_le (λ m. not (contains meeting_cmp old m)) (λ m. not (contains meeting_cmp new m)) (λ m. still_unmet (contains meeting_cmp old m) (contains meeting_cmp new m) (kept m)) (meetings b)

    unmet_less : (m : Meeting) → Contains (meetings b) m → contains meeting_cmp old m ≡ false → contains meeting_cmp new m ≡ true → unmet b new < unmet b old
    unmet_less m c was now = count_less (λ q. not (contains meeting_cmp old q)) (λ q. not (contains meeting_cmp new q)) (λ q. still_unmet (contains meeting_cmp old q) (contains meeting_cmp new q) (kept q)) (meetings b) m c (ap not was) (ap not now)

  -- a name of the states, in one of the states, is among the meetings
  among_meetings : (state : StateIndex) (name : NonterminalString) → state.0 < length b.states → Contains (names_in b) name → Contains (meetings b) (state, name)
  among_meetings state name l c =
      in_flat_map (λ n. map (λ a. (record { 0 = n }, a)) (names_in b)) (range_with_len 0 (length b.states)) state.0 (state, name) (Contains-range (length b.states) state.0 l) (contains_map (λ (a : NonterminalString). (state, a)) (names_in b) name c)

  -- the name of an item of a state is one of the names
  pub named_item : (state : StateIndex) (item : Dotted Bits) → StandsIn b.states state item → Contains (names_in b) item.production.nonterminal
  named_item state item stands =
      contains_tail b.item.production.nonterminal (flat_map names_of b.states) item.production.nonterminal
      (in_flat_map names_of b.states stands.0 item.production.nonterminal (contains_at b.states stands.0 state.0 stands.1) (contains_map (λ (i : Dotted Bits). i.production.nonterminal) stands.0.items.vec.items item stands.2))

  -- so is the name of the traced item
  pub named_first : Contains (names_in b) b.item.production.nonterminal
  named_first = contains_head b.item.production.nonterminal (flat_map names_of b.states)

  -- ---- states in which an item can begin

  -- they are states of the list if the state of the item is one
  source_within : {r s : StateIndex} {symbols : List Symbol} → LeadsTo (edges b.states) r symbols s → s.0 < length b.states → r.0 < length b.states
  source_within nowhere l = l
  source_within (over {r = r} {m = m} {x = x} c rest) l = let from = source_of_edge b.states r m x c in slice_get_within b.states r.0 from.0 from.1

  few_sources : (p : Production) (index : ℕ) (state : StateIndex) (sources : List StateIndex) → AreSources b p index state sources → state.0 < length b.states → length sources ≤ length b.states
  few_sources p index state sources are l =
      let index_of : ℕ → StateIndex = λ n. record { 0 = n } in
      let all : List StateIndex = map index_of (range_with_len 0 (length b.states)) in
      let few : length sources ≤ length all = pigeonhole sources all (apart-from_sorted state_cmp state_total sources are.ascending)
      (λ r c. contains_map index_of (range_with_len 0 (length b.states)) r.0 (Contains-range (length b.states) r.0 (source_within ((are.exactly r).0 c) l))) in
      omega (arith, few, length-map-range_with_len index_of 0 (length b.states))

  -- ---- work

  -- each of the items has the same number of steps
  items_steps : (m : Meeting) (items : List (Dotted Bits)) → sum_by (duty_steps b) (take_up_each m items) ≡ length items * item_steps b
  items_steps m [] = omega arith
  items_steps m (i ∷ items) = omega (arith, sum_by-cons (duty_steps b) (take_up m i) (take_up_each m items), items_steps m items, suc-mul (length items) (item_steps b))

  -- each of the sources has one step
  sources_steps : (p : Production) (sources : List StateIndex) → sum_by (duty_steps b) (come_to_each p sources) ≡ length sources
  sources_steps p [] = refl
  sources_steps p (n ∷ sources) = omega (arith, sum_by-cons (duty_steps b) (come_to (n, p.nonterminal)) (come_to_each p sources), sources_steps p sources)

  module _ (old new : Met) (duties : List Duty) where
    module _ (fresh : Bool) (m : Meeting) (inserted : IsInsertedPair fresh m old.visited_set new.visited_set) where
      -- the work falls if a nonterminal is come to
      pub come_work : work b new duties < work b old (come_to m ∷ duties)
      come_work =
          let many : ℕ = length (names_in b) * item_steps b in
          let le : unmet b new.visited_set ≤ unmet b old.visited_set = unmet_le old.visited_set new.visited_set inserted.now in
          let less : unmet b new.visited_set * many ≤ unmet b old.visited_set * many = mul-le-mul_right many le in
          omega (arith, less, sum_by-cons (duty_steps b) (come_to m) duties)

      -- it falls if the nonterminal is met, and the items of the state are left
      pub met_work : fresh ≡ true → Contains (names_in b) m.1 → work b new (take_up_each m (items_at (slice_get b.states m.0.0)) ++ duties) < work b old (come_to m ∷ duties)
      met_work is named = elim (cases_lt m.0.0 (length b.states)) [
        | inl within ↦
            let many : ℕ = length (names_in b) * item_steps b in
            let items : List (Dotted Bits) = items_at (slice_get b.states m.0.0) in
            let less : unmet b new.visited_set < unmet b old.visited_set = unmet_less old.visited_set new.visited_set inserted.now m (among_meetings m.0 m.1 within named) (not_true (contains meeting_cmp old.visited_set m) (sym inserted.was ∙ is)) inserted.there in
            let falls : suc (unmet b new.visited_set) * many ≤ unmet b old.visited_set * many = mul-le-mul_right many (omega (arith, less)) in
            let few : length items ≤ length (names_in b) = omega (arith, few_items b.states m.0.0) in
            let no_more : length items * item_steps b ≤ many = mul-le-mul_right (item_steps b) few in
            omega (arith, falls, no_more, suc-mul (unmet b new.visited_set) many, sum_by-cons (duty_steps b) (come_to m) duties, sum_by-append (duty_steps b) (take_up_each m items) duties, items_steps m items)
        | inr out ↦ (let P : Option (State Bits) → Type 0 = λ s. work b new (take_up_each m (items_at s) ++ duties) < work b old (come_to m ∷ duties) in subst P (sym (slice_get_past b.states m.0.0 out)) come_work)
      ]

    module _ (m : Meeting) (item : Dotted Bits) (same : new.visited_set ≡ old.visited_set) where
      -- it falls by the steps of an item if that is taken
      pub item_work : work b new duties + item_steps b ≡ work b old (take_up m item ∷ duties)
      item_work =
          let unmet_same : unmet b new.visited_set * (length (names_in b) * item_steps b) ≡ unmet b old.visited_set * (length (names_in b) * item_steps b) = ap (λ (s : BTreeSet Meeting). unmet b s * (length (names_in b) * item_steps b)) same in
          omega (arith, unmet_same, sum_by-cons (duty_steps b) (take_up m item) duties)

      -- the sources of an item from which the trace goes on have less work than the item
      pub sources_work : (sources : List StateIndex) → AreSources b item.production item.index m.0 sources → m.0.0 < length b.states → work b new (come_to_each item.production sources ++ duties) + length sources < work b old (take_up m item ∷ duties)
      sources_work sources are l = omega (arith, item_work, sum_by-append (duty_steps b) (come_to_each item.production sources) duties, sources_steps item.production sources, few_sources item.production item.index m.0 sources are l)
