-- A trace adds edges in the order in which a walk gives them.
use Rattle.std.proofs.Common.{◌≡◌, ◌≢◌, ◌↔◌, inl, inr, ℕ, Bool, true, false, List, [], ◌∷◌, ◌++◌, map, take, refl, sym, ◌∙◌, ap, subst, append_assoc, ⊎_elim}
use Rattle.std.specs.Prelude.{slice_get, Some, Contains, not}
use Rattle.std.specs.List.Sorted.{IsStrictlySortedBy}
use Rattle.std.specs.BTreeSet.{BTreeSet, contains}
use Rattle.std.proofs.lemmas.List.{append-nil}
use Rattle.std.proofs.lemmas.List.Concat.{flat_map-append}
use mathlib.Core.Bool.{true≢false}
use Rattle.lalrpop_base.specs.Words.{Bits, Dotted, AddsOnce}
use Rattle.lalrpop_traces.proofs.Types.{Production, StateIndex, Symbol}
use Rattle.lalrpop_grammar.specs.declared.repr.Symbol.TheVariants.{Nonterminal}
use Rattle.lalrpop_state_graph.specs.Words.{edges, state_cmp}
use Rattle.lalrpop_state_graph.specs.graphs.StateGraph.{LeadsTo}
use Rattle.lalrpop_numbers.proofs.theory.construction.Contained.{contained, Decided}
use Rattle.lalrpop_collections.proofs.theory.lists.Members.{Contains-none, contains_head, contains_tail, contains-cons}
use Rattle.lalrpop_traces.specs.Words.{Graph, PlainEdge, plain, plain_edges, AddsBoth, AddsEdge, AddsInTurn, all_added, left_out, put_behind, ends_of, stop_edge}
use Rattle.lalrpop_traces.specs.Words.{onward_edges, Duty, come_to, take_up, come_to_each, take_up_each, items_at, AreSources, Walks, ends, known, meets, passes}
use Rattle.lalrpop_traces.specs.Words.{IsGraph, IsInOrder, Backtrace, Meeting, GoesOn, own_edge, meeting_cmp, IsInsertedPair, HasMet, AddsInOrder, AreMet, WalksOn}
use Rattle.lalrpop_traces.specs.traces.TraceOrder.{stops, goes_on}
use Rattle.lalrpop_traces.specs.declared.trace.walk_back.Met.{Met}
use Rattle.lalrpop_traces.specs.declared.trace.node.TraceGraphNode.{TraceGraphNode}
use Rattle.lalrpop_traces.specs.declared.trace.trace_graph.TraceGraphEdge.{TraceGraphEdge}
use Rattle.lalrpop_traces.proofs.theory.traces.TraceGraphs.{plain_push, plain_place, decided_node}

-- ---- values added in turn

-- some are added, and then others
turn_append : {X : Type 0} {old xs middle : List X} (ys new : List X) → AddsInTurn old xs middle → AddsInTurn middle ys new → AddsInTurn old (xs ++ ys) new
turn_append ys new all_added second = second
turn_append ys new (left_out c first) second = left_out c (turn_append ys new first second)
turn_append ys new (put_behind out first) second = put_behind out (turn_append ys new first second)

turn_edge : (old new : List TraceGraphEdge) (e : TraceGraphEdge) → AddsEdge old new e → AddsInTurn (map plain old) (plain e ∷ []) (map plain new)
turn_edge old new e (inl h) =
    let P : List TraceGraphEdge → Type 0 = λ es. AddsInTurn (map plain old) (plain e ∷ []) (map plain es) in
    subst P (sym h.1) (left_out h.0 all_added)
turn_edge old new e (inr h) =
    let P : List PlainEdge → Type 0 = λ es. AddsInTurn (map plain old) (plain e ∷ []) es in
    subst P (sym (ap (map plain) h.1 ∙ plain_push old e)) (put_behind h.0 all_added)

module _ {X : Type 0} (same : Decided X) where
  turn_once : (old new : List X) (x : X) → AddsOnce old new x → AddsInTurn old (x ∷ []) new
  turn_once old new x once =
      let P : List X → Type 0 = λ xs. AddsInTurn old (x ∷ []) xs in
      elim (contained same old x) [ inl c ↦ subst P (sym (once.known c)) (left_out c all_added) | inr out ↦ subst P (sym (once.fresh out)) (put_behind out all_added) ]

-- an edge is added, and its ends
pub order_one : (old new : Graph) (e : TraceGraphEdge) (p : PlainEdge) → AddsEdge old.edges new.edges e → AddsBoth old.nodes new.nodes e.from e.to → plain e ≡ p → AddsInOrder old new (p ∷ [])
order_one old new e p edge both is =
    let P : PlainEdge → Type 0 = λ q. AddsInOrder old new (q ∷ []) in
    subst P is (record {
      edges = turn_edge old.edges new.edges e edge;
      nodes = turn_append (e.to ∷ []) new.nodes (turn_once decided_node old.nodes both.0 e.from both.1) (turn_once decided_node both.0 new.nodes e.to both.2);
    })

-- an edge that is there is added again
pub order_again : (graph : Graph) → IsGraph graph → (p : PlainEdge) → Contains (plain_edges graph) p → AddsInOrder graph graph (p ∷ [])
order_again graph is p there =
    let at = plain_place graph.edges p there in
    let both = is.ends at.0 at.1 at.2 in
    let P : TraceGraphNode → Type 0 = Contains graph.nodes in
    record { edges = left_out there all_added; nodes = left_out (subst P (ap (λ (q : PlainEdge). q.from) at.3) both.0) (left_out (subst P (ap (λ (q : PlainEdge). q.to) at.3) both.1) all_added) }

pub order_as : (old new : Graph) (xs ys : List PlainEdge) → AddsInOrder old new xs → xs ≡ ys → AddsInOrder old new ys
order_as old new xs ys added same = subst (AddsInOrder old new) same added

pub order_none : (graph : Graph) → AddsInOrder graph graph []
order_none graph = record { edges = all_added; nodes = all_added }

pub order_append : (old middle new : Graph) (xs ys : List PlainEdge) → AddsInOrder old middle xs → AddsInOrder middle new ys → AddsInOrder old new (xs ++ ys)
order_append old middle new xs ys one two =
    let P : List TraceGraphNode → Type 0 = λ ns. AddsInTurn old.nodes ns new.nodes in
    record {
      edges = turn_append ys (plain_edges new) one.edges two.edges;
      nodes = subst P (sym (flat_map-append (λ (e : PlainEdge). e.from ∷ e.to ∷ []) xs ys)) (turn_append (ends_of ys) new.nodes one.nodes two.nodes);
    }

-- ---- steps of a walk

-- what was met stays as edges are added
same_met : (old new : Met) → new.visited_set ≡ old.visited_set → (list : List Meeting) → AreMet list old → AreMet list new
same_met old new same list are =
    let P : BTreeSet Meeting → Type 0 = λ s. (m : Meeting) → Contains list m ↔ (contains meeting_cmp s m ≡ true) in
    subst P (sym same) are

module _ (b : Backtrace) where
  pub walks_none : (duties : List Duty) (met : Met) → WalksOn b duties duties met met
  walks_none duties met list are = record { after = list; are_met = are; given = []; added = order_none met.trace_graph; walk = λ es w. w }

  -- two ways after each other are one way
  pub walks_then : (one two three : List Duty) (a c d : Met) → WalksOn b one two a c → WalksOn b two three c d → WalksOn b one three a d
  walks_then one two three a c d first second list are =
      let f = first list are in
      let s = second f.after f.are_met in
      record {
        after = s.after;
        are_met = s.are_met;
        given = f.given ++ s.given;
        added = order_append a.trace_graph c.trace_graph d.trace_graph f.given s.given f.added s.added;
        walk = λ es w.
            let P : List PlainEdge → Type 0 = λ xs. Walks b list one xs in
            subst P (sym (append_assoc f.given s.given es)) (f.walk (s.given ++ es) (s.walk es w));
      }

  module _ (duties : List Duty) where
    -- ---- a nonterminal in a state

    module _ (old middle : Met) (fresh : Bool) (m : Meeting) (inserted : IsInsertedPair fresh m old.visited_set middle.visited_set) (same : middle.trace_graph ≡ old.trace_graph) where
      -- the nonterminal was met before
      pub walks_known : fresh ≡ false → WalksOn b (come_to m ∷ duties) duties old middle
      walks_known is list are =
          let was : HasMet old m = was_there (contains meeting_cmp old.visited_set m) (sym inserted.was ∙ is) in
          let P : Graph → Type 0 = λ g. AddsInOrder old.trace_graph g [] in
          let Q : Meeting → Type 0 = HasMet old in
          record {
            after = list;
            are_met = λ q. (λ c. inserted.now q ((are q).0 c), λ h. (are q).1 (⊎_elim (λ before. before) (λ here. subst Q here was) (inserted.only q h)));
            given = [];
            added = subst P (sym same) (order_none old.trace_graph);
            walk = λ es w. known ((are m).1 was) w;
          }
        where
          was_there : (c : Bool) → not c ≡ false → c ≡ true
          was_there true h = refl
          was_there false h = absurd (true≢false h)

      -- the nonterminal was not met before
      pub walks_met : fresh ≡ true → WalksOn b (come_to m ∷ duties) (take_up_each m (items_at (slice_get b.states m.0.0)) ++ duties) old middle
      walks_met is list are =
          let out : ¬ Contains list m = λ c. true≢false (sym is ∙ inserted.was ∙ ap not ((are m).0 c)) in
          let P : Graph → Type 0 = λ g. AddsInOrder old.trace_graph g [] in
          let Q : Meeting → Type 0 = HasMet middle in
          let R : Meeting → Type 0 = Contains (m ∷ list) in
          record {
            after = m ∷ list;
            are_met = λ q. (
              λ c. ⊎_elim (λ here. subst Q here inserted.there) (λ before. inserted.now q ((are q).0 before)) (contains-cons m list q c),
              λ h. ⊎_elim (λ before. contains_tail m list q ((are q).1 before)) (λ here. subst R here (contains_head m list)) (inserted.only q h),
            );
            given = [];
            added = subst P (sym same) (order_none old.trace_graph);
            walk = λ es w. meets out w;
          }

    -- ---- an item

    module _ (m : Meeting) (item : Dotted Bits) where
      pub walks_past : (met : Met) → slice_get item.production.symbols item.index ≢ Some (Nonterminal m.1) → WalksOn b (take_up m item ∷ duties) duties met met
      walks_past met other list are = record { after = list; are_met = are; given = []; added = order_none met.trace_graph; walk = λ es w. passes other w }

      module _ (old new : Met) (same : new.visited_set ≡ old.visited_set) (at : slice_get item.production.symbols item.index ≡ Some (Nonterminal m.1)) where
        pub walks_stop : ¬ GoesOn b item → AddsInOrder old.trace_graph new.trace_graph (stop_edge m.1 item ∷ []) → WalksOn b (take_up m item ∷ duties) duties old new
        walks_stop out added list are = record {
          after = list;
          are_met = same_met old new same list are;
          given = stop_edge m.1 item ∷ [];
          added = added;
          walk = λ es w. stops at out w;
        }

        pub walks_on : (sources : List StateIndex) → GoesOn b item → AddsInOrder old.trace_graph new.trace_graph (onward_edges b.traced m.1 item) → AreSources b item.production item.index m.0 sources
            → WalksOn b (take_up m item ∷ duties) (come_to_each item.production sources ++ duties) old new
        walks_on sources on added are_sources list are = record {
          after = list;
          are_met = same_met old new same list are;
          given = onward_edges b.traced m.1 item;
          added = added;
          walk = λ es w. goes_on sources es at on are_sources w refl;
        }

  -- ---- the whole

  -- the states that a step back finds are the sources
  pub are_sources : (p : Production) (index : ℕ) (state : StateIndex) (found : List StateIndex) (prefix : List Symbol) → prefix ≡ take index p.symbols → IsStrictlySortedBy state_cmp found → ((r : StateIndex) → Contains found r ↔ LeadsTo (edges b.states) r prefix state) → AreSources b p index state found
  are_sources p index state found prefix is_prefix ascending exactly =
      let P : List Symbol → Type 0 = λ xs. (r : StateIndex) → Contains found r ↔ LeadsTo (edges b.states) r xs state in
      record { ascending = ascending; exactly = subst P is_prefix exactly }

  pub in_order : (early middle last : Met) (sources : List StateIndex) → ((m : Meeting) → HasMet early m → ⊥) → early.trace_graph ≡ record { nodes = []; edges = [] } → middle.visited_set ≡ early.visited_set →
      AreSources b b.item.production b.item.index b.state sources → AddsInOrder early.trace_graph middle.trace_graph (own_edge b.item.production b.item.index ∷ []) → WalksOn b (come_to_each b.item.production sources) [] middle last → IsInOrder b last.trace_graph
  in_order early middle last sources none empty same begins own walk =
      let first = own_edge b.item.production b.item.index in
      let nothing : AreMet [] early = λ m. (λ c. absurd (Contains-none m c), λ h. absurd (none m h)) in
      let s = walk [] (same_met early middle same [] nothing) in
      let P : Graph → Type 0 = λ g. AddsInOrder g last.trace_graph (first ∷ s.given) in
      let all : AddsInOrder (record { nodes = []; edges = [] }) last.trace_graph (first ∷ s.given) = subst P empty (order_append early.trace_graph middle.trace_graph last.trace_graph (first ∷ []) s.given own s.added) in
      let R : List PlainEdge → Type 0 = λ es. Walks b [] (come_to_each b.item.production sources) es in
      record {
        sources = sources;
        begins = begins;
        given = s.given;
        walk = subst R (append-nil s.given) (s.walk [] ends);
        edges = all.edges;
        nodes = all.nodes;
      }
