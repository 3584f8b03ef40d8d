-- The parts of a trace graph, with a node or an edge more.
use Rattle.std.proofs.Common.{◌≡◌, ℕ, ◌+◌, ◌-◌, ◌<◌, ◌≤◌, ◌==◌, inl, inr, Bool, true, false, cond, List, [], ◌∷◌, ◌++◌, map, length, length-append, get_or, slice_set, refl, sym, ◌∙◌, ap, subst, arith, eq-eqb}
use Rattle.std.specs.Prelude.{slice_get, Option, Some, None, Contains}
use Rattle.std.specs.BTreeMap.{BTreeMap, get, is_at}
use Rattle.std.specs.Map.{lookup}
use Rattle.std.specs.declared.alloc.Global.{Global}
use Rattle.std.specs.declared.vec.Vec.{Vec}
use Rattle.std.proofs.lemmas.Bool.{cases_Bool, eqb-true}
use Rattle.std.proofs.lemmas.List.{drop_all, length-set}
use Rattle.std.proofs.lemmas.List.Elements.{Contains-append_left}
use Rattle.std.proofs.lemmas.Option.{slice_get_within}
use mathlib.Core.Bool.{true≢false}
use Rattle.lalrpop_base.specs.Words.{IsNumbering, by_number, key_numbered, AllDiffer}
use Rattle.lalrpop_collections.proofs.theory.states.KernelLemmas.{IsNext, all_differ, is_fresh, list_grows, next_numbering}
use Rattle.lalrpop_collections.proofs.theory.lists.Places.{contains_at, differ_push, filled, one_place, push_cases, same_some, slice_get-longer}
use Rattle.lalrpop_state_graph.specs.Words.{AreSameLists, IsListedAt, list_at}
use Rattle.lalrpop_state_graph.proofs.theory.graphs.StateGraphs.{list_changed, list_past, list_there, listed_more, one_list_more}
use Rattle.lalrpop_traces.specs.Words.{Graph, PlainEdge, plain, IsKept, HaveEnds, are_one, numbers_to, numbers_to_source, places_from, source_of}
use Rattle.lalrpop_traces.specs.contracts.trace.node.TraceGraphNodeOrd.TheImpl as node_ord
use Rattle.lalrpop_traces.specs.contracts.trace.node.TraceGraphNodeEq.TheImpl as node_equality
use Rattle.lalrpop_traces.specs.contracts.trace.node.TraceGraphNodePartialEq.TheImpl as node_eq
use Rattle.lalrpop_traces.specs.contracts.trace.node.TraceGraphNodeExact.TheImpl as node_exactly
use Rattle.lalrpop_traces.specs.declared.trace.node.TraceGraphNode.{TraceGraphNode}
use Rattle.lalrpop_traces.specs.declared.trace.trace_graph.TraceGraphEdge.{TraceGraphEdge}
use Rattle.lalrpop_traces.proofs.theory.traces.TraceGraphs.{tied_nodes, place_sound, places_push, plain_push, ends_push}

-- ---- numbers of nodes
not_true : (b : Bool) → (b ≡ true → ⊥) → b ≡ false
not_true true h = absurd (h refl)
not_true false h = refl

-- two nodes have one number exactly if they are equal
pub same_number : (nodes : List TraceGraphNode) (a b : ℕ) (x y : TraceGraphNode) → AllDiffer nodes → slice_get nodes a ≡ Some x → slice_get nodes b ≡ Some y → (a == b) ≡ node_eq.ghosts.eq x y
same_number nodes a b x y differ at_a at_b = elim (cases_Bool (a == b)) [
  | inl one ↦
      let same : x ≡ y = same_some x y (sym at_a ∙ ap (slice_get nodes) (eqb-true a b one) ∙ at_b) in
      one ∙ sym (ap (node_eq.ghosts.eq x) (sym same) ∙ node_equality.Laws.laws-law.refl x)
  | inr two ↦
      two ∙ sym (not_true (node_eq.ghosts.eq x y) (λ equal.
      let same : x ≡ y = node_exactly.Laws.exact-law x y equal in
      true≢false (sym (eq-eqb a b (one_place nodes differ a b y (at_a ∙ ap (λ n. Some n) same) at_b)) ∙ two)))
]

-- ---- places of the edges to a node
none_first : (ks : List ℕ) → ((p : ℕ) → slice_get ks 0 ≡ Some p → ⊥) → ks ≡ []
none_first [] h = refl
none_first (k ∷ ks) h = absurd (h k refl)

-- no edge leads to a node that is not there
pub no_places : (nodes : List TraceGraphNode) (edges : List TraceGraphEdge) (node : TraceGraphNode) → HaveEnds nodes edges → ¬ Contains nodes node → places_from 0 node edges ≡ []
no_places nodes edges node ends out = none_first (places_from 0 node edges) (λ p at.
    let there = place_sound 0 node edges 0 p at in
    out (subst (Contains nodes) there.4 (ends there.0 there.1 there.3).1))

-- the places of the edges to each node, after the place of one more edge was pushed
places_pushed : (nodes : List TraceGraphNode) (edges : List TraceGraphEdge) (old new : List (Vec ℕ Global)) (t n : ℕ) (e : TraceGraphEdge) → AllDiffer nodes → slice_get nodes t ≡ Some e.to → n ≡ length edges → IsListedAt t n old new →
    ((j : ℕ) (q : TraceGraphNode) → slice_get nodes j ≡ Some q → list_at old j ≡ places_from 0 q edges) →
    (j : ℕ) (q : TraceGraphNode) → slice_get nodes j ≡ Some q → list_at new j ≡ places_from 0 q (edges ++ e ∷ [])
places_pushed nodes edges old new t n e differ to is_n pushed kept j q at =
    let number : n ≡ 0 + length edges = omega (arith, is_n) in
    pushed j ∙ ap (λ ks. ks ++ cond (t == j) (n ∷ []) []) (kept j q at)
    ∙ ap (λ b. places_from 0 q edges ++ cond b (n ∷ []) []) (same_number nodes t j e.to q differ to at)
    ∙ ap (λ (k : ℕ). places_from 0 q edges ++ cond (node_eq.ghosts.eq e.to q) (k ∷ []) []) number
    ∙ sym (places_push 0 q edges e)

-- the numbers of the sources, with that of one more edge
sources_pushed : (nodes : List TraceGraphNode) (edges : List TraceGraphEdge) (sources : List ℕ) (s : ℕ) (e : TraceGraphEdge) → slice_get nodes s ≡ Some e.from → length sources ≡ length edges →
    ((k n : ℕ) (f : TraceGraphEdge) → slice_get edges k ≡ Some f → slice_get sources k ≡ Some n → slice_get nodes n ≡ Some f.from) →
    (k n : ℕ) (f : TraceGraphEdge) → slice_get (edges ++ e ∷ []) k ≡ Some f → slice_get (sources ++ s ∷ []) k ≡ Some n → slice_get nodes n ≡ Some f.from
sources_pushed nodes edges sources s e from counted kept k n f at_e at_s = elim (push_cases edges e k f at_e) [
  | inl before ↦ elim (push_cases sources s k n at_s) [
    | inl too ↦ kept k n f before too
    | inr end ↦ let within = slice_get_within edges k f before in let here = end.0 in absurd (omega arith)
  ]
  | inr last ↦ elim (push_cases sources s k n at_s) [
    | inl too ↦ let within = slice_get_within sources k n too in let here = last.0 in absurd (omega arith)
    | inr end ↦ ap (slice_get nodes) (sym end.1) ∙ from ∙ ap (λ (g : TraceGraphEdge). Some g.from) last.1
  ]
]

-- ---- one node more
without_pending : {numbers : BTreeMap TraceGraphNode ℕ} {pending : List TraceGraphNode} → IsNumbering node_ord.ghosts.cmp numbers pending → IsNumbering node_ord.ghosts.cmp numbers []
without_pending {numbers} numbering = let whole = numbering.whole in record {
  found = numbering.found;
  numbered = numbering.numbered;
  outside = numbering.outside;
  whole = whole;
  fewer = omega arith;
  waits = sym (drop_all (length numbers.entries - length {A = TraceGraphNode} []) (by_number numbers.entries) (omega (arith, whole)));
}

ends_more : (nodes more : List TraceGraphNode) (edges : List TraceGraphEdge) (node : TraceGraphNode) → more ≡ nodes ++ node ∷ [] → HaveEnds nodes edges → HaveEnds more edges
ends_more nodes more edges node is ends k e at =
    let P : TraceGraphNode → List TraceGraphNode → Type 0 = λ n xs. Contains xs n in
    let both_ends = ends k e at in
    (subst (P e.from) (sym is) (Contains-append_left nodes (node ∷ []) e.from both_ends.0), subst (P e.to) (sym is) (Contains-append_left nodes (node ∷ []) e.to both_ends.1))

-- the places of the edges to each node, with a node more and an empty list for it
places_more : (nodes more : List TraceGraphNode) (edges : List TraceGraphEdge) (old new : List (Vec ℕ Global)) (none : Vec ℕ Global) (node : TraceGraphNode) → more ≡ nodes ++ node ∷ [] → none.items ≡ [] → new ≡ old ++ none ∷ [] → length old ≡ length nodes → ¬ Contains nodes node → HaveEnds nodes edges →
    ((j : ℕ) (q : TraceGraphNode) → slice_get nodes j ≡ Some q → list_at old j ≡ places_from 0 q edges) →
    (j : ℕ) (q : TraceGraphNode) → slice_get more j ≡ Some q → list_at new j ≡ places_from 0 q edges
places_more nodes more edges old new none node is empty is_new lists out ends kept j q at =
    let grown : slice_get (nodes ++ node ∷ []) j ≡ Some q = ap (λ (xs : List TraceGraphNode). slice_get xs j) (sym is) ∙ at in
    one_list_more old new none empty is_new j ∙ elim (push_cases nodes node j q grown) [
      | inl before ↦ kept j q before
      | inr last ↦
          let here = last.0 in
          list_past old j (omega arith) ∙ sym (no_places nodes edges q ends (λ there. out (subst (Contains nodes) (sym last.1) there)))
    ]

-- a graph with a node more
pub kept_more : {old new : BTreeMap TraceGraphNode ℕ} {edges : List TraceGraphEdge} {sources : List ℕ} {incoming more : List (Vec ℕ Global)} {k : TraceGraphNode} {v : ℕ} (none : Vec ℕ Global) → none.items ≡ [] → more ≡ incoming ++ none ∷ [] →
    IsKept old (by_number old.entries) edges sources incoming → IsNext node_ord.ghosts.cmp old new k v → IsKept new (by_number new.entries) edges sources more
kept_more {old} {new} {edges} {sources} {incoming} {more} {k} {v} none empty is_more kept step =
    let nodes : List TraceGraphNode = by_number old.entries in
    let grown : by_number new.entries ≡ nodes ++ k ∷ [] = list_grows kept.numbered step in
    let lists = kept.lists in
    let longer = ap length is_more ∙ length-append incoming (none ∷ []) in
    let longer_too = ap length grown ∙ length-append nodes (k ∷ []) in
    record {
      numbered = without_pending (next_numbering tied_nodes kept.numbered step);
      lists = omega arith;
      places = places_more nodes (by_number new.entries) edges incoming more none k grown empty is_more kept.lists (is_fresh kept.numbered k step.absent) kept.ends kept.places;
      counted = kept.counted;
      from = λ j n e at_e at_s. ap (λ (xs : List TraceGraphNode). slice_get xs n) grown ∙ slice_get-longer nodes (k ∷ []) n e.from (kept.from j n e at_e at_s);
      differ = kept.differ;
      ends = ends_more nodes (by_number new.entries) edges k grown kept.ends;
    }

-- a graph with the same entries
pub kept_same : {old new : BTreeMap TraceGraphNode ℕ} {edges : List TraceGraphEdge} {sources : List ℕ} {incoming now : List (Vec ℕ Global)} → new.entries ≡ old.entries → now ≡ incoming → IsKept old (by_number old.entries) edges sources incoming → IsKept new (by_number new.entries) edges sources now
kept_same {old} {new} {edges} {sources} {incoming} {now} same same_lists kept =
    let lookup_same : (k : TraceGraphNode) → get node_ord.ghosts.cmp new k ≡ get node_ord.ghosts.cmp old k = λ k. ap (λ es. lookup (is_at (node_ord.ghosts.cmp k)) es) same in
    let P : List (TraceGraphNode × ℕ) → Type 0 = λ es. (n : ℕ) → length es ≤ n → key_numbered n es ≡ None in
    let Q : List (TraceGraphNode × ℕ) → Type 0 = λ es. length (by_number es) ≡ length es in
    let R : List (TraceGraphNode × ℕ) → Type 0 = λ es. IsKept new (by_number es) edges sources incoming in
    let S : List (Vec ℕ Global) → Type 0 = λ xs. IsKept new (by_number new.entries) edges sources xs in
    subst S (sym same_lists) (subst R (sym same) (record {
      numbered = without_pending {pending = []} (record {
        found = λ k n h. ap (λ es. slice_get (by_number es) n) same ∙ kept.numbered.found k n (sym (lookup_same k) ∙ h);
        numbered = λ k n h. lookup_same k ∙ kept.numbered.numbered k n (sym (ap (λ es. slice_get (by_number es) n) same) ∙ h);
        outside = subst P (sym same) kept.numbered.outside;
        whole = subst Q (sym same) kept.numbered.whole;
        fewer = omega arith;
        waits = let whole : length (by_number new.entries) ≡ length new.entries = subst Q (sym same) kept.numbered.whole in
            sym (drop_all (length new.entries - length {A = TraceGraphNode} []) (by_number new.entries) (omega (arith, whole)));
      });
      lists = kept.lists;
      places = kept.places;
      counted = kept.counted;
      from = kept.from;
      differ = kept.differ;
      ends = kept.ends;
    }))

-- ---- one edge more
-- a list that did not change is put in its own place
same_put : (lists : List (Vec ℕ Global)) (t : ℕ) (before after : Vec ℕ Global) → t < length lists → before ≡ get_or lists t before → after.items ≡ before.items → AreSameLists lists (slice_set lists t after)
same_put lists t before after within is same n = list_changed lists t after within n ∙ elim (cases_Bool (t == n)) [
  | inl here ↦ ap (λ b. cond b after.items (list_at lists n)) here ∙ same ∙ sym (list_there lists t before within is) ∙ ap (list_at lists) (eqb-true t n here)
  | inr other ↦ ap (λ b. cond b after.items (list_at lists n)) other
]

-- a graph with the same edges
pub kept_refused : {numbers : BTreeMap TraceGraphNode ℕ} {nodes : List TraceGraphNode} {edges now : List TraceGraphEdge} {sources same : List ℕ} {lists : List (Vec ℕ Global)} (t : ℕ) (before after : Vec ℕ Global) → now ≡ edges → same ≡ sources → t < length lists → before ≡ get_or lists t before → after.items ≡ before.items → IsKept numbers nodes edges sources lists → IsKept numbers nodes now same (slice_set lists t after)
kept_refused {numbers} {nodes} {edges} {now} {sources} {same} {lists} t before after same_edges same_sources within is same_items kept =
    let P : List TraceGraphEdge → Type 0 = λ es. IsKept numbers nodes es same (slice_set lists t after) in
    let Q : List ℕ → Type 0 = λ ks. IsKept numbers nodes edges ks (slice_set lists t after) in
    subst P (sym same_edges) (subst Q (sym same_sources) (record {
      numbered = kept.numbered;
      lists = length-set lists t after ∙ kept.lists;
      places = λ n node at. same_put lists t before after within is same_items n ∙ kept.places n node at;
      counted = kept.counted;
      from = kept.from;
      differ = kept.differ;
      ends = kept.ends;
    }))

-- a graph with an edge more
pub kept_pushed : {numbers : BTreeMap TraceGraphNode ℕ} {edges now : List TraceGraphEdge} {sources more : List ℕ} {lists : List (Vec ℕ Global)} (s t n : ℕ) (e : TraceGraphEdge) (before after : Vec ℕ Global) → n ≡ length edges → now ≡ edges ++ e ∷ [] → more ≡ sources ++ s ∷ [] →
    t < length lists → before ≡ get_or lists t before → after.items ≡ before.items ++ n ∷ [] → slice_get (by_number numbers.entries) s ≡ Some e.from → slice_get (by_number numbers.entries) t ≡ Some e.to → ¬ Contains (map plain edges) (plain e) →
    IsKept numbers (by_number numbers.entries) edges sources lists → IsKept numbers (by_number numbers.entries) now more (slice_set lists t after)
kept_pushed {numbers} {edges} {now} {sources} {more} {lists} s t n e before after is_n is_now is_more within is pushed from to fresh kept =
    let nodes : List TraceGraphNode = by_number numbers.entries in
    let new : List (Vec ℕ Global) = slice_set lists t after in
    let P : List TraceGraphEdge → Type 0 = λ es. IsKept numbers nodes es more new in
    let Q : List ℕ → Type 0 = λ ks. IsKept numbers nodes (edges ++ e ∷ []) ks new in
    let D : List PlainEdge → Type 0 = AllDiffer in
    let counted = kept.counted in
    let longer = length-append sources (s ∷ []) in
    let longer_too = length-append edges (e ∷ []) in
    subst P (sym is_now) (subst Q (sym is_more) (record {
      numbered = kept.numbered;
      lists = length-set lists t after ∙ kept.lists;
      places = places_pushed nodes edges lists new t n e (all_differ kept.numbered) to is_n (listed_more lists lists t before after n (λ k. refl) within is pushed) kept.places;
      counted = omega arith;
      from = sources_pushed nodes edges sources s e from kept.counted kept.from;
      differ = subst D (sym (plain_push edges e)) (differ_push (map plain edges) (plain e) kept.differ fresh);
      ends = ends_push nodes edges e kept.ends (contains_at nodes e.from s from) (contains_at nodes e.to t to);
    }))

-- ---- looking up
-- a node with a number has a list
pub list_within : {numbers : BTreeMap TraceGraphNode ℕ} {edges : List TraceGraphEdge} {sources : List ℕ} {lists : List (Vec ℕ Global)} (n : ℕ) (node : TraceGraphNode) → slice_get (by_number numbers.entries) n ≡ Some node → IsKept numbers (by_number numbers.entries) edges sources lists → n < length lists
list_within {numbers} n node at kept = let within = slice_get_within (by_number numbers.entries) n node at in let lists = kept.lists in omega arith

-- the number of the source of an edge is that of a node
pub source_there : {numbers : BTreeMap TraceGraphNode ℕ} {edges : List TraceGraphEdge} {sources : List ℕ} {lists : List (Vec ℕ Global)} (k n : ℕ) → slice_get sources k ≡ Some n → IsKept numbers (by_number numbers.entries) edges sources lists →
    (node : TraceGraphNode) × (slice_get (by_number numbers.entries) n ≡ Some node) × (source_of (slice_get edges k) ≡ Some node)
source_there {numbers} {edges} {sources} k n at kept =
    let within = slice_get_within sources k n at in
    let counted = kept.counted in
    let e = filled edges k (omega arith) in
    (e.0.from, kept.from k n e.0 e.1 at, ap source_of e.1)

-- edges come from one node exactly if the numbers of their sources are equal
pub one_source : (nodes : List TraceGraphNode) (a b : ℕ) (first second : Option TraceGraphNode) → AllDiffer nodes → (x : TraceGraphNode) × (slice_get nodes a ≡ Some x) × (first ≡ Some x) → (y : TraceGraphNode) × (slice_get nodes b ≡ Some y) × (second ≡ Some y) → (a == b) ≡ are_one first second
one_source nodes a b first second differ x y =
    same_number nodes a b x.0 y.0 differ x.1 y.1 ∙ ap (are_one (Some x.0)) (sym y.2) ∙ ap (λ o. are_one o second) (sym x.2)

-- no edge leads to a node without a number
pub none_to : {numbers : BTreeMap TraceGraphNode ℕ} {edges : List TraceGraphEdge} {sources : List ℕ} {lists : List (Vec ℕ Global)} (node : TraceGraphNode) → get node_ord.ghosts.cmp numbers node ≡ None → IsKept numbers (by_number numbers.entries) edges sources lists → [] ≡ places_from 0 node edges
none_to {numbers} {edges} node absent kept = sym (no_places (by_number numbers.entries) edges node kept.ends (is_fresh kept.numbered node absent))

pub to_source : (graph : Graph) (o : Option TraceGraphEdge) (node : TraceGraphNode) → source_of o ≡ Some node → numbers_to graph node ≡ numbers_to_source graph o
to_source graph None node is = cc
to_source graph (Some e) node is = ap (numbers_to graph) (sym (same_some e.from node is))
