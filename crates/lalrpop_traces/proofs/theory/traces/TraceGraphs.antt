-- The graph of a trace: its nodes, its edges, and the places of these.
use Rattle.std.proofs.Common.{◌≡◌, ℕ, zero, suc, ◌+◌, inl, inr, Bool, true, false, cond, List, [], ◌∷◌, ◌++◌, map, length, refl, sym, ◌∙◌, ap, subst, arith, IsTrue, ◌↔◌, Result, Ok, Err}
use Rattle.std.specs.Prelude.{slice_get, OnOk, OnErr, ◌⊎◌, Option, Some, None, Contains, is_some, ◌&&◌, option_copied}
use Rattle.std.specs.Borrow.{Bor}
use Rattle.std.specs.Option.{option_eq}
use Rattle.std.specs.BTreeMap.{BTreeMap, get}
use Rattle.std.specs.declared.alloc.Global.{Global}
use Rattle.std.specs.declared.vec.Vec.{Vec}
use Rattle.std.specs.declared.cmp.Ordering.TheVariants.{Equal}
use Rattle.std.proofs.lemmas.List.{map-append}
use Rattle.std.proofs.lemmas.List.Elements.{Contains-push_cases}
use mathlib.Core.Bool.{true≢false}
use lib.Pointwise.{pointwise}
use Rattle.lalrpop_base.specs.Words.{list_exact, both, by_number, AddsOnce}
use Rattle.lalrpop_grammar.specs.contracts.repr.exact.SymbolExact.TheImpl as symbol_exactly
use Rattle.lalrpop_grammar.specs.contracts.repr.SymbolEq.TheImpl.Laws as symbol_equality
use Rattle.lalrpop_grammar.specs.contracts.repr.SymbolPartialEq.TheImpl as symbol_eq
use Rattle.lalrpop_traces.proofs.Types.{Symbol}
use Rattle.lalrpop_states.specs.declared.lr1_core.symbol_sets.SymbolSets.{SymbolSets}
use Rattle.lalrpop_collections.proofs.theory.states.KernelLemmas.{all_differ, exact_by_cmp}
use Rattle.lalrpop_numbers.proofs.theory.construction.Contained.{Decided, decided, added_or_not}
use Rattle.lalrpop_collections.proofs.theory.lists.Members.{contains_map, place}
use Rattle.lalrpop_collections.proofs.theory.lists.Places.{push_cases, contains_at, same_some}
use Rattle.lalrpop_traces.specs.Words.{Graph, PlainEdge, plain, plain_edge, IsGraph, IsKept, IsFrom, SameLabels, HaveEnds, KeepPlaces, AddsBoth, AddsNoOther, AddsEdge, places_from}
use Rattle.lalrpop_traces.specs.contracts.trace.node.TraceGraphNodeOrd.TheImpl as node_ord
use Rattle.lalrpop_traces.specs.contracts.trace.node.TraceGraphNodeEq.TheImpl as node_equality
use Rattle.lalrpop_traces.specs.contracts.trace.node.TraceGraphNodePartialEq.TheImpl as node_eq
use Rattle.lalrpop_traces.specs.contracts.trace.node.TraceGraphNodeExact.TheImpl as node_exactly
use Rattle.lalrpop_traces.specs.declared.trace.node.TraceGraphNode.{TraceGraphNode}
use Rattle.lalrpop_traces.specs.declared.trace.trace_graph.TraceGraphEdge.{TraceGraphEdge}

-- ---- nodes
-- nodes that compare as equal are equal
pub tied_nodes : (x y : TraceGraphNode) → node_ord.ghosts.cmp x y ≡ Equal → x ≡ y
tied_nodes = exact_by_cmp node_eq.ghosts.eq node_ord.ghosts.cmp node_exactly.Laws.exact-law node_ord.Laws.matches_eq-law

-- if a map has a number for a node, there is such a number
numbered_some : {K : Type 0} (o : Option K) → IsTrue (is_some o) → (k : K) × (o ≡ Some k)
numbered_some None h = absurd (true≢false (sym h))
numbered_some (Some k) h = (k, refl)

module _ {numbers : BTreeMap TraceGraphNode ℕ} {edges : List TraceGraphEdge} {sources : List ℕ} {incoming : List (Vec ℕ Global)} (kept : IsKept numbers (by_number numbers.entries) edges sources incoming) where
  pub kept_graph : IsGraph (record { nodes = by_number numbers.entries; edges = edges })
  kept_graph = record { nodes = all_differ kept.numbered; edges = kept.differ; ends = kept.ends }

  -- a node has a number exactly if it is in the list
  pub kept_node : (node : TraceGraphNode) → IsTrue (is_some (get node_ord.ghosts.cmp numbers node)) ↔ Contains (by_number numbers.entries) node
  kept_node node = (
    λ h. let n = numbered_some (get node_ord.ghosts.cmp numbers node) h in contains_at (by_number numbers.entries) node n.0 (kept.numbered.found node n.0 n.1),
    λ c. let at = place (by_number numbers.entries) node c in ap is_some (kept.numbered.numbered node at.0 at.2),
  )

-- ---- edges
pub ends_push : (nodes : List TraceGraphNode) (edges : List TraceGraphEdge) (e : TraceGraphEdge) → HaveEnds nodes edges → Contains nodes e.from → Contains nodes e.to → HaveEnds nodes (edges ++ e ∷ [])
ends_push nodes edges e ends from to k f at =
    elim (push_cases edges e k f at) [
      | inl before ↦ ends k f before
      | inr here ↦ (subst (Contains nodes) (ap (λ (g : TraceGraphEdge). g.from) here.1) from, subst (Contains nodes) (ap (λ (g : TraceGraphEdge). g.to) here.1) to)
    ]

pub plain_push : (edges : List TraceGraphEdge) (e : TraceGraphEdge) → map plain (edges ++ e ∷ []) ≡ map plain edges ++ plain e ∷ []
plain_push edges e = map-append plain edges (e ∷ [])

-- the places with an edge more
pub places_push : (n : ℕ) (node : TraceGraphNode) (edges : List TraceGraphEdge) (e : TraceGraphEdge) →
    places_from n node (edges ++ e ∷ []) ≡ places_from n node edges ++ cond (node_eq.ghosts.eq e.to node) ((n + length edges) ∷ []) []
places_push n node [] e = ap (λ (k : ℕ). cond (node_eq.ghosts.eq e.to node) (k ∷ []) []) (omega arith)
places_push n node (x ∷ edges) e =
    let rest : List ℕ = cond (node_eq.ghosts.eq e.to node) ((n + length (x ∷ edges)) ∷ []) [] in
    let later : places_from (suc n) node (edges ++ e ∷ []) ≡ places_from (suc n) node edges ++ rest =
    places_push (suc n) node edges e ∙ ap (λ (k : ℕ). places_from (suc n) node edges ++ cond (node_eq.ghosts.eq e.to node) (k ∷ []) []) (omega arith) in
    elim (node_eq.ghosts.eq x.to node) as (λ b. cond b (n ∷ places_from (suc n) node (edges ++ e ∷ [])) (places_from (suc n) node (edges ++ e ∷ [])) ≡ cond b (n ∷ places_from (suc n) node edges) (places_from (suc n) node edges) ++ rest) [
      | true ↦ ap (λ ks. n ∷ ks) later
      | false ↦ later
    ]

-- ---- places
-- a place is that of an edge to the node
pub place_sound : (n : ℕ) (node : TraceGraphNode) (edges : List TraceGraphEdge) (j p : ℕ) → slice_get (places_from n node edges) j ≡ Some p → (k : ℕ) × (e : TraceGraphEdge) × (p ≡ n + k) × (slice_get edges k ≡ Some e) × (e.to ≡ node)
place_sound n node [] j p at = cc
place_sound n node (x ∷ edges) j p at = sound_by n node x edges j p (λ i h. place_sound (suc n) node edges i p h) (node_eq.ghosts.eq x.to node) refl at where
  later : (n : ℕ) (node : TraceGraphNode) (x : TraceGraphEdge) (edges : List TraceGraphEdge) (p : ℕ) → (k : ℕ) × (e : TraceGraphEdge) × (p ≡ suc n + k) × (slice_get edges k ≡ Some e) × (e.to ≡ node) →
      (k : ℕ) × (e : TraceGraphEdge) × (p ≡ n + k) × (slice_get (x ∷ edges) k ≡ Some e) × (e.to ≡ node)
  later n node x edges p h = let same = h.2 in (suc h.0, h.1, omega arith, h.3, h.4)

  sound_by : (n : ℕ) (node : TraceGraphNode) (x : TraceGraphEdge) (edges : List TraceGraphEdge) (j p : ℕ) →
      ((i : ℕ) → slice_get (places_from (suc n) node edges) i ≡ Some p → (k : ℕ) × (e : TraceGraphEdge) × (p ≡ suc n + k) × (slice_get edges k ≡ Some e) × (e.to ≡ node)) →
      (b : Bool) → node_eq.ghosts.eq x.to node ≡ b → slice_get (cond b (n ∷ places_from (suc n) node edges) (places_from (suc n) node edges)) j ≡ Some p →
      (k : ℕ) × (e : TraceGraphEdge) × (p ≡ n + k) × (slice_get (x ∷ edges) k ≡ Some e) × (e.to ≡ node)
  sound_by n node x edges j p ih false e at = later n node x edges p (ih j at)
  sound_by n node x edges zero p ih true e at = (0, x, sym (same_some n p at) ∙ omega arith, refl, node_exactly.Laws.exact-law x.to node e)
  sound_by n node x edges (suc j) p ih true e at = later n node x edges p (ih j at)

-- each edge to the node has its place there
pub place_complete : (n : ℕ) (node : TraceGraphNode) (edges : List TraceGraphEdge) (k : ℕ) (e : TraceGraphEdge) → slice_get edges k ≡ Some e → e.to ≡ node → (j : ℕ) × (slice_get (places_from n node edges) j ≡ Some (n + k))
place_complete n node [] k e at to = cc
place_complete n node (x ∷ edges) zero e at to =
    let same : x ≡ e = same_some x e at in
    let here : node_eq.ghosts.eq x.to node ≡ true = ap (λ (y : TraceGraphNode). node_eq.ghosts.eq x.to y) (sym (ap (λ (g : TraceGraphEdge). g.to) same ∙ to)) ∙ node_equality.Laws.laws-law.refl x.to in
    (0, ap (λ b. slice_get (cond b (n ∷ places_from (suc n) node edges) (places_from (suc n) node edges)) 0) here ∙ ap (λ (m : ℕ). Some m) (omega arith))
place_complete n node (x ∷ edges) (suc k) e at to =
    let rest = place_complete (suc n) node edges k e at to in
    let up : suc n + k ≡ n + suc k = omega arith in
    let there : slice_get (places_from (suc n) node edges) rest.0 ≡ Some (n + suc k) = rest.1 ∙ ap (λ (m : ℕ). Some m) up in
    elim (node_eq.ghosts.eq x.to node) as (λ b. (j : ℕ) × (slice_get (cond b (n ∷ places_from (suc n) node edges) (places_from (suc n) node edges)) j ≡ Some (n + suc k))) [
      | true ↦ (suc rest.0, there)
      | false ↦ (rest.0, there)
    ]

-- ---- labels
pointwise_itself : (xs : List Symbol) → pointwise symbol_eq.ghosts.eq xs xs ≡ true
pointwise_itself [] = refl
pointwise_itself (x ∷ xs) = ap (λ b. b && pointwise symbol_eq.ghosts.eq xs xs) (symbol_equality.laws-law.refl x) ∙ pointwise_itself xs

same_cursor : (a b : Option (Bor Symbol)) → option_eq (λ (x y : Bor Symbol). symbol_eq.ghosts.eq x.now y.now) a b ≡ true → option_copied a ≡ option_copied b
same_cursor None None h = refl
same_cursor None (Some y) h = absurd (true≢false (sym h))
same_cursor (Some x) None h = absurd (true≢false (sym h))
same_cursor (Some x) (Some y) h = ap (λ s. Some s) (symbol_exactly.Laws.exact-law x.now y.now h)

cursor_same : (a b : Option (Bor Symbol)) → option_copied a ≡ option_copied b → option_eq (λ (x y : Bor Symbol). symbol_eq.ghosts.eq x.now y.now) a b ≡ true
cursor_same None None h = refl
cursor_same None (Some y) h = cc
cursor_same (Some x) None h = cc
cursor_same (Some x) (Some y) h = ap (λ s. symbol_eq.ghosts.eq x.now s) (sym (same_some x.now y.now h)) ∙ symbol_equality.laws-law.refl x.now

abbrev labels_eq : SymbolSets → SymbolSets → Bool
labels_eq a b = pointwise symbol_eq.ghosts.eq a.prefix.now b.prefix.now && (option_eq (λ (x y : Bor Symbol). symbol_eq.ghosts.eq x.now y.now) a.cursor b.cursor && pointwise symbol_eq.ghosts.eq a.suffix.now b.suffix.now)

-- labels are equal exactly if they have the same symbols
pub labels_same : (a b : SymbolSets) (r : Bool) → r ≡ labels_eq a b → IsTrue r ↔ SameLabels a b
labels_same a b r is = (
  λ h.
      let middle : Bool = option_eq (λ (x y : Bor Symbol). symbol_eq.ghosts.eq x.now y.now) a.cursor b.cursor in
      let last : Bool = pointwise symbol_eq.ghosts.eq a.suffix.now b.suffix.now in
      let first = both (pointwise symbol_eq.ghosts.eq a.prefix.now b.prefix.now) (middle && last) (sym is ∙ h) in
      let second = both middle last first.1 in
      record { prefix = list_exact symbol_exactly.Laws.exact-law a.prefix.now b.prefix.now first.0; cursor = same_cursor a.cursor b.cursor second.0; suffix = list_exact symbol_exactly.Laws.exact-law a.suffix.now b.suffix.now second.1 },
  λ same.
      let first : pointwise symbol_eq.ghosts.eq a.prefix.now b.prefix.now ≡ true = ap (λ (xs : List Symbol). pointwise symbol_eq.ghosts.eq a.prefix.now xs) (sym same.prefix) ∙ pointwise_itself a.prefix.now in
      let last : pointwise symbol_eq.ghosts.eq a.suffix.now b.suffix.now ≡ true = ap (λ (xs : List Symbol). pointwise symbol_eq.ghosts.eq a.suffix.now xs) (sym same.suffix) ∙ pointwise_itself a.suffix.now in
      is ∙ rw (first, cursor_same a.cursor b.cursor same.cursor, last) refl,
)

-- labels with other suffixes have other symbols
pub labels_differ : (a b : SymbolSets) → pointwise symbol_eq.ghosts.eq a.suffix.now b.suffix.now ≡ false → ¬ SameLabels a b
labels_differ a b other same = true≢false (sym (ap (λ (xs : List Symbol). pointwise symbol_eq.ghosts.eq a.suffix.now xs) (sym same.suffix) ∙ pointwise_itself a.suffix.now) ∙ other)

pub plain_same : (from to : TraceGraphNode) (a b : SymbolSets) → SameLabels a b → plain_edge from to a ≡ plain_edge from to b
plain_same from to a b same =
    ap (λ (xs : List Symbol). let e : PlainEdge = record { from = from; to = to; prefix = xs; cursor = option_copied a.cursor; suffix = a.suffix.now } in e) same.prefix
    ∙ ap (λ (o : Option Symbol). let e : PlainEdge = record { from = from; to = to; prefix = b.prefix.now; cursor = o; suffix = a.suffix.now } in e) same.cursor
    ∙ ap (λ (xs : List Symbol). let e : PlainEdge = record { from = from; to = to; prefix = b.prefix.now; cursor = option_copied b.cursor; suffix = xs } in e) same.suffix

-- an edge to the node, from the other node and with the labels, has the value of these
pub from_plain : (from to : TraceGraphNode) (labels : SymbolSets) (e : TraceGraphEdge) → e.to ≡ to → IsFrom from labels e → plain e ≡ plain_edge from to labels
from_plain from to labels e is_to is = ap (λ (f : TraceGraphNode). plain_edge f e.to e.symbol_sets) is.0 ∙ ap (λ (t : TraceGraphNode). plain_edge from t e.symbol_sets) is_to ∙ plain_same from to e.symbol_sets labels is.1

pub plain_from : (from to : TraceGraphNode) (labels : SymbolSets) (e : TraceGraphEdge) → plain e ≡ plain_edge from to labels → IsFrom from labels e
plain_from from to labels e is = (ap (λ (p : PlainEdge). p.from) is, record { prefix = ap (λ (p : PlainEdge). p.prefix) is; cursor = ap (λ (p : PlainEdge). p.cursor) is; suffix = ap (λ (p : PlainEdge). p.suffix) is })

-- the value of an edge in the list is at a place of the list
pub plain_place : (edges : List TraceGraphEdge) (p : PlainEdge) → Contains (map plain edges) p → (k : ℕ) × (e : TraceGraphEdge) × (slice_get edges k ≡ Some e) × (plain e ≡ p)
plain_place edges p c = let at = place (map plain edges) p c in plain_at edges at.0 p at.2 where
  plain_at : (es : List TraceGraphEdge) (k : ℕ) (p : PlainEdge) → slice_get (map plain es) k ≡ Some p → (k : ℕ) × (e : TraceGraphEdge) × (slice_get es k ≡ Some e) × (plain e ≡ p)
  plain_at [] k p at = cc
  plain_at (e ∷ es) zero p at = (0, e, refl, same_some (plain e) p at)
  plain_at (e ∷ es) (suc k) p at = let h = plain_at es k p at in (suc h.0, h.1, h.2, h.3)

pub plain_there : (edges : List TraceGraphEdge) (k : ℕ) (e : TraceGraphEdge) → slice_get edges k ≡ Some e → Contains (map plain edges) (plain e)
plain_there edges k e at = contains_map plain edges e (contains_at edges e k at)

-- what follows from a clause of a call that succeeded
pub on_ok : {A E : Type 0} (r : Result A E) {P Q : Type 0} → OnOk r P → (P → Q) → OnOk r Q
on_ok (Ok a) h f = f h
on_ok (Err e) h f = tt

-- nodes that were added in turn
pub adds_both : (old middle newer new : List TraceGraphNode) (from to a b : TraceGraphNode) → a ≡ from → b ≡ to → new ≡ newer → AddsOnce old middle a → AddsOnce middle newer b → AddsBoth old new from to
adds_both old middle newer new from to a b is_from is_to same first second =
    (middle, subst (AddsOnce old middle) is_from first, let P : List TraceGraphNode → Type 0 = λ xs. AddsOnce middle xs to in subst P (sym same) (subst (AddsOnce middle newer) is_to second))

-- ---- which nodes were added
pub decided_node : Decided TraceGraphNode
decided_node = decided node_eq.ghosts.eq node_exactly.Laws.exact-law (λ x. node_equality.Laws.laws-law.refl x)

-- each node is an old one, or the one that was added
node_more : (old new : List TraceGraphNode) (a node : TraceGraphNode) → a ≡ node → AddsOnce old new a → (n : TraceGraphNode) → Contains new n → Contains old n ⊎ (n ≡ node)
node_more old new a node is added n c = elim (added_or_not decided_node old new a added) [
  | inl same ↦ inl (let P : List TraceGraphNode → Type 0 = λ xs. Contains xs n in subst P same c)
  | inr grown ↦ elim (Contains-push_cases old a n (let P : List TraceGraphNode → Type 0 = λ xs. Contains xs n in subst P grown c)) [ inl before ↦ inl before | inr here ↦ inr (sym here ∙ is) ]
]

pub no_other_first : (old new : List TraceGraphNode) (from to a : TraceGraphNode) → a ≡ from → AddsOnce old new a → AddsNoOther old new from to
no_other_first old new from to a is added n c = elim (node_more old new a from is added n c) [ inl before ↦ inl before | inr first ↦ inr (inl first) ]

pub no_other_second : (old middle new : List TraceGraphNode) (from to a b : TraceGraphNode) → a ≡ from → AddsOnce old middle a → b ≡ to → AddsOnce middle new b → AddsNoOther old new from to
no_other_second old middle new from to a b is_from first is_to second n c = elim (node_more middle new b to is_to second n c) [ inl before ↦ no_other_first old middle from to a is_from first n before | inr added ↦ inr (inr added) ]

pub no_other_same : (old middle new : List TraceGraphNode) (from to : TraceGraphNode) → AddsNoOther old middle from to → new ≡ middle → AddsNoOther old new from to
no_other_same old middle new from to none same n c = none n (let P : List TraceGraphNode → Type 0 = λ xs. Contains xs n in subst P same c)

-- the nodes stay if an edge is added or an allocation fails
pub nodes_stay : {A E : Type 0} (r : Result A E) (old new : Graph) (edges : List TraceGraphEdge) → OnOk r (new ≡ record { nodes = old.nodes; edges = edges }) → OnErr r (new ≡ old) → new.nodes ≡ old.nodes
nodes_stay (Ok a) old new edges pushed err = ap (λ (g : Graph). g.nodes) pushed
nodes_stay (Err e) old new edges pushed err = ap (λ (g : Graph). g.nodes) err

-- an edge was added after edges of which none has its value
pub adds_edge : (old middle new : List TraceGraphEdge) (e : TraceGraphEdge) → middle ≡ old → new ≡ middle ++ e ∷ [] → ¬ Contains (map plain middle) (plain e) → AddsEdge old new e
adds_edge old middle new e same grown out = inr (λ c. out (let P : List TraceGraphEdge → Type 0 = λ es. Contains (map plain es) (plain e) in subst P (sym same) c), grown ∙ ap (λ es. es ++ e ∷ []) same)

pub has_edge_already : (old new : List TraceGraphEdge) (e : TraceGraphEdge) → new ≡ old → Contains (map plain new) (plain e) → AddsEdge old new e
has_edge_already old new e same c = inl (let P : List TraceGraphEdge → Type 0 = λ es. Contains (map plain es) (plain e) in subst P same c, same)

-- a node that got its number has it among more nodes
pub numbered_still : (nodes more : List TraceGraphNode) (n : ℕ) (a node : TraceGraphNode) → a ≡ node → slice_get nodes n ≡ Some a → KeepPlaces nodes more → slice_get more n ≡ Some node
numbered_still nodes more n a node is at stay = stay n node (at ∙ ap (λ x. Some x) is)

-- the edges of a graph that did not change
pub graph_same : (old new : Graph) (edges : List TraceGraphEdge) → new.nodes ≡ old.nodes → new.edges ≡ edges → edges ≡ old.edges → IsGraph old → IsGraph new
graph_same old new edges nodes same_edges same is =
    let P : List TraceGraphEdge → Type 0 = λ es. IsGraph (record { nodes = new.nodes; edges = es }) in
    let Q : List TraceGraphNode → Type 0 = λ ns. IsGraph (record { nodes = ns; edges = old.edges }) in
    subst P (sym (same_edges ∙ same)) (subst Q (sym nodes) is)
