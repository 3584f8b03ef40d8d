-- The paths that are listed are the example paths, each once. The number of nodes cuts nothing off:
-- a path that passes no node twice passes no more than there are.
use Rattle.std.proofs.Common.{◌≡◌, ℕ, suc, ◌≤◌, ◌↔◌, inl, inr, Bool, true, false, ◌||◌, cond, List, [], ◌∷◌, length, map, reverse, refl, sym, ◌∙◌, ap, subst, arith}
use Rattle.std.specs.Prelude.{Contains, Option, Some, None, Ok, Err, IfOk}
use Rattle.std.specs.declared.result.Result.{Result}
use Rattle.std.proofs.lemmas.Bool.{or_cases}
use mathlib.Core.Bool.{true≢false}
use Rattle.lalrpop_base.specs.Words.{Exactly, AllDiffer}
use Rattle.lalrpop_collections.proofs.theory.lists.Lists.{contains-cons, contains-nil, contains_head, contains_tail, contains_place, place_contains, same_some, some≢none, contains_map}
use Rattle.lalrpop_collections.proofs.theory.lists.Members.{pigeonhole, of_flat, Contains-reverse, Contains-from_reverse}
use Rattle.lalrpop_collections.proofs.theory.lists.Places.{apart_from_differ}
use Rattle.lalrpop_collections.proofs.theory.lists.Apart.{Apart, apart_from, apart_to}
use Rattle.lalrpop_traces.proofs.theory.traces.PathLists.{apart_reverse, apart_flat_map}
use Rattle.lalrpop_traces.proofs.theory.traces.Paths.{IsContinuedBy, over_sound, over_has, over_parts, over_apart}
use Rattle.lalrpop_traces.proofs.theory.traces.TraceGraphs.{place_sound, place_complete}
use Rattle.lalrpop_traces.specs.contracts.trace.node.TraceGraphNodeEq.TheImpl as node_equality
use Rattle.lalrpop_traces.specs.contracts.trace.node.TraceGraphNodeExact.TheImpl as node_exactly
use Rattle.lalrpop_traces.specs.contracts.trace.node.TraceGraphNodePartialEq.TheImpl as node_eq
use Rattle.lalrpop_traces.specs.Words.{IsGraph, places_from, node_count, numbers_to, numbers_to_source, edge_numbers_to_source, edge_of, source_of, target_node, source}
use Rattle.lalrpop_traces.specs.Words.{target, are_one, comes_again, over, paths, passed, GoesBack, IsPath}
use Rattle.lalrpop_traces.specs.declared.trace.node.TraceGraphNode.{TraceGraphNode}
use Rattle.lalrpop_traces.specs.declared.trace.trace_graph.TraceGraph.{TraceGraph}
use Rattle.lalrpop_traces.specs.declared.trace.trace_graph.TraceGraphEdge.{TraceGraphEdge}
use Rattle.lalrpop_collections.proofs.theory.lists.Bounded.{in_flat_map}

-- the test is true for equal nodes
ones : (eq : (a : TraceGraphNode) → node_eq.ghosts.eq a a ≡ true) (a : TraceGraphNode) (x y : Option TraceGraphNode) → x ≡ Some a → y ≡ Some a → are_one x y ≡ true
ones eq a x y e f = subst (λ (z : Option TraceGraphNode). are_one z y ≡ true) (sym e) (subst (λ (z : Option TraceGraphNode). are_one (Some a) z ≡ true) (sym f) (eq a))

-- it is true only for equal nodes
one : Exactly node_eq.ghosts.eq → (x y : Option TraceGraphNode) → are_one x y ≡ true → x ≡ y
one exact None y h = absurd (true≢false (sym h))
one exact (Some a) None h = absurd (true≢false (sym h))
one exact (Some a) (Some b) h = ap Some (exact a b h)

-- an edge with a target has a source
has_source : (o : Option TraceGraphEdge) (a : TraceGraphNode) → target_node o ≡ Some a → (e : TraceGraphEdge) × (o ≡ Some e)
has_source None a e = absurd (some≢none (sym e))
has_source (Some e) a h = (e, refl)

numbers_there : (g : TraceGraph) (o : Option TraceGraphEdge) (j : ℕ) → Contains (numbers_to_source g o) j → (e : TraceGraphEdge) × (o ≡ Some e)
numbers_there g None j c = absurd (contains-nil c)
numbers_there g (Some e) j c = (e, refl)

-- ---- the numbers of the edges to a node
behind : (n : ℕ) (node : TraceGraphNode) (edges : List TraceGraphEdge) (k : ℕ) → Contains (places_from n node edges) k → n ≤ k
behind n node edges k c =
    let at = contains_place (places_from n node edges) k c in
    let h = place_sound n node edges at.0 k at.1 in
    omega (arith, h.2)

-- none is there twice
places_apart : (n : ℕ) (node : TraceGraphNode) (edges : List TraceGraphEdge) → Apart (places_from n node edges)
places_apart n node [] = tt
places_apart n node (e ∷ edges) = apart_by (node_eq.ghosts.eq e.to node) n (places_from (suc n) node edges) (λ k c. behind (suc n) node edges k c) (places_apart (suc n) node edges)
  where
    apart_by : (b : Bool) (n : ℕ) (rest : List ℕ) → ((k : ℕ) → Contains rest k → suc n ≤ k) → Apart rest → Apart (cond b (n ∷ rest) rest)
    apart_by true n rest h a = (λ c. omega (arith, h n c), a)
    apart_by false n rest h a = a

-- they are the numbers of the edges that lead to the node
leads_to : (g : TraceGraph) (a : TraceGraphNode) (k : ℕ) → Contains (numbers_to g a) k → target g k ≡ Some a
leads_to g a k c =
    let at = contains_place (numbers_to g a) k c in
    let h = place_sound 0 a g.edges at.0 k at.1 in
    let same : h.0 ≡ k = omega (arith, h.2) in
    ap (target g) (sym same) ∙ ap target_node h.3 ∙ ap Some h.4

to_leads : (g : TraceGraph) (a : TraceGraphNode) (k : ℕ) → target g k ≡ Some a → Contains (numbers_to g a) k
to_leads g a k t =
    let s = has_source (edge_of g k) a t in
    let to : s.0.to ≡ a = same_some (ap target_node (sym s.1) ∙ t) in
    let h = place_complete 0 a g.edges k s.0 s.1 to in
    place_contains (numbers_to g a) h.0 k (h.1 ∙ ap (λ (m : ℕ). Some m) (omega arith))

-- what the proof needs of a graph: its nodes, the test of equal nodes, and the numbers of the edges
-- to each node
record IsListed (g : TraceGraph) (nodes : List TraceGraphNode) : Type 0 where
  exact : Exactly node_eq.ghosts.eq
  same : (a : TraceGraphNode) → node_eq.ghosts.eq a a ≡ true
  leads : (a : TraceGraphNode) (k : ℕ) → Contains (numbers_to g a) k ↔ (target g k ≡ Some a)
  once : (a : TraceGraphNode) → AllDiffer (numbers_to g a)
  count : node_count g ≡ length nodes
  ends : (k : ℕ) (e : TraceGraphEdge) → edge_of g k ≡ Some e → Contains nodes e.from

listed_graph : (g : TraceGraph) → IsGraph g → IsListed g g.nodes
listed_graph g ok = record {
  exact = node_exactly.Laws.exact-law;
  same = node_equality.Laws.laws-law.refl;
  leads = λ a k. (leads_to g a k, to_leads g a k);
  once = λ a. apart_to (numbers_to g a) (places_apart 0 a g.edges);
  count = refl;
  ends = λ k e at. (ok.ends k e at).0;
}

module _ (g : TraceGraph) (nodes : List TraceGraphNode) (listed : IsListed g nodes) where
  -- an edge is among those to the source of another one if it leads to that
  leads_from : (k j : ℕ) → Contains (edge_numbers_to_source g k) j → target g j ≡ source g k
  leads_from k j c =
      let s = numbers_there g (edge_of g k) j c in
      let c' = subst (λ (o : Option TraceGraphEdge). Contains (numbers_to_source g o) j) s.1 c in
      (listed.leads s.0.from j).0 c' ∙ ap source_of (sym s.1)

  from_leads : (k j : ℕ) (e : TraceGraphEdge) → edge_of g k ≡ Some e → target g j ≡ source g k → Contains (edge_numbers_to_source g k) j
  from_leads k j e at h =
      subst (λ (o : Option TraceGraphEdge). Contains (numbers_to_source g o) j) (sym at) ((listed.leads e.from j).1 (h ∙ ap source_of at))

  apart_numbers : (k : ℕ) → Apart (edge_numbers_to_source g k)
  apart_numbers k = at (edge_of g k)
    where
      at : (o : Option TraceGraphEdge) → Apart (numbers_to_source g o)
      at None = tt
      at (Some e) = apart_from (numbers_to g e.from) (listed.once e.from)

  -- none of the edges that were taken comes from a node
  again_none : (k : ℕ) (taken : List ℕ) (a : TraceGraphNode) → source g k ≡ Some a → comes_again g k taken ≡ false → Contains (map (source g) taken) (source g k) → ⊥
  again_none k [] a s h c = contains-nil c
  again_none k (j ∷ taken) a s h c = elim (contains-cons (source g j) (map (source g) taken) (source g k) c) [
    | inl e ↦ true≢false (sym (ones listed.same a (source g j) (source g k) (e ∙ s) s) ∙ or_first (are_one (source g j) (source g k)) (comes_again g k taken) h)
    | inr d ↦ again_none k taken a s (or_second (are_one (source g j) (source g k)) (comes_again g k taken) h) d
  ]
    where
      or_first : (b c : Bool) → (b || c) ≡ false → b ≡ false
      or_first true c h = h
      or_first false c h = refl

      or_second : (b c : Bool) → (b || c) ≡ false → c ≡ false
      or_second true c h = absurd (true≢false h)
      or_second false c h = h

  some_again : (k : ℕ) (taken : List ℕ) → comes_again g k taken ≡ true → Contains (map (source g) taken) (source g k)
  some_again k [] h = absurd (true≢false (sym h))
  some_again k (j ∷ taken) h = elim (or_cases (are_one (source g j) (source g k)) (comes_again g k taken) h) [
    | inl e ↦ subst (λ (x : Option TraceGraphNode). Contains (map (source g) (j ∷ taken)) x) (one listed.exact (source g j) (source g k) e) (contains_head (source g j) (map (source g) taken))
    | inr d ↦ contains_tail (source g j) (map (source g) taken) (source g k) (some_again k taken d)
  ]

  none_again : (b : Bool) → (b ≡ true → ⊥) → b ≡ false
  none_again true h = absurd (h refl)
  none_again false h = refl

  -- edges that go on are a path backwards
  goes : (here : Option TraceGraphNode) (taken : List ℕ) (k : ℕ) (rest : List ℕ) → target g k ≡ here → IsContinuedBy g taken k rest → GoesBack g here (k ∷ rest)
  goes here taken k [] t h = (t, h)
  goes here taken k (j ∷ rest) t h = (t, h.0, goes (source g k) (k ∷ taken) j rest (leads_from k j h.2) h.3)

  -- it passes nodes of the graph, none twice, and none that was passed before
  passes : (taken : List ℕ) (k : ℕ) (rest : List ℕ) → IsContinuedBy g taken k rest → Apart (passed g (k ∷ rest)) × ((x : Option TraceGraphNode) → Contains (passed g (k ∷ rest)) x → Contains (map (source g) taken) x → ⊥)
  passes taken k [] h = (tt, λ x c d. contains-nil c)
  passes taken k (j ∷ rest) h =
      let more = passes (k ∷ taken) j rest h.3 in
      let s = numbers_there g (edge_of g k) j h.2 in (
        (λ c. more.1 (source g k) c (contains_head (source g k) (map (source g) taken)), more.0),
        λ x c d. elim (contains-cons (source g k) (passed g (j ∷ rest)) x c) [
          | inl e ↦ again_none k taken s.0.from (ap source_of s.1) h.1 (subst (λ (y : Option TraceGraphNode). Contains (map (source g) taken) y) (sym e) d)
          | inr f ↦ more.1 x f (contains_tail (source g k) (map (source g) taken) x d)
        ],
      )

  -- a path backwards is such edges
  goes_on : (here : TraceGraphNode) (taken : List ℕ) (k : ℕ) (rest : List ℕ) → GoesBack g (Some here) (k ∷ rest) → Apart (passed g (k ∷ rest)) → ((x : Option TraceGraphNode) → Contains (passed g (k ∷ rest)) x → Contains (map (source g) taken) x → ⊥) → IsContinuedBy g taken k rest
  goes_on here taken k [] b a d = b.1
  goes_on here taken k (j ∷ rest) b a d =
      let s = has_source (edge_of g k) here b.0 in
      let from : source g k ≡ Some s.0.from = ap source_of s.1 in
      let back : GoesBack g (source g k) (j ∷ rest) = b.2 in
      let t : target g j ≡ source g k = first_target (source g k) j rest back in (
        b.1,
        none_again (comes_again g k taken) (λ e. d (source g k) (contains_head (source g k) (passed g (j ∷ rest))) (some_again k taken e)),
        from_leads k j s.0 s.1 t,
        goes_on s.0.from (k ∷ taken) j rest (subst (λ (x : Option TraceGraphNode). GoesBack g x (j ∷ rest)) from back) a.1 (λ x c f. elim (contains-cons (source g k) (map (source g) taken) x f) [
          | inl e ↦ a.0 (subst (λ (y : Option TraceGraphNode). Contains (passed g (j ∷ rest)) y) (sym e) c)
          | inr h ↦ d x (contains_tail (source g k) (passed g (j ∷ rest)) x c) h
        ]),
      )
    where
      first_target : (here : Option TraceGraphNode) (j : ℕ) (rest : List ℕ) → GoesBack g here (j ∷ rest) → target g j ≡ here
      first_target here j [] b = b.0
      first_target here j (i ∷ rest) b = b.0

  -- ---- the number of nodes cuts nothing off
  passed_length : (k : ℕ) (rest : List ℕ) → length (passed g (k ∷ rest)) ≡ length rest
  passed_length k [] = refl
  passed_length k (j ∷ rest) = ap suc (passed_length j rest)

  passed_nodes : (taken : List ℕ) (k : ℕ) (rest : List ℕ) → IsContinuedBy g taken k rest → (x : Option TraceGraphNode) → Contains (passed g (k ∷ rest)) x → Contains (map Some nodes) x
  passed_nodes taken k [] h x c = absurd (contains-nil c)
  passed_nodes taken k (j ∷ rest) h x c =
      let s = numbers_there g (edge_of g k) j h.2 in
      elim (contains-cons (source g k) (passed g (j ∷ rest)) x c) [
        | inl e ↦ subst (λ (y : Option TraceGraphNode). Contains (map Some nodes) y) (ap source_of (sym s.1) ∙ e) (contains_map Some nodes s.0.from (listed.ends k s.0 s.1))
        | inr f ↦ passed_nodes (k ∷ taken) j rest h.3 x f
      ]

  some_length : (xs : List TraceGraphNode) → length (map Some xs) ≡ length xs
  some_length [] = refl
  some_length (x ∷ xs) = ap suc (some_length xs)

  few : (taken : List ℕ) (k : ℕ) (rest : List ℕ) → IsContinuedBy g taken k rest → length rest ≤ node_count g
  few taken k rest h =
      let apart = apart_from_differ (passed g (k ∷ rest)) (apart_to (passed g (k ∷ rest)) (passes taken k rest h).0) in
      omega (arith, pigeonhole (passed g (k ∷ rest)) (map Some nodes) apart (passed_nodes taken k rest h), passed_length k rest, some_length nodes, listed.count)

  -- ---- the theorem
  path_listed : (start : TraceGraphNode) (p : List ℕ) → IsPath g start p → Contains (paths g start) p
  path_listed start [] h = absurd h.goes
  path_listed start (k ∷ rest) h =
      let on = goes_on start [] k rest h.goes (apart_from (passed g (k ∷ rest)) h.once) (λ x c d. contains-nil d) in
      let t : target g k ≡ Some start = first_target (Some start) k rest h.goes in
      let f = over g (node_count g) [] in
      in_flat_map f (reverse (numbers_to g start)) k (k ∷ rest) (Contains-reverse (numbers_to g start) k ((listed.leads start k).1 t)) (over_has g (node_count g) [] k rest (few [] k rest on) on)
    where
      first_target : (here : Option TraceGraphNode) (j : ℕ) (rest : List ℕ) → GoesBack g here (j ∷ rest) → target g j ≡ here
      first_target here j [] b = b.0
      first_target here j (i ∷ rest) b = b.0

  listed_path : (start : TraceGraphNode) (p : List ℕ) → Contains (paths g start) p → IsPath g start p
  listed_path start p c =
      let r = of_flat (over g (node_count g) []) (reverse (numbers_to g start)) p c in
      let s = over_sound g (node_count g) [] r.0 p r.2 in
      let t = (listed.leads start r.0).0 (Contains-from_reverse (numbers_to g start) r.0 r.1) in
      let is : IsPath g start (r.0 ∷ s.0) = record { goes = goes (Some start) [] r.0 s.0 t s.2; once = apart_to (passed g (r.0 ∷ s.0)) (passes [] r.0 s.0 s.2).0 } in
      subst (IsPath g start) (sym s.1) is

  only_once : (start : TraceGraphNode) → AllDiffer (paths g start)
  only_once start =
      apart_to (paths g start)
      (apart_flat_map (over g (node_count g) []) (reverse (numbers_to g start)) (apart_reverse (numbers_to g start) (apart_from (numbers_to g start) (listed.once start)))
      (λ k. over_apart g apart_numbers (node_count g) [] k) (λ x y p c d. over_parts g (node_count g) (node_count g) [] x y p c d))

-- the list has exactly the example paths
pub paths_exact : (g : TraceGraph) → IsGraph g → (start : TraceGraphNode) (p : List ℕ) → Contains (paths g start) p ↔ IsPath g start p
paths_exact g ok start p = (listed_path g g.nodes (listed_graph g ok) start p, path_listed g g.nodes (listed_graph g ok) start p)

-- the list has no path twice
pub paths_once : (g : TraceGraph) → IsGraph g → (start : TraceGraphNode) → AllDiffer (paths g start)
paths_once g ok start = only_once g g.nodes (listed_graph g ok) start

pub if_ok : {A E : Type 0} (r : Result A E) (P Q : A → Type 0) → IfOk r P → ((a : A) → P a → Q a) → IfOk r Q
if_ok (Ok a) P Q h f = f a h
if_ok (Err e) P Q h f = tt
