-- An example of a path over edges that carry right sides spells a derivation.
use Rattle.std.proofs.Common.{◌≡◌, ℕ, suc, ◌+◌, ◌-◌, ◌≤◌, false, List, [], ◌∷◌, ◌++◌, length, map, take, drop, refl, sym, ◌∙◌, ap, subst, arith, append_assoc, length-append}
use Rattle.std.specs.Prelude.{Option, Some, None}
use Rattle.std.proofs.lemmas.List.{map-append}
use mathlib.Core.Bool.{true≢false}
use Rattle.lalrpop_traces.proofs.Types.{Production, Symbol}
use Rattle.lalrpop_grammar.specs.declared.repr.Symbol.TheVariants.{Nonterminal as NonterminalOf}
use Rattle.lalrpop_collections.proofs.theory.lists.Lists.{same_some, some≢none}
use Rattle.lalrpop_traces.specs.Words.{edge_of, edge_prefix, edge_cursor, edge_suffix, nonterminal_of_node, cursor_list, place_of, prefixes, suffixes, example_place, spelled, example_reductions}
use Rattle.lalrpop_traces.specs.Words.{reduced_at, IsExampleOf, between, IsRightSide, ReduceAround, ReduceAll, SpellsDerivation, CarryRightSides, source_of}
use Rattle.lalrpop_traces.specs.Words.{target_node, source, is_item, GoesBack, IsPath}
use Rattle.lalrpop_traces.specs.traces.Examples.{read}
use Rattle.lalrpop_traces.specs.declared.trace.example.Example.{Example}
use Rattle.lalrpop_traces.specs.declared.trace.example.ExampleSymbol.{ExampleSymbol}
use Rattle.lalrpop_traces.specs.declared.trace.example.ExampleSymbol.TheVariants.{Symbol as SymbolOf, Epsilon}
use Rattle.lalrpop_traces.specs.declared.trace.example.Reduction.{Reduction}
use Rattle.lalrpop_traces.specs.declared.trace.node.TraceGraphNode.{TraceGraphNode}
use Rattle.lalrpop_traces.specs.declared.trace.node.TraceGraphNode.TheVariants.{Nonterminal, Item}
use Rattle.lalrpop_traces.specs.declared.trace.trace_graph.TraceGraph.{TraceGraph}
use Rattle.lalrpop_traces.specs.declared.trace.trace_graph.TraceGraphEdge.{TraceGraphEdge}

-- ---- reading symbols
read_symbols : (xs : List Symbol) → read (map SymbolOf xs) ≡ xs
read_symbols [] = refl
read_symbols (x ∷ xs) = ap (λ ys. x ∷ ys) (read_symbols xs)

length_symbols : (xs : List Symbol) → length (map SymbolOf xs) ≡ length xs
length_symbols [] = refl
length_symbols (x ∷ xs) = ap suc (length_symbols xs)

read_append : (a b : List ExampleSymbol) → read (a ++ b) ≡ read a ++ read b
read_append [] b = refl
read_append (SymbolOf x ∷ a) b = ap (λ ys. x ∷ ys) (read_append a b)
read_append (Epsilon ∷ a) b = read_append a b

read_place : (cursor : Option Symbol) (prefix : List Symbol) → read (place_of cursor prefix) ≡ cursor_list cursor
read_place (Some x) prefix = refl
read_place None [] = refl
read_place None (x ∷ prefix) = refl

drop_front : (front xs : List ExampleSymbol) → drop (length front) (front ++ xs) ≡ xs
drop_front [] [] = refl
drop_front [] (x ∷ xs) = refl
drop_front (y ∷ front) xs = drop_front front xs

take_front : (mid back : List ExampleSymbol) → take (length mid) (mid ++ back) ≡ mid
take_front [] [] = refl
take_front [] (x ∷ back) = refl
take_front (y ∷ mid) back = ap (λ ys. y ∷ ys) (take_front mid back)

-- the symbols of the middle part
between_is : (all front mid back : List ExampleSymbol) (start end : ℕ) → all ≡ front ++ (mid ++ back) → start ≡ length front → end ≡ length front + length mid → between all start end ≡ read mid
between_is all front mid back start end e s t =
    let d : end - start ≡ length mid = omega arith in
    ap (λ n. read (take n (drop start all))) d
    ∙ ap (λ n. read (take (length mid) (drop n all))) s
    ∙ ap (λ xs. read (take (length mid) (drop (length front) xs))) e
    ∙ ap (λ xs. read (take (length mid) xs)) (drop_front front (mid ++ back))
    ∙ ap read (take_front mid back)

-- ---- the symbols of an edge around the part within
module _ (a p s d : List Symbol) (middle : List ExampleSymbol) where
  abbrev whole : List ExampleSymbol
  whole = map SymbolOf (a ++ p) ++ (middle ++ map SymbolOf (s ++ d))

  front_form : whole ≡ map SymbolOf a ++ (map SymbolOf p ++ (middle ++ map SymbolOf (s ++ d)))
  front_form = ap (λ xs. xs ++ (middle ++ map SymbolOf (s ++ d))) (map-append SymbolOf a p) ∙ append_assoc (map SymbolOf a) (map SymbolOf p) (middle ++ map SymbolOf (s ++ d))

  back_form : whole ≡ (map SymbolOf (a ++ p) ++ middle) ++ (map SymbolOf s ++ map SymbolOf d)
  back_form = ap (λ xs. map SymbolOf (a ++ p) ++ (middle ++ xs)) (map-append SymbolOf s d) ∙ sym (append_assoc (map SymbolOf (a ++ p)) middle (map SymbolOf s ++ map SymbolOf d))

  outer_form : whole ≡ map SymbolOf a ++ ((map SymbolOf p ++ (middle ++ map SymbolOf s)) ++ map SymbolOf d)
  outer_form =
      front_form
      ∙ ap (λ xs. map SymbolOf a ++ xs) (
      ap (λ xs. map SymbolOf p ++ (middle ++ xs)) (map-append SymbolOf s d)
      ∙ ap (λ xs. map SymbolOf p ++ xs) (sym (append_assoc middle (map SymbolOf s) (map SymbolOf d)))
      ∙ sym (append_assoc (map SymbolOf p) (middle ++ map SymbolOf s) (map SymbolOf d))
      )

  whole_length : (all : List ExampleSymbol) → all ≡ whole → length all ≡ ((length a + length p) + length middle) + (length s + length d)
  whole_length all e =
      omega (arith, ap length e, length-append (map SymbolOf (a ++ p)) (middle ++ map SymbolOf (s ++ d)), length-append middle (map SymbolOf (s ++ d)), length_symbols (a ++ p), length_symbols (s ++ d), length-append a p, length-append s d)

  -- the symbols before the part within
  before_part : (all : List ExampleSymbol) (start end : ℕ) → all ≡ whole → start ≡ length a → end ≡ length (a ++ p) → between all start end ≡ p
  before_part all start end e f h =
      between_is all (map SymbolOf a) (map SymbolOf p) (middle ++ map SymbolOf (s ++ d)) start end (e ∙ front_form) (omega (arith, f, length_symbols a)) (omega (arith, h, length-append a p, length_symbols a, length_symbols p))
      ∙ read_symbols p

  -- the symbols after the part within
  behind_part : (all : List ExampleSymbol) (start end : ℕ) → all ≡ whole → start ≡ length all - length (s ++ d) → end ≡ length all - length d → between all start end ≡ s
  behind_part all start end e f h =
      let n = whole_length all e in
      let m = length-append (map SymbolOf (a ++ p)) middle in
      between_is all (map SymbolOf (a ++ p) ++ middle) (map SymbolOf s) (map SymbolOf d) start end (e ∙ back_form) (omega (arith, f, n, m, length-append s d, length-append a p, length_symbols (a ++ p)))
      (omega (arith, h, n, m, length-append a p, length_symbols (a ++ p), length_symbols s))
      ∙ read_symbols s

  -- the symbols with the part within
  whole_part : (all : List ExampleSymbol) (start end : ℕ) → all ≡ whole → start ≡ length a → end ≡ length all - length d → between all start end ≡ p ++ (read middle ++ s)
  whole_part all start end e f h =
      let n = whole_length all e in
      let within = map SymbolOf p ++ (middle ++ map SymbolOf s) in
      let m : length within ≡ length p + (length middle + length s) = omega (arith, length-append (map SymbolOf p) (middle ++ map SymbolOf s), length-append middle (map SymbolOf s), length_symbols p, length_symbols s) in
      between_is all (map SymbolOf a) within (map SymbolOf d) start end (e ∙ outer_form) (omega (arith, f, length_symbols a)) (omega (arith, h, n, m, length_symbols a))
      ∙ read_append (map SymbolOf p) (middle ++ map SymbolOf s)
      ∙ ap (λ xs. xs ++ read (middle ++ map SymbolOf s)) (read_symbols p)
      ∙ ap (λ xs. p ++ xs) (read_append middle (map SymbolOf s) ∙ ap (λ xs. read middle ++ xs) (read_symbols s))

-- an edge with a target is there
led : (o : Option TraceGraphEdge) (a : TraceGraphNode) → target_node o ≡ Some a → (e : TraceGraphEdge) × (o ≡ Some e) × (e.to ≡ a)
led None a h = absurd (some≢none (sym h))
led (Some e) a h = (e, refl, same_some h)

-- a node that is not an item is a nonterminal
nonterminal : (x : TraceGraphNode) → is_item (Some x) ≡ false → x ≡ Nonterminal (nonterminal_of_node x)
nonterminal (Nonterminal name) h = refl
nonterminal (Item item) h = absurd (true≢false h)

module _ (g : TraceGraph) (productions : List Production) (carry : CarryRightSides productions g.edges) (all : List ExampleSymbol) where
  right_side : (k : ℕ) (e : TraceGraphEdge) → edge_of g k ≡ Some e → IsRightSide productions (nonterminal_of_node e.from) (edge_prefix (edge_of g k) ++ (cursor_list (edge_cursor (edge_of g k)) ++ edge_suffix (edge_of g k)))
  right_side k e at =
      let P : Option TraceGraphEdge → Type 0 = λ o. IsRightSide productions (nonterminal_of_node e.from) (edge_prefix o ++ (cursor_list (edge_cursor o) ++ edge_suffix o)) in
      subst P (sym at) (carry k e at).right_side

  -- if an edge comes from a nonterminal, the next one leads to it
  next_back : (here : TraceGraphNode) (k j : ℕ) (rest : List ℕ) (e : TraceGraphEdge) → edge_of g k ≡ Some e → GoesBack g (Some here) (k ∷ (j ∷ rest)) → GoesBack g (Some (Nonterminal (nonterminal_of_node e.from))) (j ∷ rest)
  next_back here k j rest e at b =
      let from : source g k ≡ Some e.from = ap source_of at in
      let named = nonterminal e.from (subst (λ (o : Option TraceGraphNode). is_item o ≡ false) from b.1) in
      subst (λ (o : Option TraceGraphNode). GoesBack g o (j ∷ rest)) (from ∙ ap Some named) b.2

  -- the reduction of an edge, with the outer edges after it
  abbrev reduction : List ℕ → TraceGraphEdge → Reduction
  reduction rest e = record { start = length (prefixes g rest); end = length all - length (suffixes g rest); nonterminal = nonterminal_of_node e.from }

  -- one reduction around another
  around_one : (inner : Reduction) (j : ℕ) (rest : List ℕ) (middle : List ExampleSymbol) → target_node (edge_of g j) ≡ Some (Nonterminal inner.nonterminal) → inner.start ≡ length (prefixes g (j ∷ rest)) → inner.end ≡ length all - length (suffixes g (j ∷ rest))
      → all ≡ map SymbolOf (prefixes g (j ∷ rest)) ++ (middle ++ map SymbolOf (suffixes g (j ∷ rest))) → ((e : TraceGraphEdge) → edge_of g j ≡ Some e → ReduceAround productions all (reduction rest e) (example_reductions g (length all) rest))
      → ReduceAround productions all inner (example_reductions g (length all) (j ∷ rest))
  around_one inner j rest middle to s t e more =
      let l = led (edge_of g j) (Nonterminal inner.nonterminal) to in
      let a = prefixes g rest in
      let d = suffixes g rest in
      let p = edge_prefix (edge_of g j) in
      let q = edge_suffix (edge_of g j) in
      let r : Reduction = reduction rest l.0 in
      let cursor : edge_cursor (edge_of g j) ≡ Some (NonterminalOf inner.nonterminal) = ap edge_cursor l.1 ∙ (carry j l.0 l.1).cursor inner.nonterminal l.2 in
      let front : between all r.start inner.start ≡ p = before_part a p q d middle all r.start inner.start e refl s in
      let back : between all inner.end r.end ≡ q = behind_part a p q d middle all inner.end r.end e t refl in
      let side : IsRightSide productions r.nonterminal (p ++ (NonterminalOf inner.nonterminal ∷ q)) = subst (λ (o : Option Symbol). IsRightSide productions r.nonterminal (p ++ (cursor_list o ++ q))) cursor (right_side j l.0 l.1) in
      let P : List Symbol → Type 0 = λ x. IsRightSide productions r.nonterminal (x ++ (NonterminalOf inner.nonterminal ∷ between all inner.end r.end)) in
      let Q : List Symbol → Type 0 = λ x. IsRightSide productions r.nonterminal (p ++ (NonterminalOf inner.nonterminal ∷ x)) in
      let R : Option TraceGraphEdge → Type 0 = λ o. ReduceAround productions all inner (reduced_at o (length a) (length all - length d) ++ example_reductions g (length all) rest) in
      let below : r.start ≤ inner.start = omega (arith, s, length-append a p) in
      let above : inner.end ≤ r.end = omega (arith, t, length-append q d) in
      subst R (sym l.1) (below, above, subst P (sym front) (subst Q (sym back) side), more l.0 l.1)

  -- all reductions around one
  around : (inner : Reduction) (j : ℕ) (rest : List ℕ) (middle : List ExampleSymbol) → GoesBack g (Some (Nonterminal inner.nonterminal)) (j ∷ rest) → inner.start ≡ length (prefixes g (j ∷ rest)) → inner.end ≡ length all - length (suffixes g (j ∷ rest))
      → all ≡ map SymbolOf (prefixes g (j ∷ rest)) ++ (middle ++ map SymbolOf (suffixes g (j ∷ rest))) → ReduceAround productions all inner (example_reductions g (length all) (j ∷ rest))
  around inner j [] middle b s t e = around_one inner j [] middle b.0 s t e (λ f at. tt)
  around inner j (i ∷ rest) middle b s t e =
      around_one inner j (i ∷ rest) middle b.0 s t e (λ f at.
      around (reduction (i ∷ rest) f) i rest (map SymbolOf (edge_prefix (edge_of g j)) ++ (middle ++ map SymbolOf (edge_suffix (edge_of g j)))) (next_back (Nonterminal inner.nonterminal) j i rest f at b) refl refl
      (e ∙ outer_form (prefixes g (i ∷ rest)) (edge_prefix (edge_of g j)) (edge_suffix (edge_of g j)) (suffixes g (i ∷ rest)) middle))

  -- the innermost reduction
  innermost_one : (k : ℕ) (rest : List ℕ) (e : TraceGraphEdge) → edge_of g k ≡ Some e → all ≡ spelled g (k ∷ rest) → ReduceAround productions all (reduction rest e) (example_reductions g (length all) rest) → ReduceAll productions all (example_reductions g (length all) (k ∷ rest))
  innermost_one k rest e at is more =
      let a = prefixes g rest in
      let d = suffixes g rest in
      let p = edge_prefix (edge_of g k) in
      let q = edge_suffix (edge_of g k) in
      let r : Reduction = reduction rest e in
      let middle = example_place g (k ∷ rest) in
      let part : between all r.start r.end ≡ p ++ (cursor_list (edge_cursor (edge_of g k)) ++ q) = whole_part a p q d middle all r.start r.end is refl refl ∙ ap (λ xs. p ++ (xs ++ q)) (read_place (edge_cursor (edge_of g k)) p) in
      let R : Option TraceGraphEdge → Type 0 = λ o. ReduceAll productions all (reduced_at o (length a) (length all - length d) ++ example_reductions g (length all) rest) in
      let within : r.start ≤ r.end = omega (arith, whole_length a p q d middle all is) in
      subst R (sym at) (within, subst (λ (xs : List Symbol). IsRightSide productions r.nonterminal xs) (sym part) (right_side k e at), more)

  all_reduce : (start : TraceGraphNode) (path : List ℕ) → GoesBack g (Some start) path → all ≡ spelled g path → ReduceAll productions all (example_reductions g (length all) path)
  all_reduce start [] b is = absurd b
  all_reduce start (k ∷ []) b is = let l = led (edge_of g k) start b.0 in innermost_one k [] l.0 l.1 is tt
  all_reduce start (k ∷ (j ∷ rest)) b is =
      let l = led (edge_of g k) start b.0 in
      innermost_one k (j ∷ rest) l.0 l.1 is (
      around (reduction (j ∷ rest) l.0) j rest (map SymbolOf (edge_prefix (edge_of g k)) ++ (example_place g (k ∷ (j ∷ rest)) ++ map SymbolOf (edge_suffix (edge_of g k)))) (next_back start k j rest l.0 l.1 b) refl refl
      (is ∙ outer_form (prefixes g (j ∷ rest)) (edge_prefix (edge_of g k)) (edge_suffix (edge_of g k)) (suffixes g (j ∷ rest)) (example_place g (k ∷ (j ∷ rest))))
      )

-- the example of a path spells a derivation
pub derivation : (g : TraceGraph) (productions : List Production) (start : TraceGraphNode) (path : List ℕ) (example : Example) → CarryRightSides productions g.edges → IsPath g start path → IsExampleOf g path example → SpellsDerivation productions example
derivation g productions start path example carry is_path is =
    let made = all_reduce g productions carry (spelled g path) start path is_path.goes refl in
    subst (λ (rs : List Reduction). ReduceAll productions example.symbols.items rs) (sym is.reductions) (subst (λ (xs : List ExampleSymbol). ReduceAll productions xs (example_reductions g (length (spelled g path)) path)) (sym is.symbols) made)
