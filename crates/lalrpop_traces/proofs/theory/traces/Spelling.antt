-- A path is spelled edge by edge.
use Rattle.std.proofs.Common.{◌≡◌, ℕ, ◌+◌, ◌-◌, List, [], ◌∷◌, ◌++◌, map, length, refl, sym, ◌∙◌, ap, arith, append_assoc, append-nil}
use Rattle.std.proofs.lemmas.List.{map-append, length-append}
use Rattle.lalrpop_traces.proofs.Types.{Symbol}
use Rattle.lalrpop_traces.specs.Words.{path_of, edge_of, edge_prefix, edge_suffix, prefixes, suffixes, example_reductions, reduced_at}
use Rattle.lalrpop_traces.specs.declared.trace.trace_graph.TraceGraph.{TraceGraph}
use Rattle.lalrpop_traces.specs.declared.trace.enumerator.EnumeratorState.{EnumeratorState}
use Rattle.lalrpop_traces.specs.declared.trace.example.Reduction.{Reduction}
use Rattle.lalrpop_traces.specs.declared.trace.example.ExampleSymbol.{ExampleSymbol}
use Rattle.lalrpop_traces.specs.declared.trace.example.ExampleSymbol.TheVariants.{Symbol as SymbolOf}

none : {X : Type 0} (xs : List X) → length xs ≡ 0 → xs ≡ []
none [] e = refl
none (x ∷ xs) e = absurd (omega (arith, e))

module _ (g : TraceGraph) where
  prefixes_behind : (path : List ℕ) (k : ℕ) → prefixes g (path ++ k ∷ []) ≡ edge_prefix (edge_of g k) ++ prefixes g path
  prefixes_behind [] k = sym (append-nil (edge_prefix (edge_of g k)))
  prefixes_behind (j ∷ path) k = ap (λ xs. xs ++ edge_prefix (edge_of g j)) (prefixes_behind path k) ∙ append_assoc (edge_prefix (edge_of g k)) (prefixes g path) (edge_prefix (edge_of g j))

  prefixes_last : (path : List EnumeratorState) (s : EnumeratorState) → prefixes g (path_of (path ++ s ∷ [])) ≡ edge_prefix (edge_of g s.number) ++ prefixes g (path_of path)
  prefixes_last path s = ap (prefixes g) (map-append (λ (t : EnumeratorState). t.number) path (s ∷ [])) ∙ prefixes_behind (path_of path) s.number

  -- symbols that were pushed, and those that are left
  pushed : (start new : List ExampleSymbol) (p rest whole : List Symbol) (all : List ExampleSymbol) → new ≡ start ++ map SymbolOf p → whole ≡ p ++ rest → start ++ map SymbolOf whole ≡ all → new ++ map SymbolOf rest ≡ all
  pushed start new p rest whole all is split so_far =
      ap (λ xs. xs ++ map SymbolOf rest) is ∙ append_assoc start (map SymbolOf p) (map SymbolOf rest) ∙ ap (λ xs. start ++ xs) (sym (map-append SymbolOf p rest)) ∙ ap (λ xs. start ++ map SymbolOf xs) (sym split) ∙ so_far

  pub prefix_step : (left inner : List EnumeratorState) (s : EnumeratorState) (start new : List ExampleSymbol) (p : List Symbol) (all : List ExampleSymbol) → left ≡ inner ++ s ∷ [] → new ≡ start ++ map SymbolOf p → p ≡ edge_prefix (edge_of g s.number) → start ++ map SymbolOf (prefixes g (path_of left)) ≡ all → new ++ map SymbolOf (prefixes g (path_of inner)) ≡ all
  prefix_step left inner s start new p all e is same so_far =
      pushed start new p (prefixes g (path_of inner)) (prefixes g (path_of left)) all is (ap (λ (p : List EnumeratorState). prefixes g (path_of p)) e ∙ prefixes_last inner s ∙ ap (λ xs. xs ++ prefixes g (path_of inner)) (sym same)) so_far

  pub suffix_step : (left outer : List EnumeratorState) (s : EnumeratorState) (start new : List ExampleSymbol) (p : List Symbol) (all : List ExampleSymbol) → left ≡ s ∷ outer → new ≡ start ++ map SymbolOf p → p ≡ edge_suffix (edge_of g s.number) → start ++ map SymbolOf (suffixes g (path_of left)) ≡ all → new ++ map SymbolOf (suffixes g (path_of outer)) ≡ all
  suffix_step left outer s start new p all e is same so_far =
      pushed start new p (suffixes g (path_of outer)) (suffixes g (path_of left)) all is (ap (λ (p : List EnumeratorState). suffixes g (path_of p)) e ∙ ap (λ xs. xs ++ suffixes g (path_of outer)) (sym same)) so_far

  pub prefixes_done : (left : List EnumeratorState) (symbols all : List ExampleSymbol) → length left ≡ 0 → symbols ++ map SymbolOf (prefixes g (path_of left)) ≡ all → symbols ≡ all
  prefixes_done left symbols all e h = sym (append-nil symbols) ∙ ap (λ (p : List EnumeratorState). symbols ++ map SymbolOf (prefixes g (path_of p))) (sym (none left e)) ∙ h

  pub suffixes_done : (left : List EnumeratorState) (symbols all : List ExampleSymbol) → length left ≡ 0 → symbols ++ map SymbolOf (suffixes g (path_of left)) ≡ all → symbols ≡ all
  suffixes_done left symbols all e h = sym (append-nil symbols) ∙ ap (λ (p : List EnumeratorState). symbols ++ map SymbolOf (suffixes g (path_of p))) (sym (none left e)) ∙ h

  -- the prefixes of a path are those of the edges around the innermost one, and that of this one
  pub before_splits : (left outer : List EnumeratorState) (s : EnumeratorState) (p : List Symbol) (before : ℕ) → left ≡ s ∷ outer → p ≡ edge_prefix (edge_of g s.number) → before ≡ length (prefixes g (path_of left)) → before ≡ length (prefixes g (path_of outer)) + length p
  before_splits left outer s p before e same is =
      is ∙ ap (λ (path : List EnumeratorState). length (prefixes g (path_of path))) e ∙ length-append (prefixes g (path_of outer)) (edge_prefix (edge_of g s.number)) ∙ ap (λ (xs : List Symbol). length (prefixes g (path_of outer)) + length xs) (sym same)

  pub behind_splits : (left outer : List EnumeratorState) (s : EnumeratorState) (p : List Symbol) (behind : ℕ) → left ≡ s ∷ outer → p ≡ edge_suffix (edge_of g s.number) → behind ≡ length (suffixes g (path_of left)) → behind ≡ length p + length (suffixes g (path_of outer))
  behind_splits left outer s p behind e same is =
      is ∙ ap (λ (path : List EnumeratorState). length (suffixes g (path_of path))) e ∙ length-append (edge_suffix (edge_of g s.number)) (suffixes g (path_of outer)) ∙ ap (λ (xs : List Symbol). length xs + length (suffixes g (path_of outer))) (sym same)

  -- one reduction more
  pub reduced_step : (count : ℕ) (left outer : List EnumeratorState) (s : EnumeratorState) (made new all : List Reduction) (start end : ℕ) → left ≡ s ∷ outer → start ≡ length (prefixes g (path_of outer)) → end ≡ count - length (suffixes g (path_of outer)) → new ≡ made ++ reduced_at (edge_of g s.number) start end → made ++ example_reductions g count (path_of left) ≡ all → new ++ example_reductions g count (path_of outer) ≡ all
  reduced_step count left outer s made new all start end e from to is so_far =
      ap (λ (xs : List Reduction). xs ++ example_reductions g count (path_of outer)) (is ∙ ap (λ (n : ℕ). made ++ reduced_at (edge_of g s.number) n end) from ∙ ap (λ (n : ℕ). made ++ reduced_at (edge_of g s.number) (length (prefixes g (path_of outer))) n) to)
      ∙ append_assoc made (reduced_at (edge_of g s.number) (length (prefixes g (path_of outer))) (count - length (suffixes g (path_of outer)))) (example_reductions g count (path_of outer))
      ∙ ap (λ (path : List EnumeratorState). made ++ example_reductions g count (path_of path)) (sym e) ∙ so_far

  pub reduced_done : (count : ℕ) (left : List EnumeratorState) (made all : List Reduction) → length left ≡ 0 → made ++ example_reductions g count (path_of left) ≡ all → made ≡ all
  reduced_done count left made all e h = sym (append-nil made) ∙ ap (λ (path : List EnumeratorState). made ++ example_reductions g count (path_of path)) (sym (none left e)) ∙ h

  -- the symbols from the place of an example on, edge by edge
  pub following_step : (left outer : List EnumeratorState) (s : EnumeratorState) (start new p all : List Symbol) → left ≡ s ∷ outer → new ≡ start ++ p → p ≡ edge_suffix (edge_of g s.number) → start ++ suffixes g (path_of left) ≡ all → new ++ suffixes g (path_of outer) ≡ all
  following_step left outer s start new p all e is same so_far =
      ap (λ xs. xs ++ suffixes g (path_of outer)) is ∙ append_assoc start p (suffixes g (path_of outer)) ∙ ap (λ xs. start ++ (xs ++ suffixes g (path_of outer))) same ∙ ap (λ (path : List EnumeratorState). start ++ suffixes g (path_of path)) (sym e) ∙ so_far

  pub following_done : (left : List EnumeratorState) (symbols all : List Symbol) → length left ≡ 0 → symbols ++ suffixes g (path_of left) ≡ all → symbols ≡ all
  following_done left symbols all e h = sym (append-nil symbols) ∙ ap (λ (path : List EnumeratorState). symbols ++ suffixes g (path_of path)) (sym (none left e)) ∙ h
