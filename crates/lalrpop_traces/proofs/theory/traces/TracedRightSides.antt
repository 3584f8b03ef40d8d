-- The edges of a backtrace carry right sides of their sources' nonterminals, so their terminals are
-- the grammar's.
use Rattle.std.proofs.Common.{◌≡◌, ℕ, zero, suc, ◌+◌, ◌<◌, ◌≤◌, List, [], ◌∷◌, ◌++◌, length, get_or, take, drop, refl, sym, ◌∙◌, ap, subst, arith, ⊎_elim}
use Rattle.std.specs.Prelude.{Contains, Option, Some, None, option_copied, slice_get}
use Rattle.std.proofs.lemmas.List.{take-append-drop, drop_all}
use Rattle.std.proofs.lemmas.Option.{slice_get_cases}
use Rattle.lalrpop_base.specs.Words.{Rules, HasKnownTerminals}
use Rattle.lalrpop_traces.proofs.Types.{NonterminalString, Production, Symbol, TerminalString}
use Rattle.lalrpop_grammar.specs.declared.repr.Symbol.TheVariants.{Nonterminal as NonterminalOf, Terminal}
use Rattle.lalrpop_collections.proofs.theory.lists.Lists.{contains_map, place_contains}
use Rattle.lalrpop_states.proofs.theory.closures.Closing.{drop_split}
use Rattle.lalrpop_traces.specs.Words.{nonterminal_of_node, cursor_list, IsRightSide, CarryRightSides, Graph, PlainEdge, plain, AreKnownEdges, Backtrace, IsTraced, first}
use Rattle.lalrpop_traces.specs.Words.{given, GivesEdge, onward, itself, IsTraceOf, dot_edge, dotted, HasOwnProductions, HasOwnTerminals}
use Rattle.lalrpop_traces.specs.traces.Traces.{stops}
use Rattle.lalrpop_traces.specs.declared.trace.node.TraceGraphNode.{TraceGraphNode}
use Rattle.lalrpop_traces.specs.declared.trace.node.TraceGraphNode.TheVariants.{Nonterminal as NameNode, Item as ItemNode}
use Rattle.lalrpop_traces.specs.declared.trace.trace_graph.TraceGraphEdge.{TraceGraphEdge}

-- a list is the elements before a place, the one at it and those after it
around : (xs : List Symbol) (i : ℕ) → take i xs ++ (cursor_list (slice_get xs i) ++ drop (i + 1) xs) ≡ xs
around xs i =
    let one : suc i ≡ i + 1 = omega arith in
    ⊎_elim
    (λ (h : (x : Symbol) × (i < length xs) × (slice_get xs i ≡ Some x) × (get_or xs i x ≡ x)).
    ap (λ o. take i xs ++ (cursor_list o ++ drop (i + 1) xs)) h.2
    ∙ ap (λ k. take i xs ++ (h.0 ∷ drop k xs)) (sym one)
    ∙ ap (λ ys. take i xs ++ ys) (sym (drop_split i xs h.0 h.2))
    ∙ take-append-drop i xs)
    (λ (h : (length xs ≤ i) × (slice_get xs i ≡ None)).
    ap (λ o. take i xs ++ (cursor_list o ++ drop (i + 1) xs)) h.1
    ∙ ap (λ ys. take i xs ++ ys) (drop_all (i + 1) xs (omega (arith, h.0)) ∙ sym (drop_all i xs h.0))
    ∙ take-append-drop i xs)
    (slice_get_cases xs i).1

-- the value of an edge carries a right side of its source's nonterminal
record Carries (productions : List Production) (e : PlainEdge) : Type 0 where
  right_side : IsRightSide productions (nonterminal_of_node e.from) (e.prefix ++ (cursor_list e.cursor ++ e.suffix))
  cursor : (name : NonterminalString) → e.to ≡ NameNode name → e.cursor ≡ Some (NonterminalOf name)

carried : (productions : List Production) (from to : TraceGraphNode) (p : Production) (i : ℕ) → Contains productions p → nonterminal_of_node from ≡ p.nonterminal → ((name : NonterminalString) → to ≡ NameNode name → slice_get p.symbols i ≡ Some (NonterminalOf name)) → Carries productions (dot_edge from to p i)
carried productions from to p i own same cursor = record { right_side = (p, own, sym same, sym (around p.symbols i)); cursor = cursor }

item_is_none : (productions : List Production) (p : Production) (i : ℕ) (name : NonterminalString) → ItemNode (dotted p i) ≡ NameNode name → slice_get p.symbols i ≡ Some (NonterminalOf name)
item_is_none productions p i name e = cc

name_is_cursor : (name other : NonterminalString) (o : Option Symbol) → o ≡ Some (NonterminalOf name) → NameNode name ≡ NameNode other → o ≡ Some (NonterminalOf other)
name_is_cursor name other o at e = at ∙ ap (λ n. Some (NonterminalOf (nonterminal_of_node n))) e

module _ (b : Backtrace) (own : HasOwnProductions b) where
  traced_carries : (e : PlainEdge) → IsTraced b e → Carries b.productions e
  traced_carries e (first is) =
      subst (Carries b.productions) (sym is) (carried b.productions (NameNode b.item.production.nonterminal) (ItemNode (dotted b.item.production b.item.index)) b.item.production b.item.index own.item refl (item_is_none b.productions b.item.production b.item.index))
  traced_carries e (given m item met takes gives) = given_carries gives
    where
      given_carries : GivesEdge b m.1 item e → Carries b.productions e
      given_carries (onward g is) =
          subst (Carries b.productions) (sym is) (carried b.productions (NameNode item.production.nonterminal) (NameNode m.1) item.production item.index (own.items m.0 item takes.0) refl (λ name same. name_is_cursor m.1 name (slice_get item.production.symbols item.index) takes.1 same))
      given_carries (itself g r is) =
          subst (Carries b.productions) (sym is) (carried b.productions (NameNode item.production.nonterminal) (ItemNode (dotted item.production item.index)) item.production item.index (own.items m.0 item takes.0) refl (item_is_none b.productions item.production item.index))
      given_carries (stops n is) =
          subst (Carries b.productions) (sym is) (carried b.productions (ItemNode (dotted item.production item.index)) (NameNode m.1) item.production item.index (own.items m.0 item takes.0) refl (λ name same. name_is_cursor m.1 name (slice_get item.production.symbols item.index) takes.1 same))

  pub traced_right_sides : (graph : Graph) → IsTraceOf b graph → CarryRightSides b.productions graph.edges
  traced_right_sides graph trace k e at =
      let c = traced_carries (plain e) ((trace.exactly (plain e)).0 (contains_map plain graph.edges e (place_contains graph.edges k e at))) in
      record { right_side = c.right_side; cursor = c.cursor }

-- ---- the parts of a right side whose terminals are known
known_behind : (terminals : List TerminalString) (xs ys : List Symbol) → HasKnownTerminals terminals (xs ++ ys) → HasKnownTerminals terminals ys
known_behind terminals [] ys h = h
known_behind terminals (x ∷ xs) ys h = known_behind terminals xs ys (λ k t at. h (suc k) t at)

known_first : (terminals : List TerminalString) (o : Option Symbol) (ys : List Symbol) → HasKnownTerminals terminals (cursor_list o ++ ys) → (t : TerminalString) → o ≡ Some (Terminal t) → Contains terminals t
known_first terminals None ys h t e = cc
known_first terminals (Some x) ys h t e = h zero t e

-- edges that carry right sides of a grammar have its terminals
pub known_edges : (g : Rules) (edges : List TraceGraphEdge) → HasOwnTerminals g → CarryRightSides g.productions edges → AreKnownEdges g.terminals edges
known_edges g edges known carry k e at =
    let side = (carry k e at).right_side in
    let prefix = e.symbol_sets.prefix.now in
    let cursor = option_copied e.symbol_sets.cursor in
    let suffix = e.symbol_sets.suffix.now in
    let all : HasKnownTerminals g.terminals (prefix ++ (cursor_list cursor ++ suffix)) = subst (HasKnownTerminals g.terminals) side.3 (known side.0 side.1) in
    let behind = known_behind g.terminals prefix (cursor_list cursor ++ suffix) all in
    record { cursor = known_first g.terminals cursor suffix behind; suffix = known_behind g.terminals (cursor_list cursor) suffix behind }
