-- The graph of a reduction that is made from the graph of a like one.
use Rattle.std.proofs.Common.{◌≡◌, ◌⊎◌, inl, inr, List, [], ◌∷◌, ◌++◌, drop, map, refl, sym, ◌∙◌, ap, subst, append_assoc, append-nil}
use Rattle.std.specs.Prelude.{Contains, slice_get, Some, None}
use Rattle.std.proofs.lemmas.List.Elements.{Contains-append_left, Contains-push, Contains-push_cases}
use mathlib.Core.List.{nil≢cons, head-eq_of_cons-eq, tail-eq_of_cons-eq}
use Rattle.lalrpop_base.specs.Words.{Bits, Dotted}
use Rattle.lalrpop_grammar.specs.declared.repr.Symbol.TheVariants.{Nonterminal}
use Rattle.lalrpop_collections.proofs.theory.lists.Lists.{some≢none}
use Rattle.lalrpop_collections.proofs.theory.lists.Members.{Contains-none, contains-cons, contains_head, contains_tail}
use Rattle.lalrpop_traces.specs.Words.{AddsInOrder, AddsInTurn, AreAlike, Backtrace, Duty, Graph, IsInOrder, Meeting, PlainEdge, Walks, all_added, come_to, ends, ends_of, known, left_out, meets, onward_edge, own_edge, passes, plain_edges, put_behind, reduction_traced, stop_edge}
use Rattle.lalrpop_traces.specs.traces.TraceOrder.{stops, goes_on}
use Rattle.lalrpop_traces.specs.declared.trace.node.TraceGraphNode.{TraceGraphNode}
use Rattle.lalrpop_traces.proofs.Types.{Nil, NonterminalString, Production, State, StateIndex}

-- ---- values added in turn
module _ {X : Type 0} where
  -- the first value is there or is added, and the others after it
  first_added : {old ys new : List X} (x : X) (xs : List X) → AddsInTurn old ys new → ys ≡ x ∷ xs → (Contains old x × AddsInTurn old xs new) ⊎ ((¬ Contains old x) × AddsInTurn (old ++ x ∷ []) xs new)
  first_added x xs all_added e = absurd (nil≢cons e)
  first_added {old} {ys} {new} x xs (left_out {xs = zs} {x = y} c rest) e =
      inl (subst (Contains old) (head-eq_of_cons-eq e) c, subst (λ (ks : List X). AddsInTurn old ks new) (tail-eq_of_cons-eq e) rest)
  first_added {old} {ys} {new} x xs (put_behind {xs = zs} {x = y} out rest) e =
      inr (λ c. out (subst (Contains old) (sym (head-eq_of_cons-eq e)) c), subst (λ (k : X). AddsInTurn (old ++ k ∷ []) xs new) (head-eq_of_cons-eq e) (subst (λ (ks : List X). AddsInTurn (old ++ y ∷ []) ks new) (tail-eq_of_cons-eq e) rest))

  none_added : {old ys new : List X} → AddsInTurn old ys new → ys ≡ [] → new ≡ old
  none_added all_added e = refl
  none_added (left_out c rest) e = absurd (nil≢cons (sym e))
  none_added (put_behind out rest) e = absurd (nil≢cons (sym e))

  -- the first of the old values is another one, and neither is added
  swapped : (a b : X) {old xs new : List X} → AddsInTurn old xs new → ((x : X) → Contains xs x → (x ≡ a → ⊥) × (x ≡ b → ⊥)) → (olds : List X) → old ≡ a ∷ olds → (news : List X) × (new ≡ a ∷ news) × AddsInTurn (b ∷ olds) xs (b ∷ news)
  swapped a b all_added apart olds e = (olds, e, all_added)
  swapped a b {old} (left_out {xs = xs} {x = x} c rest) apart olds e =
      let h = swapped a b rest (λ y in_xs. apart y (contains_tail x xs y in_xs)) olds e in
      let there : Contains (b ∷ olds) x = elim (contains-cons a olds x (subst (λ (ys : List X). Contains ys x) e c)) [
        | inl same ↦ absurd ((apart x (contains_head x xs)).0 (sym same))
        | inr later ↦ contains_tail b olds x later
      ] in
      (h.0, h.1, left_out there h.2)
  swapped a b {old} (put_behind {xs = xs} {x = x} out rest) apart olds e =
      let h = swapped a b rest (λ y in_xs. apart y (contains_tail x xs y in_xs)) (olds ++ x ∷ []) (ap (λ (ys : List X). ys ++ x ∷ []) e) in
      let absent : ¬ Contains (b ∷ olds) x = λ c. elim (contains-cons b olds x c) [
        | inl same ↦ (apart x (contains_head x xs)).1 (sym same)
        | inr later ↦ out (subst (λ (ys : List X). Contains ys x) (sym e) (contains_tail a olds x later))
      ] in
      (h.0, h.1, put_behind absent h.2)

  -- a value is added, and then others as before
  one_added : (n : X) (ns more given ms : List X) → AddsInTurn ns (n ∷ more) ms → ((after : List X) → ((m : X) → Contains ns m → Contains after m) → Contains after n → AddsInTurn after more ms → AddsInTurn after given ms) → AddsInTurn ns (n ∷ given) ms
  one_added n ns more given ms a then = elim (first_added n more a refl) [
    | inl c ↦ left_out c.0 (then ns (λ m i. i) c.0 c.1)
    | inr o ↦ put_behind o.0 (then (ns ++ n ∷ []) (λ m i. Contains-append_left ns (n ∷ []) m i) (Contains-push ns n) o.1)
  ]

-- ---- edges and their ends
-- the ends of the edges are in a list
abbrev HaveEndsIn : List TraceGraphNode → List PlainEdge → Type 0
HaveEndsIn ns es = (e : PlainEdge) → Contains es e → Contains ns e.from × Contains ns e.to

-- what was added to some edges: if it is added again, the edges are the same, and so are the ends
record IsAgain (old given new : List PlainEdge) : Type 0 where
  pub more : List PlainEdge
  pub is : new ≡ old ++ more
  pub once : (now : List PlainEdge) → AddsInTurn old more now → now ≡ new
  pub ends : (ns ms : List TraceGraphNode) → HaveEndsIn ns old → AddsInTurn ns (ends_of more) ms → AddsInTurn ns (ends_of given) ms

again : {old given new : List PlainEdge} → AddsInTurn old given new → IsAgain old given new
again {old} all_added = record { more = []; is = sym (append-nil old); once = λ now a. none_added a refl; ends = λ ns ms both a. a }
again (left_out {xs = xs} {x = x} c rest) =
    let h = again rest in
    record {
      more = h.more;
      is = h.is;
      once = h.once;
      ends = λ ns ms both a. left_out (both x c).0 (left_out (both x c).1 (h.ends ns ms both a));
    }
again {old} (put_behind {xs = xs} {x = x} out rest) =
    let h = again rest in
    record {
      more = x ∷ h.more;
      is = h.is ∙ append_assoc old (x ∷ []) h.more;
      once = λ now a. elim (first_added x h.more a refl) [ inl c ↦ absurd (out c.0) | inr n ↦ h.once now n.1 ];
      ends = λ ns ms both a.
          one_added x.from ns (x.to ∷ ends_of h.more) (x.to ∷ ends_of xs) ms a (λ one in_one has_from b.
          one_added x.to one (ends_of h.more) (ends_of xs) ms b (λ two in_two has_to d.
          h.ends two ms (λ e there. elim (Contains-push_cases old x e there) [
            | inl before ↦ (in_two e.from (in_one e.from (both e before).0), in_two e.to (in_one e.to (both e before).1))
            | inr here ↦ (subst (λ (y : PlainEdge). Contains two y.from) here (in_two x.from has_from), subst (λ (y : PlainEdge). Contains two y.to) here has_to)
          ]) d));
    }

-- ---- the walk
module _ (productions : List Production) (states : List (State Bits)) (state other : StateIndex) (item like : Dotted Nil) where
  abbrev Old : Backtrace
  Old = reduction_traced productions states other like

  abbrev New : Backtrace
  New = reduction_traced productions states state item

  -- a walk does not depend on the item that is traced
  same_walk : {met : List Meeting} {duties : List Duty} {es : List PlainEdge} → Walks Old met duties es → Walks New met duties es
  same_walk ends = ends
  same_walk (known c walk) = known c (same_walk walk)
  same_walk (meets c walk) = meets c (same_walk walk)
  same_walk (passes at walk) = passes at (same_walk walk)
  same_walk (stops at out walk) = stops at out (same_walk walk)
  same_walk (goes_on sources later at on are walk is) = goes_on sources later at on (record { ascending = are.ascending; exactly = are.exactly }) (same_walk walk) is

  -- an edge has a nonterminal at its cursor
  abbrev HasName : PlainEdge → Type 0
  HasName e = (name : NonterminalString) × (e.cursor ≡ Some (Nonterminal name))

  names_more : (x : PlainEdge) (es : List PlainEdge) → HasName x → ((e : PlainEdge) → Contains es e → HasName e) → (e : PlainEdge) → Contains (x ∷ es) e → HasName e
  names_more x es here later e c = elim (contains-cons x es e c) [ inl same ↦ subst HasName same here | inr d ↦ later e d ]

  -- each edge of a walk has
  walk_names : {met : List Meeting} {duties : List Duty} {es : List PlainEdge} → Walks Old met duties es → (e : PlainEdge) → Contains es e → HasName e
  walk_names ends e c = absurd (Contains-none e c)
  walk_names (known k walk) e c = walk_names walk e c
  walk_names (meets k walk) e c = walk_names walk e c
  walk_names (passes at walk) e c = walk_names walk e c
  walk_names (stops {m = m} {item = taken} {es = es} at out walk) e c = names_more (stop_edge m.1 taken) es (m.1, at) (λ f d. walk_names walk f d) e c
  walk_names (goes_on {m = m} {item = taken} sources later at on are walk is) e c =
      let own = own_edge taken.production taken.index in
      names_more (onward_edge m.1 taken) (own ∷ later) (m.1, at) (names_more own later (m.1, at) (λ f d. walk_names walk f d)) e (subst (λ (xs : List PlainEdge). Contains xs e) is c)

  abbrev own_of : Dotted Nil → PlainEdge
  own_of i = own_edge i.production i.index

  -- so it is not the edge to a finished item
  not_own : (i : Dotted Nil) → slice_get i.production.symbols i.index ≡ None → (e : PlainEdge) → HasName e → e ≡ own_of i → ⊥
  not_own i finished e name is = some≢none (sym name.1 ∙ ap (λ (x : PlainEdge). x.cursor) is ∙ finished)

  pub alike_order : (old new : Graph) → AreAlike states state item other like → IsInOrder Old old → AddsInOrder (record { nodes = []; edges = [] }) new (own_of item ∷ drop 1 (plain_edges old)) → IsInOrder New new
  alike_order old new alike order added =
      let given = order.given in
      let one : AddsInTurn (own_of like ∷ []) given (plain_edges old) = elim (first_added (own_of like) given order.edges refl) [ inl c ↦ absurd (Contains-none (own_of like) c.0) | inr n ↦ n.1 ] in
      let others = swapped (own_of like) (own_of item) one (λ e c. (not_own like alike.finished_like e (walk_names order.walk e c), not_own item alike.finished e (walk_names order.walk e c))) [] refl in
      let whole : AddsInTurn [] (own_of item ∷ given) (own_of item ∷ others.0) = put_behind (λ c. Contains-none (own_of item) c) others.2 in
      let twice = again whole in
      let rest : own_of item ∷ drop 1 (plain_edges old) ≡ twice.more = ap (λ (es : List PlainEdge). own_of item ∷ drop 1 es) others.1 ∙ twice.is in
      let same : plain_edges new ≡ own_of item ∷ others.0 = twice.once (plain_edges new) (subst (λ (es : List PlainEdge). AddsInTurn [] es (plain_edges new)) rest added.edges) in
      record {
        sources = order.sources;
        begins = record { ascending = order.begins.ascending; exactly = λ r. (λ c. (alike.sources r).1 ((order.begins.exactly r).0 c), λ leads. (order.begins.exactly r).1 ((alike.sources r).0 leads)) };
        given = given;
        walk = subst (λ (name : NonterminalString). Walks New [] (map (λ (n : StateIndex). come_to (n, name)) order.sources) given) (sym alike.name) (same_walk order.walk);
        edges = subst (AddsInTurn [] (own_of item ∷ given)) (sym same) whole;
        nodes = twice.ends [] new.nodes (λ e c. absurd (Contains-none e c)) (subst (λ (es : List PlainEdge). AddsInTurn [] (ends_of es) new.nodes) rest added.nodes);
      }
