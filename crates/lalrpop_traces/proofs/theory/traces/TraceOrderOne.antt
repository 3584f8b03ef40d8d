-- A backtrace has only one list of edges, and one of nodes, that are in order.
use Rattle.std.proofs.Common.{◌≡◌, ◌≢◌, ◌↔◌, ◌⊎◌, inl, inr, ℕ, ◌<◌, List, [], ◌∷◌, ◌++◌, refl, sym, ◌∙◌, ap, subst, arith}
use Rattle.std.specs.Prelude.{slice_get, Some, Contains, nat_lt, ◌==◌}
use Rattle.std.specs.List.{AllByRecursion}
use Rattle.std.specs.List.Sorted.{IsStrictlySortedBy}
use Rattle.std.specs.declared.cmp.Ordering.TheVariants.{Less}
use Rattle.lalrpop_base.specs.Words.{Bits, Dotted}
use Rattle.lalrpop_traces.proofs.Types.{Production, StateIndex}
use Rattle.lalrpop_grammar.specs.declared.repr.Symbol.TheVariants.{Nonterminal}
use Rattle.lalrpop_state_graph.specs.Words.{state_cmp}
use Rattle.lalrpop_collections.proofs.theory.lists.Members.{Contains-none, contains_head, contains_tail, contains-cons}
use Rattle.lalrpop_traces.specs.Words.{PlainEdge, AddsInTurn, all_added, left_out, put_behind, stop_edge, onward_edges, Duty, come_to}
use Rattle.lalrpop_traces.specs.Words.{take_up, come_to_each, take_up_each, items_at, AreSources, Walks, ends, known, meets, passes, IsInOrder, Backtrace, Meeting, GoesOn, own_edge}
use Rattle.lalrpop_traces.specs.traces.TraceOrder.{stops, goes_on}
use Rattle.lalrpop_states.proofs.theory.grammars.AscendingItems.{less_number_at}

-- ---- values added in turn
of_none : {X : Type 0} (old ys new : List X) → AddsInTurn old ys new → ys ≡ [] → old ≡ new
of_none old ys new all_added e = refl
of_none old ys new (left_out c rest) e = cc
of_none old ys new (put_behind out rest) e = cc

of_more : {X : Type 0} (x : X) (xs old ys new : List X) → AddsInTurn old ys new → ys ≡ x ∷ xs → (Contains old x × AddsInTurn old xs new) ⊎ ((¬ Contains old x) × AddsInTurn (old ++ x ∷ []) xs new)
of_more x xs old ys new all_added e = cc
of_more {X} x xs old ys new (left_out {xs = zs} {x = z} c rest) e =
    let P : List X → Type 0 = λ l. AddsInTurn old l new in
    let head : z ≡ x = cc in
    let tail : zs ≡ xs = cc in
    inl (subst (Contains old) head c, subst P tail rest)
of_more {X} x xs old ys new (put_behind {xs = zs} {x = z} out rest) e =
    let P : List X → Type 0 = λ l. AddsInTurn (old ++ z ∷ []) l new in
    let Q : X → Type 0 = λ y. (¬ Contains old y) × AddsInTurn (old ++ y ∷ []) xs new in
    let head : z ≡ x = cc in
    let tail : zs ≡ xs = cc in
    inr (subst Q head (out, subst P tail rest))

turn_one : {X : Type 0} {old xs new : List X} (other : List X) → AddsInTurn old xs new → AddsInTurn old xs other → new ≡ other
turn_one other (all_added {old = old}) second = of_none old [] other second refl
turn_one other (left_out {old = old} {xs = xs} {x = x} c rest) second = elim (of_more x xs old (x ∷ xs) other second refl) [ inl h ↦ turn_one other rest h.1 | inr h ↦ absurd (h.0 c) ]
turn_one other (put_behind {old = old} {xs = xs} {x = x} out rest) second = elim (of_more x xs old (x ∷ xs) other second refl) [ inl h ↦ absurd (out h.0) | inr h ↦ turn_one other rest h.1 ]

-- ---- states in order
below_rest : (x : StateIndex) (xs : List StateIndex) → AllByRecursion (λ y. state_cmp x y ≡ Less) xs → (y : StateIndex) → Contains xs y → x.0 < y.0
below_rest x [] all y c = absurd (Contains-none y c)
below_rest x (z ∷ zs) all y c =
    let P : StateIndex → Type 0 = λ w. x.0 < w.0 in
    elim (contains-cons z zs y c) [ inl e ↦ subst P e (less_number_at x.0 z.0 (nat_lt x.0 z.0) (x.0 == z.0) refl all.0) | inr later ↦ below_rest x zs all.1 y later ]

states_one : (xs ys : List StateIndex) → IsStrictlySortedBy state_cmp xs → IsStrictlySortedBy state_cmp ys → ((r : StateIndex) → Contains xs r ↔ Contains ys r) → xs ≡ ys
unfolding IsStrictlySortedBy
states_one [] [] s t same = refl
states_one [] (y ∷ ys) s t same = absurd (Contains-none y ((same y).1 (contains_head y ys)))
states_one (x ∷ xs) [] s t same = absurd (Contains-none x ((same x).0 (contains_head x xs)))
states_one (x ∷ xs) (y ∷ ys) s t same =
    let head : x ≡ y = elim (contains-cons y ys x ((same x).0 (contains_head x xs))) [
      | inl e ↦ sym e
      | inr later ↦ elim (contains-cons x xs y ((same y).1 (contains_head y ys))) [
        | inl e ↦ e
        | inr other ↦ let up : x.0 < y.0 = below_rest x xs s.0 y other in let down : y.0 < x.0 = below_rest y ys t.0 x later in absurd (omega (arith, up, down))
      ]
    ] in
    let rest : (r : StateIndex) → Contains xs r ↔ Contains ys r = λ r. (
      λ c. elim (contains-cons y ys r ((same r).0 (contains_tail x xs r c))) [
        | inl e ↦ let up : x.0 < r.0 = below_rest x xs s.0 r c in let P : StateIndex → Type 0 = λ w. w.0 < r.0 in absurd (let around : r.0 < r.0 = subst P (head ∙ e) up in omega (arith, around))
        | inr later ↦ later
      ],
      λ c. elim (contains-cons x xs r ((same r).1 (contains_tail y ys r c))) [
        | inl e ↦ let up : y.0 < r.0 = below_rest y ys t.0 r c in let P : StateIndex → Type 0 = λ w. w.0 < r.0 in absurd (let around : r.0 < r.0 = subst P (sym head ∙ e) up in omega (arith, around))
        | inr later ↦ later
      ],
    ) in
    ap (λ (z : StateIndex). z ∷ xs) head ∙ ap (λ (zs : List StateIndex). y ∷ zs) (states_one xs ys s.1 t.1 rest)

-- ---- walks
module _ (b : Backtrace) where
  sources_one : (p : Production) (index : ℕ) (state : StateIndex) (xs ys : List StateIndex) → AreSources b p index state xs → AreSources b p index state ys → xs ≡ ys
  sources_one p index state xs ys s t = states_one xs ys s.ascending t.ascending (λ r. (λ c. (t.exactly r).1 ((s.exactly r).0 c), λ c. (s.exactly r).1 ((t.exactly r).0 c)))

  at_end : (met : List Meeting) (ds : List Duty) (es : List PlainEdge) → Walks b met ds es → ds ≡ [] → [] ≡ es
  at_end met ds es ends e = refl
  at_end met ds es (known c w) e = cc
  at_end met ds es (meets out w) e = cc
  at_end met ds es (passes other w) e = cc
  at_end met ds es (stops at out w) e = cc
  at_end met ds es (goes_on sources later at on are w is) e = cc

  abbrev Comes : List Meeting → Meeting → List Duty → List PlainEdge → Type 0
  Comes met m rest es = (Contains met m × Walks b met rest es) ⊎ ((¬ Contains met m) × Walks b (m ∷ met) (take_up_each m (items_at (slice_get b.states m.0.0)) ++ rest) es)

  comes : (m : Meeting) (rest : List Duty) (met : List Meeting) (ds : List Duty) (es : List PlainEdge) → Walks b met ds es → ds ≡ come_to m ∷ rest → Comes met m rest es
  comes m rest met ds es ends e = cc
  comes m rest met ds es (known {m = n} {duties = duties} c w) e =
      let head : n ≡ m = cc in
      let tail : duties ≡ rest = cc in
      let P : Meeting → Type 0 = λ k. Comes met k rest es in
      let Q : List Duty → Type 0 = λ k. Comes met n k es in
      subst P head (subst Q tail (inl (c, w)))
  comes m rest met ds es (meets {m = n} {duties = duties} out w) e =
      let head : n ≡ m = cc in
      let tail : duties ≡ rest = cc in
      let P : Meeting → Type 0 = λ k. Comes met k rest es in
      let Q : List Duty → Type 0 = λ k. Comes met n k es in
      subst P head (subst Q tail (inr (out, w)))
  comes m rest met ds es (passes other w) e = cc
  comes m rest met ds es (stops at out w) e = cc
  comes m rest met ds es (goes_on sources later at on are w is) e = cc

  record GoesOnBy (met : List Meeting) (m : Meeting) (item : Dotted Bits) (rest : List Duty) (es : List PlainEdge) : Type 0 where
    sources : List StateIndex
    later : List PlainEdge
    at : slice_get item.production.symbols item.index ≡ Some (Nonterminal m.1)
    on : GoesOn b item
    are : AreSources b item.production item.index m.0 sources
    walk : Walks b met (come_to_each item.production sources ++ rest) later
    is : es ≡ onward_edges b.traced m.1 item ++ later

  record StopsBy (met : List Meeting) (m : Meeting) (item : Dotted Bits) (rest : List Duty) (es : List PlainEdge) : Type 0 where
    later : List PlainEdge
    at : slice_get item.production.symbols item.index ≡ Some (Nonterminal m.1)
    out : ¬ GoesOn b item
    walk : Walks b met rest later
    is : es ≡ stop_edge m.1 item ∷ later

  record PassesBy (met : List Meeting) (m : Meeting) (item : Dotted Bits) (rest : List Duty) (es : List PlainEdge) : Type 0 where
    other : slice_get item.production.symbols item.index ≢ Some (Nonterminal m.1)
    walk : Walks b met rest es

  abbrev Takes : List Meeting → Meeting → Dotted Bits → List Duty → List PlainEdge → Type 0
  Takes met m item rest es = PassesBy met m item rest es ⊎ (StopsBy met m item rest es ⊎ GoesOnBy met m item rest es)

  moved : (met : List Meeting) (m n : Meeting) (item kind : Dotted Bits) (rest duties : List Duty) (es : List PlainEdge) → n ≡ m → kind ≡ item → duties ≡ rest → Takes met n kind duties es → Takes met m item rest es
  moved met m n item kind rest duties es meeting same tail takes =
      let P : Meeting → Type 0 = λ k. Takes met k item rest es in
      let Q : Dotted Bits → Type 0 = λ k. Takes met n k rest es in
      let R : List Duty → Type 0 = λ k. Takes met n kind k es in
      subst P meeting (subst Q same (subst R tail takes))

  takes : (m : Meeting) (item : Dotted Bits) (rest : List Duty) (met : List Meeting) (ds : List Duty) (es : List PlainEdge) → Walks b met ds es → ds ≡ take_up m item ∷ rest → Takes met m item rest es
  takes m item rest met ds es ends e = cc
  takes m item rest met ds es (known c w) e = cc
  takes m item rest met ds es (meets out w) e = cc
  takes m item rest met ds es (passes {m = n} {item = kind} {duties = duties} other w) e =
      let meeting : n ≡ m = cc in
      let same : kind ≡ item = cc in
      let tail : duties ≡ rest = cc in
      moved met m n item kind rest duties es meeting same tail (inl (record { other = other; walk = w }))
  takes m item rest met ds es (stops {m = n} {item = kind} {duties = duties} {es = later} at out w) e =
      let meeting : n ≡ m = cc in
      let same : kind ≡ item = cc in
      let tail : duties ≡ rest = cc in
      moved met m n item kind rest duties es meeting same tail (inr (inl (record { later = later; at = at; out = out; walk = w; is = refl })))
  takes m item rest met ds es (goes_on {m = n} {item = kind} {duties = duties} sources later at on are w is) e =
      let meeting : n ≡ m = cc in
      let same : kind ≡ item = cc in
      let tail : duties ≡ rest = cc in
      moved met m n item kind rest duties es meeting same tail (inr (inr (record { sources = sources; later = later; at = at; on = on; are = are; walk = w; is = is })))

  -- two lists of edges of a walk are the same
  walks_one : {met : List Meeting} {ds : List Duty} {xs : List PlainEdge} (ys : List PlainEdge) → Walks b met ds xs → Walks b met ds ys → xs ≡ ys
  walks_one ys (ends {met = met}) w = at_end met [] ys w refl
  walks_one ys (known {met = met} {m = m} {duties = duties} c v) w = elim (comes m duties met (come_to m ∷ duties) ys w refl) [ inl h ↦ walks_one ys v h.1 | inr h ↦ absurd (h.0 c) ]
  walks_one ys (meets {met = met} {m = m} {duties = duties} out v) w = elim (comes m duties met (come_to m ∷ duties) ys w refl) [ inl h ↦ absurd (out h.0) | inr h ↦ walks_one ys v h.1 ]
  walks_one ys (passes {met = met} {m = m} {item = item} {duties = duties} other v) w = elim (takes m item duties met (take_up m item ∷ duties) ys w refl) [
    | inl p ↦ walks_one ys v p.walk
    | inr (inl s) ↦ absurd (other s.at)
    | inr (inr g) ↦ absurd (other g.at)
  ]
  walks_one ys (stops {met = met} {m = m} {item = item} {duties = duties} at out v) w = elim (takes m item duties met (take_up m item ∷ duties) ys w refl) [
    | inl p ↦ absurd (p.other at)
    | inr (inl s) ↦ ap (λ (es : List PlainEdge). stop_edge m.1 item ∷ es) (walks_one s.later v s.walk) ∙ sym s.is
    | inr (inr g) ↦ absurd (out g.on)
  ]
  walks_one ys (goes_on {met = met} {m = m} {item = item} {duties = duties} sources later at on are v is) w = elim (takes m item duties met (take_up m item ∷ duties) ys w refl) [
    | inl p ↦ absurd (p.other at)
    | inr (inl s) ↦ absurd (s.out on)
    | inr (inr g) ↦
        let P : List StateIndex → Type 0 = λ ss. Walks b met (come_to_each item.production ss ++ duties) g.later in
        is ∙ ap (λ (es : List PlainEdge). onward_edges b.traced m.1 item ++ es) (walks_one g.later v (subst P (sources_one item.production item.index m.0 g.sources sources g.are are) g.walk)) ∙ sym g.is
  ]
