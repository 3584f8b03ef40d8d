-- A search backwards that meets no token of a lookahead shows that no path over an edge meets it.
use Rattle.std.proofs.Common.{◌≡◌, ℕ, ◌+◌, ◌-◌, ◌<◌, ◌⊎◌, inl, inr, Bool, true, false, ◌||◌, List, [], ◌∷◌, ◌++◌, length, reverse, refl, sym, ◌∙◌, ap, subst, arith, append_assoc}
use Rattle.std.specs.Prelude.{Contains, IsTrue}
use Rattle.std.specs.List.{range_with_len}
use Rattle.std.proofs.lemmas.Bool.{cases_Bool, cases_lt}
use Rattle.std.proofs.lemmas.List.Elements.{Contains-push_cases}
use mathlib.Core.Bool.{true≢false}
use mathlib.Core.List.{nil≢cons}
use Rattle.lalrpop_base.specs.Words.{Bits, IsFirst, IsFirstSet, IsNullable, Rules, Visits, has}
use Rattle.lalrpop_collections.specs.declared.collections.walk.Walk.{Walk}
use Rattle.lalrpop_collections.proofs.theory.collections.Walks.{IsTraversing, All-wait, visited_such, Traversing-start, Traversing-step, Traversing-smaller, Traversing-end, Visits-none, Visits-same}
use Rattle.lalrpop_collections.proofs.theory.lists.Members.{Contains-none, Contains-range, contains_head, contains_tail}
use Rattle.lalrpop_grammar.proofs.theory.first.FirstMeaning.{terminal_at}
use Rattle.lalrpop_grammar.proofs.theory.grammars.Forests.{first-cons, first-nil, nullable-cons, nullable-nil}
use Rattle.lalrpop_traces.proofs.Types.{Production, Symbol, TerminalString}
use Rattle.lalrpop_traces.proofs.theory.traces.Ends.{led_within}
use Rattle.lalrpop_traces.proofs.theory.traces.PathLists.{reverse_more, same_behind}
use Rattle.lalrpop_traces.proofs.theory.traces.Paths.{IsContinuedBy, over_sound}
use Rattle.lalrpop_traces.proofs.theory.traces.PathsLeft.{path_back}
use Rattle.lalrpop_traces.specs.Words.{GoesOnTo, HasNoToken, IsEnded, Meets, NoneMeets, OpensTo, frames, node_count, path_of, paths_over, are_one, comes_again, edge_numbers_to_source, edge_of, edge_suffix, following, over, source, suffixes}
use Rattle.lalrpop_traces.specs.traces.Examples.{innermost}
use Rattle.lalrpop_traces.specs.declared.trace.enumerator.EnumeratorState.{EnumeratorState}
use Rattle.lalrpop_traces.specs.declared.trace.filtered.FilteredPathEnumerator.{FilteredPathEnumerator}
use Rattle.lalrpop_traces.specs.declared.trace.trace_graph.TraceGraph.{TraceGraph}

-- ---- FIRST of joined lists
module _ {g : List Production} where
  nullable_joined : (xs ys : List Symbol) → IsNullable g (xs ++ ys) → IsNullable g xs × IsNullable g ys
  nullable_joined [] ys n = (nullable-nil, n)
  nullable_joined (x ∷ xs) ys n =
      let both = (nullable-cons x (xs ++ ys)).0 n in
      let rest = nullable_joined xs ys both.1 in
      ((nullable-cons x xs).1 (both.0, rest.0), rest.1)

  first_joined : (xs ys : List Symbol) (t : TerminalString) → IsFirst g (xs ++ ys) t → IsFirst g xs t ⊎ (IsNullable g xs × IsFirst g ys t)
  first_joined [] ys t f = inr (nullable-nil, f)
  first_joined (x ∷ xs) ys t f = elim ((first-cons x (xs ++ ys) t).0 f) [
    | inl here ↦ inl ((first-cons x xs t).1 (inl here))
    | inr later ↦ elim (first_joined xs ys t later.1) [
      | inl h ↦ inl ((first-cons x xs t).1 (inr (later.0, h)))
      | inr h ↦ inr ((nullable-cons x xs).1 (later.0, h.0), h.1)
    ]
  ]

module _ (g : TraceGraph) (rules : Rules) (lookahead : Bits) where
  -- no token of the lookahead is in FIRST of the suffix of the edge
  abbrev pub NoneAt : ℕ → Type 0
  NoneAt k = HasNoToken rules lookahead (edge_suffix (edge_of g k))

  abbrev NullableAt : ℕ → Type 0
  NullableAt k = IsNullable rules.productions (edge_suffix (edge_of g k))

  module _ (path : List ℕ) where
    -- the edges at which the search went on
    record IsDeadEnd (edges : List ℕ) : Type 0 where
      pub none : (k j : ℕ) → Contains edges k → NullableAt k → Contains (edge_numbers_to_source g k) j → NoneAt j
      pub closed : (k j : ℕ) → Contains edges k → OpensTo g rules.productions path k j → Contains edges j

    abbrev Covers : List ℕ → Type 0
    Covers taken = (j : ℕ) → comes_again g j path ≡ true → comes_again g j taken ≡ true

    or_right : (a b : Bool) → b ≡ true → (a || b) ≡ true
    or_right true b h = refl
    or_right false b h = h

    not_passed : (taken : List ℕ) (k : ℕ) → Covers taken → comes_again g k taken ≡ false → comes_again g k path ≡ false
    not_passed taken k covers new = elim (cases_Bool (comes_again g k path)) [ inl again ↦ absurd (true≢false (sym (covers k again) ∙ new)) | inr not ↦ not ]

    -- no token follows a path that goes on from one of the edges
    none_follows : (edges : List ℕ) → IsDeadEnd edges → (rest taken : List ℕ) (k : ℕ) → Covers taken → NoneAt k → (comes_again g k path ≡ false → Contains edges k) → IsContinuedBy g taken k rest → HasNoToken rules lookahead (suffixes g (k ∷ rest))
    none_follows edges dead [] taken k covers none there h bit t at first = elim (first_joined (edge_suffix (edge_of g k)) [] t first) [
      | inl own ↦ none bit t at own
      | inr later ↦ absurd (first-nil t later.1)
    ]
    none_follows edges dead (j ∷ rest) taken k covers none there h bit t at first = elim (first_joined (edge_suffix (edge_of g k)) (suffixes g (j ∷ rest)) t first) [
      | inl own ↦ none bit t at own
      | inr later ↦
          let here : Contains edges k = there (not_passed taken k covers h.1) in
          none_follows edges dead rest (k ∷ taken) j (λ i again. or_right (are_one (source g k) (source g i)) (comes_again g i taken) (covers i again)) (dead.none k j here later.0 h.2)
          (λ new. dead.closed k j here (record { on = record { leads = h.2; new = new }; nullable = later.0 })) h.3 bit t at later.1
    ]

    -- ---- the search
    module _ (edge : ℕ) where
      abbrev room : List ℕ
      room = edge ∷ range_with_len 0 (length g.edges)

      abbrev Traverses : List ℕ → Walk ℕ → Type 0
      Traverses = IsTraversing (λ k. edge ≡ k) (OpensTo g rules.productions path) (Contains room)

      -- the search has gone on from some edges. The suffixes before these have no token
      pub record IsMeeting (walk : Walk ℕ) : Type 0 where
        pub done : List ℕ
        pub traverses : Traverses done walk
        pub none : (k j : ℕ) → Contains done k → NullableAt k → Contains (edge_numbers_to_source g k) j → NoneAt j

      pub Meeting-start : (none walk : Walk ℕ) → none.visited.keys ≡ [] → none.waiting.items ≡ [] → Visits (λ k. edge ≡ k) none walk → IsMeeting walk
      Meeting-start none walk no_visits no_waits v = record {
        done = [];
        traverses = Traversing-start (λ k. edge ≡ k) (OpensTo g rules.productions path) (Contains room) walk (All-wait (λ k. edge ≡ k) none walk no_visits no_waits v) (λ k e. v.there k e)
            (λ k c. subst (Contains room) (visited_such (λ k. edge ≡ k) none walk no_visits no_waits v k c) (contains_head edge (range_with_len 0 (length g.edges))));
        none = λ k j c nullable leads. absurd (Contains-none k c);
      }

      module _ (key : ℕ) (before popped after : Walk ℕ) (same : popped.visited.keys ≡ before.visited.keys) (taken : before.waiting.items ≡ key ∷ popped.waiting.items) (h : IsMeeting before) (none : NullableAt key → (j : ℕ) → Contains (edge_numbers_to_source g key) j → NoneAt j) (v : Visits (OpensTo g rules.productions path key) popped after) where
        pub Meeting-step : IsMeeting after
        Meeting-step = record {
          done = h.done ++ key ∷ [];
          traverses = Traversing-step (λ k. edge ≡ k) (OpensTo g rules.productions path) (Contains room) h.done key before popped after same taken h.traverses v
              (λ j reach opens. contains_tail edge (range_with_len 0 (length g.edges)) j (Contains-range (length g.edges) j (led_within g key j opens.on.leads)));
          none = λ k j c nullable leads. elim (Contains-push_cases h.done key k c) [
            | inl old ↦ h.none k j old nullable leads
            | inr here ↦ none (subst NullableAt (sym here) nullable) j (subst (λ (x : ℕ). Contains (edge_numbers_to_source g x) j) (sym here) leads)
          ];
        }

        pub Meeting-smaller : length room + length after.waiting.items - length after.visited.keys < length room + length before.waiting.items - length before.visited.keys
        Meeting-smaller = Traversing-smaller (λ k. edge ≡ k) (OpensTo g rules.productions path) (Contains room) room (λ k r. r) h.done Meeting-step.done key before popped after same taken h.traverses v Meeting-step.traverses

      -- a search that ends shows that no token follows
      pub Meeting-end : (walk : Walk ℕ) → walk.waiting.items ≡ [] → IsMeeting walk → NoneAt edge → (whole : List ℕ) → whole ≡ reverse path → (n : ℕ) (rest : List ℕ) → Contains (over g n path edge) (whole ++ rest) → HasNoToken rules lookahead (suffixes g rest)
      Meeting-end walk waits h none whole is n rest c =
          let all = Traversing-end (λ k. edge ≡ k) (OpensTo g rules.productions path) (Contains room) h.done walk waits h.traverses in
          let s = over_sound g n path edge (whole ++ rest) c in
          let dead : IsDeadEnd walk.visited.keys = record { none = λ k j v nullable leads. h.none k j (all k v) nullable leads; closed = λ k j v opens. h.traverses.led k j (all k v) opens } in
          let follows = none_follows walk.visited.keys dead s.0 path edge (λ j again. again) none (λ new. h.traverses.begun edge refl) s.2 in
          let same : rest ≡ edge ∷ s.0 = same_behind whole rest (edge ∷ s.0) (s.1 ∙ reverse_more edge path s.0 ∙ ap (λ (xs : List ℕ). xs ++ edge ∷ s.0) (sym is)) in
          subst (λ (xs : List ℕ). HasNoToken rules lookahead (suffixes g xs)) (sym same) follows

-- ---- an edge whose suffix is not nullable leads to nothing
pub Opens-none : (g : TraceGraph) (productions : List Production) (path : List ℕ) (k : ℕ) (walk : Walk ℕ) → ¬ IsNullable productions (edge_suffix (edge_of g k)) → Visits (OpensTo g productions path k) walk walk
Opens-none g productions path k walk closed = Visits-none (OpensTo g productions path k) walk (λ j opens. closed opens.nullable)

pub Opens-all : (g : TraceGraph) (productions : List Production) (path : List ℕ) (k : ℕ) (a b : Walk ℕ) → IsNullable productions (edge_suffix (edge_of g k)) → Visits (GoesOnTo g path k) a b → Visits (OpensTo g productions path k) a b
Opens-all g productions path k a b nullable x = Visits-same (GoesOnTo g path k) (OpensTo g productions path k) (λ j on. record { on = on; nullable = nullable }) (λ j opens. opens.on) a b x

-- a FIRST set without a token of the lookahead
pub no_token : (rules : Rules) (lookahead : Bits) (symbols : List Symbol) (first : Bits) → IsFirstSet rules symbols first → ((bit : ℕ) → IsTrue (has first bit) → IsTrue (has lookahead bit) → ⊥) → HasNoToken rules lookahead symbols
no_token rules lookahead symbols first is apart bit t at begins there = apart bit ((is.begins bit t at).1 begins) there

-- ---- paths after a prefix
suffixes_joined : (g : TraceGraph) (xs ys : List ℕ) → suffixes g (xs ++ ys) ≡ suffixes g xs ++ suffixes g ys
suffixes_joined g [] ys = refl
suffixes_joined g (x ∷ xs) ys = ap (λ zs. edge_suffix (edge_of g x) ++ zs) (suffixes_joined g xs ys) ∙ sym (append_assoc (edge_suffix (edge_of g x)) (suffixes g xs) (suffixes g ys))

following_joined : (g : TraceGraph) (xs ys : List ℕ) → (xs ≡ [] → ⊥) → following g (xs ++ ys) ≡ following g xs ++ suffixes g ys
following_joined g [] ys some = absurd (some refl)
following_joined g (x ∷ xs) ys some = ap (λ zs. innermost g (x ∷ xs) ++ zs) (suffixes_joined g (x ∷ xs) ys) ∙ sym (append_assoc (innermost g (x ∷ xs)) (suffixes g (x ∷ xs)) (suffixes g ys))

-- a path does not meet the lookahead if neither its beginning does, nor a token follows that
pub not_met : (walk : FilteredPathEnumerator) (front back : List ℕ) → (front ≡ [] → ⊥) → (first : Bits) → IsFirstSet walk.first_sets.now (following walk.base.graph.now front) first → ¬ Meets walk front → HasNoToken walk.first_sets.now walk.lookahead (suffixes walk.base.graph.now back) → ¬ Meets walk (front ++ back)
not_met walk front back some first is out none m =
    let g = walk.base.graph.now in
    let rules = walk.first_sets.now in
    let bit = m.2 in
    let joined : IsFirstSet rules (following g front ++ suffixes g back) m.0 = subst (λ (xs : List Symbol). IsFirstSet rules xs m.0) (following_joined g front back some) m.1 in
    elim (cases_lt bit (length rules.terminals)) [
      | inl less ↦
          let u = terminal_at rules.terminals bit less in
          elim (first_joined (following g front) (suffixes g back) u.0 ((joined.begins bit u.0 u.1).0 m.3)) [
            | inl own ↦ out (first, is, bit, (is.begins bit u.0 u.1).1 own, m.4)
            | inr later ↦ none bit u.0 u.1 later.1 m.4
          ]
      | inr past ↦
          let small = joined.fits bit m.3 in
          let end : length rules.terminals ≡ bit = omega (arith, small, past) in
          let all = joined.ends.0 (subst (λ (k : ℕ). has m.0 k ≡ true) (sym end) m.3) in
          out (first, is, bit, subst (λ (k : ℕ). has first k ≡ true) end (is.ends.1 (nullable_joined (following g front) (suffixes g back) all).0), m.4)
    ]

none_left : (stack : List EnumeratorState) → path_of stack ≡ [] → stack ≡ []
none_left [] e = refl
none_left (x ∷ stack) e = absurd (nil≢cons (sym e))

-- no path over an edge meets the lookahead
pub none_over : (walk : FilteredPathEnumerator) (number : ℕ) → (IsEnded walk.base → ⊥) → (first : Bits) → IsFirstSet walk.first_sets.now (following walk.base.graph.now (path_of walk.base.stack.items)) first → ¬ Meets walk (path_of walk.base.stack.items) →
    ((rest : List ℕ) → Contains (paths_over walk.base number) (path_of walk.base.stack.items ++ rest) → HasNoToken walk.first_sets.now walk.lookahead (suffixes walk.base.graph.now rest)) → NoneMeets walk (paths_over walk.base number)
none_over walk number stands first is out none p c =
    let stack = walk.base.stack.items in
    let front = path_of stack in
    let s = over_sound walk.base.graph.now (node_count walk.base.graph.now - length (frames walk.base)) (path_of (frames walk.base)) number p c in
    let parted : p ≡ front ++ number ∷ s.0 = s.1 ∙ reverse_more number (path_of (frames walk.base)) s.0 ∙ ap (λ (xs : List ℕ). xs ++ number ∷ s.0) (path_back stack (reverse stack) refl) in
    subst (λ (q : List ℕ). ¬ Meets walk q) (sym parted) (not_met walk front (number ∷ s.0) (λ e. stands (none_left stack e)) first is out (none (number ∷ s.0) (subst (λ (q : List ℕ). Contains (paths_over walk.base number) q) parted c)))
