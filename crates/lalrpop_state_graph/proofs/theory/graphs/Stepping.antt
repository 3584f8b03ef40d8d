-- Gathering states into a set, and steps back over a symbol.
use Rattle.std.proofs.Common.{◌≡◌, ◌⊎◌, inl, inr, List, [], ◌∷◌, ◌++◌, reverse, refl, sym, ◌∙◌, ap, subst, append_assoc, append-nil, map, Bool, true, length, eq-eqb}
use Rattle.std.specs.Prelude.{Contains, ◌↔◌, ◌==◌, filter}
use Rattle.std.specs.List.Sorted.{IsStrictlySortedBy, IsPermutation, IsSorted}
use Rattle.std.specs.List.Retain.{IsFiltered, DiffersFromLast}
use Rattle.std.specs.Cmp.{unsigned_tied}
use Rattle.std.proofs.lemmas.List.Filters.{dedup_is}
use Rattle.std.proofs.lemmas.List.Kept.{Contains-dedup, Contains-from_dedup, IsStrictlySortedBy-dedup}
use Rattle.std.proofs.lemmas.List.Sorted.{Contains-permutation, IsPermutation-sym}
use Rattle.lalrpop_states.specs.contracts.lr1_core.state.StateIndexPartialEq.TheImpl as index_eq
use Rattle.lalrpop_states.specs.contracts.lr1_core.state.StateIndexEq.TheImpl.Laws as index_equality
use Rattle.lalrpop_state_graph.proofs.theory.graphs.StateGraphs.{state_total}
use Rattle.std.proofs.lemmas.List.Elements.{Contains-append_left, Contains-append_right, Contains-push_cases}
use Rattle.std.proofs.lemmas.List.{nil_from_length}
use Rattle.lalrpop_state_graph.proofs.Types.{StateIndex, Symbol}
use Rattle.lalrpop_grammar.specs.contracts.repr.SymbolPartialEq.TheImpl as symbol_eq
use Rattle.lalrpop_grammar.specs.contracts.repr.SymbolEq.TheImpl.Laws as symbol_equality
use Rattle.lalrpop_grammar.specs.contracts.repr.exact.SymbolExact.TheImpl as symbol_exactly
use Rattle.lalrpop_state_graph.specs.declared.state_graph.StateGraph.{StateGraph}
use Rattle.lalrpop_state_graph.specs.Words.{Edge, edge, state_cmp, AddsStates, HaveSameStates, IsStepBack, sources_over, origins_of, origins, origin_of, IsGraphOf, nowhere, over}
use Rattle.lalrpop_state_graph.specs.graphs.StateGraph.{LeadsTo}
use Rattle.lalrpop_collections.proofs.theory.lists.Members.{Contains-none, contains_head, contains_map, contains_tail, contains-cons, Contains-reverse, Contains-from_reverse}
use Rattle.lalrpop_collections.proofs.theory.lists.Lists.{contains_of_map}
use Rattle.lalrpop_collections.proofs.theory.lists.Filters.{is_kept, kept_holds, of_kept}
use Rattle.lalrpop_state_graph.proofs.theory.graphs.StateNumbers.{same_state}

-- the states in the set now and those that are left are exactly those in the set at the start and
-- those of the whole list
pub record IsAddingStates (left all start now : List StateIndex) : Type 0 where
  pub kept : (r : StateIndex) → Contains start r ⊎ Contains all r → Contains now r ⊎ Contains left r
  pub only : (r : StateIndex) → Contains now r ⊎ Contains left r → Contains start r ⊎ Contains all r

pub adding_states : (left all now : List StateIndex) → left ≡ all → IsAddingStates left all now now
adding_states left all now same = record {
  kept = λ r h. elim h [ inl c ↦ inl c | inr c ↦ inr (rw same c) ];
  only = λ r h. elim h [ inl c ↦ inl c | inr c ↦ inr (rw (← same) c) ];
}

pub one_more_state : (before left all start now next : List StateIndex) (x : StateIndex) → before ≡ x ∷ left → next ≡ now ++ x ∷ [] → IsAddingStates before all start now → IsAddingStates left all start next
one_more_state before left all start now next x first is a = record {
  kept = λ r h. elim (a.kept r h) [
    | inl c ↦ inl (rw is (Contains-append_left now (x ∷ []) r c))
    | inr c ↦ elim (contains-cons x left r (rw first at c)) [ inl e ↦ inl (rw is (Contains-append_right now (x ∷ []) r (rw (← e) (contains_head x [])))) | inr d ↦ inr d ]
  ];
  only = λ r h. a.only r (elim h [
    | inl c ↦ elim (Contains-push_cases now x r (rw is at c)) [ inl d ↦ inl d | inr e ↦ inr (rw (first, ← e) (contains_head x left)) ]
    | inr c ↦ inr (rw first (contains_tail x left r c))
  ]);
}

-- if no state is left, all states were added
pub all_added : (left all states start now : List StateIndex) → left ≡ [] → all ≡ reverse states → IsAddingStates left all start now → AddsStates states start now
all_added left all states start now none is a r = (
  λ c. elim (a.only r (inl c)) [ inl d ↦ inl d | inr d ↦ inr (Contains-from_reverse states r (rw is at d)) ],
  λ h. elim (a.kept r (elim h [ inl d ↦ inl d | inr d ↦ inr (rw is (Contains-reverse states r d)) ])) [ inl d ↦ d | inr d ↦ absurd (Contains-none r (rw none at d)) ],
)

-- ---- one step back of each state of a set
pub record IsSteppingBack (graph : StateGraph) (x : Symbol) (left all now : List StateIndex) : Type 0 where
  pub kept : (s r : StateIndex) → Contains all s → Contains (sources_over graph x s) r → Contains now r ⊎ Contains left s
  pub only : (r : StateIndex) → Contains now r → (s : StateIndex) × Contains all s × Contains (sources_over graph x s) r
  pub part : (s : StateIndex) → Contains left s → Contains all s

pub stepping_none : (graph : StateGraph) (x : Symbol) (left all now : List StateIndex) → left ≡ all → now ≡ [] → IsSteppingBack graph x left all now
stepping_none graph x left all now same none = record {
  kept = λ s r a c. inr (rw same a);
  only = λ r c. absurd (Contains-none r (rw none at c));
  part = λ s c. rw (← same) c;
}

pub stepping_more : (graph : StateGraph) (x : Symbol) (before left all now next : List StateIndex) (s : StateIndex) → before ≡ s ∷ left → AddsStates (sources_over graph x s) now next → IsSteppingBack graph x before all now → IsSteppingBack graph x left all next
stepping_more graph x before left all now next s first added i = record {
  kept = λ q r a c. elim (i.kept q r a c) [
    | inl d ↦ inl ((added r).1 (inl d))
    | inr d ↦ elim (contains-cons s left q (rw first at d)) [ inl e ↦ inl ((added r).1 (inr (let P : StateIndex → Type 0 = λ y. Contains (sources_over graph x y) r in subst P (sym e) c))) | inr f ↦ inr f ]
  ];
  only = λ r c. elim ((added r).0 c) [ inl d ↦ i.only r d | inr d ↦ (s, i.part s (rw first (contains_head s left)), d) ];
  part = λ q c. i.part q (rw first (contains_tail s left q c));
}

pub stepping_all : (graph : StateGraph) (x : Symbol) (left all now : List StateIndex) → left ≡ [] → IsSteppingBack graph x left all now → IsStepBack graph x all now
stepping_all graph x left all now none i r = (
  λ c. i.only r c,
  λ h. elim (i.kept h.0 r h.1 h.2) [ inl d ↦ d | inr d ↦ absurd (Contains-none h.0 (rw none at d)) ],
)

-- a list with the same states as a step back is a step back
pub step_moved : (graph : StateGraph) (x : Symbol) (all now list : List StateIndex) → HaveSameStates now list → IsStepBack graph x all now → IsStepBack graph x all list
step_moved graph x all now list same step r = (λ c. (step r).0 ((same r).0 c), λ h. (same r).1 ((step r).1 h))

-- ---- states in order, each once
abbrev state_eq : StateIndex → StateIndex → Bool
state_eq = index_eq.ghosts.eq

-- sorted states without repeats are the same states
pub ordered_same : (states sorted list : List StateIndex) → IsPermutation states sorted → IsFiltered (DiffersFromLast state_eq) [] sorted list → HaveSameStates states list
ordered_same states sorted list moved kept r =
    let is = dedup_is state_eq sorted list kept in (
      λ c. Contains-permutation sorted states r (IsPermutation-sym states sorted moved) (Contains-from_dedup state_eq sorted r (rw is at c)),
      λ c. rw is (Contains-dedup index_equality.laws-law same_state sorted r (Contains-permutation states sorted r moved c)),
    )

-- sorted states without repeats ascend
pub ordered_ascending : (sorted list : List StateIndex) → IsSorted state_cmp sorted → IsFiltered (DiffersFromLast state_eq) [] sorted list → IsStrictlySortedBy state_cmp list
ordered_ascending sorted list ascend kept = rw (dedup_is state_eq sorted list kept) (IsStrictlySortedBy-dedup state_total (λ x y. sym (unsigned_tied x.0 y.0)) sorted ascend)

-- ---- the sources in a graph of edges
filtered : {X Y : Type 0} (f : X → Y) (p : X → Bool) (xs : List X) (x : X) → Contains xs x → p x ≡ true → Contains (map f (filter p xs)) (f x)
filtered f p xs x c h = contains_map f (filter p xs) x (is_kept p xs x h c)

-- the value comes from an element that passed the test
record Passed {X Y : Type 0} (f : X → Y) (p : X → Bool) (xs : List X) (y : Y) : Type 0 where
  from : X
  among : Contains xs from
  passes : p from ≡ true
  gives : f from ≡ y

passed : {X Y : Type 0} (f : X → Y) (p : X → Bool) (xs : List X) (y : Y) → Contains (map f (filter p xs)) y → Passed f p xs y
passed f p xs y c =
    let (x, kept, gives) = contains_of_map f (filter p xs) y c in
    record { from = x; among = of_kept p xs x kept; passes = kept_holds p xs x kept; gives = gives }

-- the sources over a symbol are those of the edges
pub source_edge : (graph : StateGraph) (es : List Edge) (x : Symbol) (s r : StateIndex) → IsGraphOf es graph → Contains (sources_over graph x s) r → Contains es (edge r x s)
source_edge graph es x s r g c =
    let second = passed (λ (e : Symbol × StateIndex). e.1) (λ (e : Symbol × StateIndex). symbol_eq.ghosts.eq e.0 x) (origins_of graph s) r c in
    let first = passed origin_of (λ (e : Edge). e.target.0 == s.0) es second.from (let P : List (Symbol × StateIndex) → Type 0 = λ os. Contains os second.from in subst P (g.sources s) second.among) in
    let symbol : first.from.symbol ≡ x = ap (λ (p : Symbol × StateIndex). p.0) first.gives ∙ symbol_exactly.Laws.exact-law second.from.0 x second.passes in
    let source : first.from.source ≡ r = ap (λ (p : Symbol × StateIndex). p.1) first.gives ∙ second.gives in
    let target : first.from.target ≡ s = same_state first.from.target s first.passes in
    let same : first.from ≡ edge r x s = ap (λ y. edge y first.from.symbol first.from.target) source ∙ ap (λ y. edge r y first.from.target) symbol ∙ ap (λ y. edge r x y) target in
    let P : Edge → Type 0 = λ e. Contains es e in subst P same first.among

pub edge_source : (graph : StateGraph) (es : List Edge) (x : Symbol) (s r : StateIndex) → IsGraphOf es graph → Contains es (edge r x s) → Contains (sources_over graph x s) r
edge_source graph es x s r g c =
    let first : Contains (origins s es) (x, r) = filtered origin_of (λ (e : Edge). e.target.0 == s.0) es (edge r x s) c (eq-eqb s.0 s.0 refl) in
    let P : List (Symbol × StateIndex) → Type 0 = λ os. Contains os (x, r) in
    filtered (λ (e : Symbol × StateIndex). e.1) (λ (e : Symbol × StateIndex). symbol_eq.ghosts.eq e.0 x) (origins_of graph s) (x, r) (subst P (sym (g.sources s)) first) (symbol_equality.laws-law.refl x)

-- the states from which the last symbols lead to a state, and the symbols before these
pub record IsTracing (graph : StateGraph) (left all : List Symbol) (state : StateIndex) (found : List StateIndex) : Type 0 where
  pub taken : List Symbol
  pub whole : left ++ taken ≡ all
  pub exactly : (es : List Edge) → IsGraphOf es graph → (r : StateIndex) → Contains found r ↔ LeadsTo es r taken state
  pub ascending : IsStrictlySortedBy state_cmp found

at_once : (es : List Edge) (r s : StateIndex) → LeadsTo es r [] s → r ≡ s
at_once es r s nowhere = refl

one_ascends : (state : StateIndex) → IsStrictlySortedBy state_cmp (state ∷ [])
unfolding IsStrictlySortedBy
one_ascends state = (tt, tt)

pub tracing_start : (graph : StateGraph) (symbols : List Symbol) (state : StateIndex) (none found : List StateIndex) → none ≡ [] → found ≡ none ++ state ∷ [] → IsTracing graph symbols symbols state found
tracing_start graph symbols state none found nothing pushed =
    let is : found ≡ state ∷ [] = pushed ∙ ap (λ ks. ks ++ state ∷ []) nothing in record {
      ascending = rw is (one_ascends state);
      taken = [];
      whole = append-nil symbols;
      exactly = λ es g r. (
        λ c. elim (contains-cons state [] r (rw is at c)) [ inl e ↦ (let P : StateIndex → Type 0 = λ s. LeadsTo es s [] state in subst P e nowhere) | inr d ↦ absurd (Contains-none r d) ],
        λ l. rw (is, at_once es r state l) (contains_head state []),
      );
    }

-- the first edge of a path, and the state to which it leads
record FirstEdge (es : List Edge) (r : StateIndex) (x : Symbol) (symbols : List Symbol) (s : StateIndex) : Type 0 where
  middle : StateIndex
  along : Contains es (edge r x middle)
  on : LeadsTo es middle symbols s

first_edge : (es : List Edge) (r : StateIndex) (x : Symbol) (symbols : List Symbol) (s : StateIndex) → LeadsTo es r (x ∷ symbols) s → FirstEdge es r x symbols s
first_edge es r x symbols s (over {m = m} c l) = record { middle = m; along = c; on = l }

pub tracing_more : (graph : StateGraph) (before left all : List Symbol) (x : Symbol) (state : StateIndex) (found next : List StateIndex) → before ≡ left ++ x ∷ [] → IsStepBack graph x found next → IsStrictlySortedBy state_cmp next → IsTracing graph before all state found → IsTracing graph left all state next
tracing_more graph before left all x state found next last step ascends t = record {
  ascending = ascends;
  taken = x ∷ t.taken;
  whole = sym (append_assoc left (x ∷ []) t.taken) ∙ ap (λ xs. xs ++ t.taken) (sym last) ∙ t.whole;
  exactly = λ es g r. (
    λ c. let h = (step r).0 c in over (source_edge graph es x h.0 r g h.2) ((t.exactly es g h.0).0 h.1),
    λ l. let f = first_edge es r x t.taken state l in (step r).1 (f.middle, (t.exactly es g f.middle).1 f.on, edge_source graph es x f.middle r g f.along),
  );
}

pub tracing_all : (graph : StateGraph) (left all : List Symbol) (state : StateIndex) (found : List StateIndex) → length left ≡ 0 → IsTracing graph left all state found → (es : List Edge) → IsGraphOf es graph → (r : StateIndex) → Contains found r ↔ LeadsTo es r all state
tracing_all graph left all state found none t es g r =
    let same : t.taken ≡ all = ap (λ xs. xs ++ t.taken) (sym (nil_from_length left none)) ∙ t.whole in
    let P : List Symbol → Type 0 = λ u. Contains found r ↔ LeadsTo es r u state in
    subst P same (t.exactly es g r)
