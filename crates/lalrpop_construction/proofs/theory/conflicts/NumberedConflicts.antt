-- The list of conflicts of states whose numbers are their indices: the conflicts of each state, and
-- the order of the states.
use Rattle.std.proofs.Common.{◌≡◌, ℕ, zero, suc, ◌+◌, ◌≤◌, inl, inr, List, [], ◌∷◌, ◌++◌, refl, ◌∙◌, ap, subst, arith, Bool, true, false, cond, ◌==◌, eq-eqb, eqb-true, Option, Some, None}
use Rattle.std.specs.Prelude.{Contains, slice_get}
use Rattle.std.specs.List.{filter, flat_map}
use Rattle.std.proofs.lemmas.List.{append-nil}
use Rattle.std.proofs.lemmas.List.Elements.{filter-append, Contains-append_cases}
use Rattle.lalrpop_base.specs.Words.{Bits, has, share, shift_conflict, conflicts_on_place, shift_conflicts, reduce_conflict, later_conflicts, reduce_conflicts}
use Rattle.lalrpop_base.specs.Words.{state_conflicts, place_in}
use Rattle.lalrpop_construction.specs.Words.{listed_of, StatesAscend}
use Rattle.lalrpop_states.specs.declared.lr1_core.state.Action.TheVariants.{Shift}
use Rattle.lalrpop_construction.proofs.Types.{Conflict, State, StateIndex, TerminalString}
use Rattle.lalrpop_collections.proofs.theory.lists.Lists.{contains_of_map, place_contains}
use Rattle.lalrpop_grammar.proofs.theory.conflicts.ConflictLists.{ordered-nil, ordered-append}
use Rattle.lalrpop_construction.proofs.theory.conflicts.ListedConflicts.{CodeReduction}
use Rattle.lalrpop_collections.proofs.theory.lists.Members.{Contains-none, contains_head, contains_tail}

-- ---- filters that keep all, or nothing
kept_all : {X : Type 0} (p : X → Bool) (xs : List X) → ((x : X) → Contains xs x → p x ≡ true) → filter p xs ≡ xs
kept_all p [] h = refl
kept_all p (x ∷ xs) h = ap (λ b. cond b (x ∷ filter p xs) (filter p xs)) (h x (contains_head x xs)) ∙ ap (λ ys. x ∷ ys) (kept_all p xs (λ y c. h y (contains_tail x xs y c)))

kept_none : {X : Type 0} (p : X → Bool) (xs : List X) → ((x : X) → Contains xs x → p x ≡ false) → filter p xs ≡ []
kept_none p [] h = refl
kept_none p (x ∷ xs) h = ap (λ b. cond b (x ∷ filter p xs) (filter p xs)) (h x (contains_head x xs)) ∙ kept_none p xs (λ y c. h y (contains_tail x xs y c))

-- the conflict is one of the state with the number, and its shift is one of the entries
pub record IsOf (number : StateIndex) (es : List (TerminalString × StateIndex)) (c : Conflict Bits) : Type 0 where
  pub state : c.state ≡ number
  pub shift : (t : TerminalString) (target : StateIndex) → c.action ≡ Shift t target → Contains es (t, target)

of_more : (number : StateIndex) (e : TerminalString × StateIndex) (es : List (TerminalString × StateIndex)) (c : Conflict Bits) → IsOf number es c → IsOf number (e ∷ es) c
of_more number e es c h = record { state = h.state; shift = λ t target a. contains_tail e es (t, target) (h.shift t target a) }

-- the numbers of the states are their indices plus k
abbrev pub AreNumberedFrom : ℕ → List (State Bits) → Type 0
AreNumberedFrom k states = (j : ℕ) (s : State Bits) → slice_get states j ≡ Some s → s.index.0 ≡ k + j

module _ (terminals : List TerminalString) where
  -- ---- the conflicts of one state
  module _ (number : StateIndex) where
    shifts_of : (rs : List CodeReduction) (t : TerminalString) (target : StateIndex) (es : List (TerminalString × StateIndex)) (o : Option ℕ) (c : Conflict Bits) → Contains (conflicts_on_place number t target rs o) c → IsOf number ((t, target) ∷ es) c
    shifts_of rs t target es None c i = absurd (Contains-none c i)
    shifts_of rs t target es (Some bit) c i =
        let r = contains_of_map (shift_conflict number t target bit) (filter (λ q. has q.0 bit) rs) c i in
        subst (IsOf number ((t, target) ∷ es)) r.2 (record { state = refl; shift = one r.0 })
      where
        one : (r : CodeReduction) (u : TerminalString) (to : StateIndex) → (shift_conflict number t target bit r).action ≡ Shift u to → Contains ((t, target) ∷ es) (u, to)
        one r u to a =
            let e : t ≡ u = cc in
            let f : target ≡ to = cc in
            subst (λ (v : TerminalString). Contains ((t, target) ∷ es) (v, to)) e (subst (λ (n : StateIndex). Contains ((t, target) ∷ es) (t, n)) f (contains_head (t, target) es))

    all_shifts_of : (rs : List CodeReduction) (es : List (TerminalString × StateIndex)) (c : Conflict Bits) → Contains (flat_map (shift_conflicts terminals number rs) es) c → IsOf number es c
    all_shifts_of rs [] c i = absurd (Contains-none c i)
    all_shifts_of rs ((t, target) ∷ es) c i = elim (Contains-append_cases (conflicts_on_place number t target rs (place_in terminals t)) (flat_map (shift_conflicts terminals number rs) es) c i) [
      | inl here ↦ shifts_of rs t target es (place_in terminals t) c here
      | inr later ↦ of_more number (t, target) es c (all_shifts_of rs es c later)
    ]

    reduction_of : (r q : CodeReduction) (es : List (TerminalString × StateIndex)) → IsOf number es (reduce_conflict number r q)
    reduction_of r q es = record { state = refl; shift = λ t target a. cc }

    reductions_of : (rs : List CodeReduction) (es : List (TerminalString × StateIndex)) (c : Conflict Bits) → Contains (reduce_conflicts number rs) c → IsOf number es c
    reductions_of [] es c i = absurd (Contains-none c i)
    reductions_of (r ∷ rs) es c i = elim (Contains-append_cases (later_conflicts number r rs) (reduce_conflicts number rs) c i) [
      | inl here ↦ let q = contains_of_map (reduce_conflict number r) (filter (λ s. share r.0 s.0) rs) c here in subst (IsOf number es) q.2 (reduction_of r q.0 es)
      | inr later ↦ reductions_of rs es c later
    ]

  pub conflict_is_of : (state : State Bits) (c : Conflict Bits) → Contains (state_conflicts terminals state) c → IsOf state.index state.shifts.entries c
  conflict_is_of state c i = elim (Contains-append_cases (flat_map (shift_conflicts terminals state.index state.reductions.items) state.shifts.entries) (reduce_conflicts state.index state.reductions.items) c i) [
    | inl s ↦ all_shifts_of state.index state.reductions.items state.shifts.entries c s
    | inr r ↦ reductions_of state.index state.reductions.items state.shifts.entries c r
  ]

  -- ---- the conflicts of all states
  abbrev all_of : List (State Bits) → List (Conflict Bits)
  all_of states = flat_map (state_conflicts terminals) states

  rest_numbered : (k : ℕ) (x : State Bits) (xs : List (State Bits)) → AreNumberedFrom k (x ∷ xs) → AreNumberedFrom (suc k) xs
  rest_numbered k x xs h j s at = let e = h (suc j) s at in omega arith

  own : (k : ℕ) (x : State Bits) (xs : List (State Bits)) → AreNumberedFrom k (x ∷ xs) → (c : Conflict Bits) → Contains (state_conflicts terminals x) c → c.state.0 ≡ k
  own k x xs h c i =
      let e : c.state.0 ≡ x.index.0 = ap (λ (n : StateIndex). n.0) (conflict_is_of x c i).state in
      let f = h 0 x refl in
      omega arith

  from : (k : ℕ) (states : List (State Bits)) → AreNumberedFrom k states → (c : Conflict Bits) → Contains (all_of states) c → k ≤ c.state.0
  from k [] h c i = absurd (Contains-none c i)
  from k (x ∷ xs) h c i = elim (Contains-append_cases (state_conflicts terminals x) (all_of xs) c i) [
    | inl here ↦ let e = own k x xs h c here in omega arith
    | inr later ↦ let l = from (suc k) xs (rest_numbered k x xs h) c later in omega arith
  ]

  differs : (m n : ℕ) (b : Bool) → (m == n) ≡ b → (m ≡ n → ⊥) → b ≡ false
  differs m n true e out = absurd (out (eqb-true m n e))
  differs m n false e out = refl

  -- the conflicts of a state, if there is one
  abbrev pub conflicts_at : Option (State Bits) → List (Conflict Bits)
  conflicts_at None = []
  conflicts_at (Some s) = state_conflicts terminals s

  pub Listed-at : (k : ℕ) (states : List (State Bits)) (j n : ℕ) → AreNumberedFrom k states → n ≡ k + j → listed_of n (all_of states) ≡ conflicts_at (slice_get states j)
  Listed-at k [] j n h e = refl
  Listed-at k (x ∷ xs) zero n h e =
      filter-append (λ c. c.state.0 == n) (state_conflicts terminals x) (all_of xs)
      ∙ ap (λ ys. ys ++ listed_of n (all_of xs)) (kept_all (λ c. c.state.0 == n) (state_conflicts terminals x) (λ c i. let f = own k x xs h c i in eq-eqb c.state.0 n (omega arith)))
      ∙ ap (λ ys. state_conflicts terminals x ++ ys) (kept_none (λ c. c.state.0 == n) (all_of xs) (λ c i. differs c.state.0 n (c.state.0 == n) refl (λ same. let l = from (suc k) xs (rest_numbered k x xs h) c i in omega arith)))
      ∙ append-nil (state_conflicts terminals x)
  Listed-at k (x ∷ xs) (suc j) n h e =
      filter-append (λ c. c.state.0 == n) (state_conflicts terminals x) (all_of xs)
      ∙ ap (λ ys. ys ++ listed_of n (all_of xs)) (kept_none (λ c. c.state.0 == n) (state_conflicts terminals x) (λ c i. differs c.state.0 n (c.state.0 == n) refl (λ same. let f = own k x xs h c i in omega arith)))
      ∙ Listed-at (suc k) xs j n (rest_numbered k x xs h) (omega arith)

  pub Listed-ascend : (k : ℕ) (states : List (State Bits)) → AreNumberedFrom k states → StatesAscend (all_of states)
  Listed-ascend k [] h = ordered-nil _
  Listed-ascend k (x ∷ xs) h = ordered-append (λ (c d : Conflict Bits). c.state.0 ≤ d.state.0) (state_conflicts terminals x) (all_of xs)
      (λ i j c d l at_i at_j. let e = own k x xs h c (place_contains (state_conflicts terminals x) i c at_i) in let f = own k x xs h d (place_contains (state_conflicts terminals x) j d at_j) in omega arith)
      (Listed-ascend (suc k) xs (rest_numbered k x xs h))
      (λ c d i j. let e = own k x xs h c i in let f = from (suc k) xs (rest_numbered k x xs h) d j in omega arith)

  -- each conflict of the list is one of a state
  pub Listed-from : (k : ℕ) (states : List (State Bits)) → AreNumberedFrom k states → (c : Conflict Bits) → Contains (all_of states) c → (j : ℕ) × (s : State Bits) × (slice_get states j ≡ Some s) × (c.state.0 ≡ k + j) × IsOf s.index s.shifts.entries c
  Listed-from k [] h c i = absurd (Contains-none c i)
  Listed-from k (x ∷ xs) h c i = elim (Contains-append_cases (state_conflicts terminals x) (all_of xs) c i) [
    | inl here ↦ (0, x, refl, let e = own k x xs h c here in omega arith, conflict_is_of x c here)
    | inr later ↦ let r = Listed-from (suc k) xs (rest_numbered k x xs h) c later in (suc r.0, r.1, r.2, let e = r.3 in omega arith, r.4)
  ]
