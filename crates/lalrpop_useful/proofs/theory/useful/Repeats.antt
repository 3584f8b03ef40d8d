-- Productions that repeat a right side: one place and one nonterminal more.
use Rattle.std.proofs.Common.{◌≡◌, ℕ, zero, suc, ◌+◌, ◌<◌, ◌≤◌, ◌⊎◌, inl, inr, List, [], ◌∷◌, length, refl, sym, subst, ap, arith, Option, Some, None}
use Rattle.std.specs.Prelude.{Contains, ◌↔◌}
use Rattle.std.specs.BTreeMap.{is_at, get, IsOrdered}
use Rattle.std.specs.Map.{lookup}
use Rattle.std.proofs.lemmas.Map.Entries.{place_from_lookup, btree_map_get_place}
use Rattle.std.proofs.lemmas.Option.{slice_get_within}
use Rattle.lalrpop_collections.proofs.theory.lists.Lists.{contains_place, place_contains, some≢none}
use Rattle.lalrpop_collections.proofs.theory.lists.Members.{Contains-none, contains_head, contains_tail, contains-cons}
use Rattle.lalrpop_grammar.specs.Words.{name_cmp, listed_productions}
use Rattle.lalrpop_grammar.proofs.theory.first.FirstNames.{name_total}
use Rattle.lalrpop_grammar.proofs.theory.grammars.NewStart.{below}
use Rattle.lalrpop_useful.proofs.Types.{Grammar, NonterminalData, NonterminalString, Production, Symbol}
use Rattle.lalrpop_useful.specs.Words.{AddsRepeats, IsFirstWith, IsRepeat, RepeatsAt, RepeatsBelow}

abbrev Pair : Type 0
Pair = Production × Production

-- ---- what is added in turn
pub Repeats-none : (A : Production → Production → Type 0) (pairs : List Pair) → ((later first : Production) → A later first → ⊥) → AddsRepeats A pairs pairs
Repeats-none A pairs none later first = (λ c. inl c, λ h. elim h [ inl o ↦ o | inr a ↦ absurd (none later first a) ])

pub Repeats-then : (A B C : Production → Production → Type 0) → ((q p : Production) → A q p → C q p) → ((q p : Production) → B q p → C q p) → ((q p : Production) → C q p → A q p ⊎ B q p) → (a b c : List Pair) → AddsRepeats A a b → AddsRepeats B b c → AddsRepeats C a c
Repeats-then A B C left right cases a b c x y q p = (
  λ h. elim ((y q p).0 h) [
    | inl m ↦ elim ((x q p).0 m) [ inl o ↦ inl o | inr k ↦ inr (left q p k) ]
    | inr k ↦ inr (right q p k)
  ],
  λ h. elim h [
    | inl o ↦ (y q p).1 (inl ((x q p).1 (inl o)))
    | inr k ↦ elim (cases q p k) [ inl m ↦ (y q p).1 (inl ((x q p).1 (inr m))) | inr m ↦ (y q p).1 (inr m) ]
  ],
)

pub Repeats-same : (A B : Production → Production → Type 0) → ((q p : Production) → A q p → B q p) → ((q p : Production) → B q p → A q p) → (a b : List Pair) → AddsRepeats A a b → AddsRepeats B a b
Repeats-same A B to from a b x q p = (
  λ h. elim ((x q p).0 h) [ inl o ↦ inl o | inr k ↦ inr (to q p k) ],
  λ h. (x q p).1 (elim h [ inl o ↦ inl o | inr k ↦ inr (from q p k) ]),
)

-- ---- places
module _ (ps : List Production) where
  pub Places-none : (pairs : List Pair) → AddsRepeats (RepeatsBelow ps 0) pairs pairs
  Places-none pairs = Repeats-none (RepeatsBelow ps 0) pairs (λ q p h. let l = h.1 in absurd (omega arith))

  pub Places-more : (n : ℕ) (a b c : List Pair) → AddsRepeats (RepeatsBelow ps n) a b → AddsRepeats (RepeatsAt ps n) b c → AddsRepeats (RepeatsBelow ps (n + 1)) a c
  Places-more n a b c x y =
      Repeats-then (RepeatsBelow ps n) (RepeatsAt ps n) (RepeatsBelow ps (n + 1))
      (λ q p h. (h.0, omega (arith, h.1), h.2))
      (λ q p h. (n, omega arith, h))
      (λ q p h. elim (below h.0 n (omega (arith, h.1))) [
        | inl less ↦ inl (h.0, less, h.2)
        | inr e ↦ inr (subst (λ m. RepeatsAt ps m q p) e h.2)
      ])
      a b c x y

  pub Places-all : (n : ℕ) (a b : List Pair) → length ps ≤ n → AddsRepeats (RepeatsBelow ps n) a b → AddsRepeats (RepeatsBelow ps (length ps)) a b
  Places-all n a b past x =
      Repeats-same (RepeatsBelow ps n) (RepeatsBelow ps (length ps))
      (λ q p h. (h.0, slice_get_within ps h.0 q h.2.there, h.2))
      (λ q p h. (h.0, omega (arith, h.1, past), h.2))
      a b x

  -- at one place
  same_first : (symbols : List Symbol) (i j : ℕ) (p q : Production) → IsFirstWith ps symbols i p → IsFirstWith ps symbols j q → i ≡ j
  same_first symbols i j p q x y = elim (apart i j) [
    | inl less ↦ absurd (y.none i p less x.there x.same)
    | inr r ↦ elim r [ inl more ↦ absurd (x.none j q more y.there y.same) | inr e ↦ e ]
  ]
    where
      apart : (i j : ℕ) → (i < j) ⊎ ((j < i) ⊎ (i ≡ j))
      apart zero zero = inr (inr refl)
      apart zero (suc j) = inl (omega arith)
      apart (suc i) zero = inr (inl (omega arith))
      apart (suc i) (suc j) = elim (apart i j) [ inl l ↦ inl (omega (arith, l)) | inr r ↦ elim r [ inl l ↦ inr (inl (omega (arith, l))) | inr e ↦ inr (inr (ap suc e)) ] ]

-- ---- nonterminals
abbrev Entry : Type 0
Entry = NonterminalString × NonterminalData

abbrev listed : Entry → List Production
listed e = e.1.productions.items

abbrev AllRepeats : List Production → Production → Production → Type 0
AllRepeats ps q p = RepeatsBelow ps (length ps) q p

-- one of some entries has such
abbrev pub OfEntries : List Entry → Production → Production → Type 0
OfEntries es q p = (e : Entry) × Contains es e × AllRepeats (listed e) q p

-- what is found so far, and what the entries that are left have
abbrev pub IsSearching : List Entry → List Entry → List Pair → Type 0
IsSearching whole rest pairs = (q p : Production) → (Contains pairs (q, p) ⊎ OfEntries rest q p) ↔ OfEntries whole q p

pub Searching-start : (whole : List Entry) (pairs : List Pair) → pairs ≡ [] → IsSearching whole whole pairs
Searching-start whole pairs none q p = (
  λ h. elim h [ inl c ↦ absurd (Contains-none (q, p) (subst (λ (xs : List Pair). Contains xs (q, p)) none c)) | inr o ↦ o ],
  λ o. inr o,
)

pub Searching-step : (name : NonterminalString) (entry : NonterminalData) (whole left rest : List Entry) (old new : List Pair) → left ≡ (name, entry) ∷ rest → IsSearching whole left old → AddsRepeats (AllRepeats entry.productions.items) old new → IsSearching whole rest new
Searching-step name entry whole left rest old new e h adds q p =
    let head : Contains left (name, entry) = subst (λ (es : List Entry). Contains es (name, entry)) (sym e) (contains_head (name, entry) rest) in (
      λ x. elim x [
        | inl c ↦ elim ((adds q p).0 c) [
          | inl o ↦ (h q p).0 (inl o)
          | inr r ↦ (h q p).0 (inr ((name, entry), head, r))
        ]
        | inr o ↦ (h q p).0 (inr (o.0, subst (λ (es : List Entry). Contains es o.0) (sym e) (contains_tail (name, entry) rest o.0 o.1), o.2))
      ],
      λ o. elim ((h q p).1 o) [
        | inl c ↦ inl ((adds q p).1 (inl c))
        | inr r ↦ elim (contains-cons (name, entry) rest r.0 (subst (λ (es : List Entry). Contains es r.0) e r.1)) [
          | inl s ↦ inl ((adds q p).1 (inr (subst (λ (x : Entry). AllRepeats (listed x) q p) (sym s) r.2)))
          | inr t ↦ inr (r.0, t, r.2)
        ]
      ],
    )

module _ (g : Grammar) (ordered : IsOrdered name_cmp g.nonterminals) where
  of_name : (q p : Production) → OfEntries g.nonterminals.entries q p → IsRepeat g q p
  of_name q p o =
      let at = contains_place g.nonterminals.entries o.0 o.1 in
      let found : get name_cmp g.nonterminals o.0.0 ≡ Some o.0.1 = btree_map_get_place name_total g.nonterminals at.0 o.0.0 o.0.1 ordered at.1 in
      (o.0.0, subst (λ (x : Option NonterminalData). AllRepeats (listed_productions x) q p) (sym found) o.2)

  of_entry : (name : NonterminalString) (found : Option NonterminalData) → lookup (is_at (name_cmp name)) g.nonterminals.entries ≡ found → (q p : Production) → AllRepeats (listed_productions found) q p → OfEntries g.nonterminals.entries q p
  of_entry name None e q p r = absurd (some≢none (sym r.2.there))
  of_entry name (Some entry) e q p r =
      let at = place_from_lookup (is_at (name_cmp name)) g.nonterminals.entries entry e in
      ((at.1, entry), place_contains g.nonterminals.entries at.0 (at.1, entry) at.2, r)

  pub Searching-end : (pairs : List Pair) → IsSearching g.nonterminals.entries [] pairs → (q p : Production) → Contains pairs (q, p) ↔ IsRepeat g q p
  Searching-end pairs h q p = (
    λ c. of_name q p ((h q p).0 (inl c)),
    λ r. elim ((h q p).1 (of_entry r.0 (lookup (is_at (name_cmp r.0)) g.nonterminals.entries) refl q p r.1)) [
      | inl c ↦ c
      | inr o ↦ absurd (Contains-none o.0 o.1)
    ],
  )
