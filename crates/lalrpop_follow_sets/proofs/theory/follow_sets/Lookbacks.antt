-- The ends of walks: lists of finished items with nodes, and one entry more.
use Rattle.std.proofs.Common.{◌≡◌, ◌∙◌, ◌↔◌, ◌⊎◌, inl, inr, ℕ, ◌+◌, ◌<◌, List, [], ◌∷◌, ◌++◌, length, length-append, get_or, refl, sym, ap, subst, arith, slice_set}
use Rattle.std.specs.Prelude.{slice_get, Option, Some, None, Contains}
use Rattle.std.specs.declared.alloc.Global.{Global}
use Rattle.std.specs.declared.vec.Vec.{Vec}
use Rattle.lalrpop_follow_sets.proofs.Types.{Production}
use Rattle.lalrpop_follow_sets.specs.follow_sets.FollowNodes.{IsPass}
use Rattle.lalrpop_follow_sets.specs.follow_sets.FollowWalks.{AreEmptyLists, EndsAt, IsEndOfWalk, NotesEnds, entries_at, listed_entries}
use Rattle.lalrpop_base.specs.Words.{with_dot}
use Rattle.lalrpop_follow_sets.specs.declared.follow_sets.pass.Pass.{Pass}
use Rattle.lalrpop_follow_sets.proofs.theory.follow_sets.FollowSteps.{those_pushed}
use Rattle.lalrpop_collections.proofs.theory.lists.Members.{Contains-none}
use Rattle.lalrpop_states.proofs.theory.collapse.Merging.{set_elsewhere, set_here, set_length}
use Rattle.lalrpop_construction.proofs.theory.numbers.Numbers.{dotted_differ}
use Rattle.lalrpop_collections.proofs.theory.lists.Places.{one_place, places_apart, push_cases, same_some, slice_get_at}

-- the finished items of a state, with nodes
abbrev Entries : Type 0
Entries = Vec (ℕ × ℕ) Global

-- ---- empty lists
-- no lists are empty lists
pub empty_none : AreEmptyLists 0 []
empty_none = record { counted = refl; empty = λ s e c. Contains-none e c }

-- one empty list more
pub empty_more : (count : ℕ) (lookback : List Entries) (none : Entries) → none.items ≡ [] → AreEmptyLists count lookback → AreEmptyLists (count + 1) (lookback ++ none ∷ [])
empty_more count lookback none is before = record {
  counted = length-append lookback (none ∷ []) ∙ ap (λ n. n + 1) before.counted;
  empty = λ s e c. go s e (slice_get (lookback ++ none ∷ []) s) refl c;
}
  where
    go : (s : ℕ) (e : ℕ × ℕ) (o : Option Entries) → slice_get (lookback ++ none ∷ []) s ≡ o → Contains (listed_entries o) e → ⊥
    go s e None at c = Contains-none e c
    go s e (Some v) at c = elim (push_cases lookback none s v at) [
      | inl was ↦ before.empty s e (subst (λ (o : Option Entries). Contains (listed_entries o) e) (sym was) c)
      | inr end ↦ Contains-none e (subst (λ (l : List (ℕ × ℕ)). Contains l e) (ap (λ (w : Entries). w.items) (sym end.1) ∙ is) c)
    ]

-- ---- entries of a node
-- one list got an entry
pub note_one : (node item state : ℕ) (old : List Entries) (before after : Entries) → state < length old → before ≡ get_or old state before → after.items ≡ before.items ++ (item, node) ∷ [] → NotesEnds node (λ s k. (s ≡ state) × (k ≡ item)) old (slice_set old state after)
note_one node item state old before after listed was more = record {
  counted = set_length old state after;
  entries = λ s k n. elim (places_apart s state) [
    | inl less ↦ elsewhere s k n (λ e. omega arith)
    | inr other ↦ elim other [ inl greater ↦ elsewhere s k n (λ e. omega arith) | inr same ↦ here s k n same ]
  ];
}
  where
    elsewhere : (s k n : ℕ) → (s ≡ state → ⊥) → Contains (entries_at (slice_set old state after) s) (k, n) ↔ (Contains (entries_at old s) (k, n) ⊎ ((n ≡ node) × ((s ≡ state) × (k ≡ item))))
    elsewhere s k n apart =
        let same : entries_at (slice_set old state after) s ≡ entries_at old s = ap listed_entries (set_elsewhere old state s after apart) in (
          λ c. inl (subst (λ (l : List (ℕ × ℕ)). Contains l (k, n)) same c),
          λ e. elim e [ inl c ↦ subst (λ (l : List (ℕ × ℕ)). Contains l (k, n)) (sym same) c | inr new ↦ absurd (apart new.1.0) ],
        )

    here : (s k n : ℕ) → s ≡ state → Contains (entries_at (slice_set old state after) s) (k, n) ↔ (Contains (entries_at old s) (k, n) ⊎ ((n ≡ node) × ((s ≡ state) × (k ≡ item))))
    here s k n is =
        let first : entries_at old s ≡ before.items = ap listed_entries (ap (slice_get old) is ∙ slice_get_at old state before listed was) in
        let second : entries_at (slice_set old state after) s ≡ before.items ++ (item, node) ∷ [] = ap listed_entries (ap (slice_get (slice_set old state after)) is ∙ set_here old state after listed) ∙ more in
        let step = those_pushed (λ (e : ℕ × ℕ). (e.1 ≡ node) × (e.0 ≡ item)) before.items (item, node) (refl, refl) (λ e such. pair item node e such) (k, n) in (
          λ c. elim (step.0 (subst (λ (l : List (ℕ × ℕ)). Contains l (k, n)) second c)) [
            | inl was ↦ inl (subst (λ (l : List (ℕ × ℕ)). Contains l (k, n)) (sym first) was)
            | inr new ↦ inr (new.0, (is, new.1))
          ],
          λ e. subst (λ (l : List (ℕ × ℕ)). Contains l (k, n)) (sym second) (step.1 (elim e [
            | inl was ↦ inl (subst (λ (l : List (ℕ × ℕ)). Contains l (k, n)) first was)
            | inr new ↦ inr (new.0, new.1.1)
          ])),
        )
      where
        pair : (i m : ℕ) (e : ℕ × ℕ) → (e.1 ≡ m) × (e.0 ≡ i) → (i, m) ≡ e
        pair i m e such = ap (λ (j : ℕ). (j, m)) (sym such.1) ∙ ap (λ (j : ℕ). (e.0, j)) (sym such.0)

-- equivalent conditions note the same entries
pub note_as : (node : ℕ) (P Q : ℕ → ℕ → Type 0) (old new : List Entries) → ((s k : ℕ) → P s k ↔ Q s k) → NotesEnds node P old new → NotesEnds node Q old new
note_as node P Q old new same notes = record {
  counted = notes.counted;
  entries = λ s k n. (
    λ c. elim ((notes.entries s k n).0 c) [ inl was ↦ inl was | inr p ↦ inr (p.0, (same s k).0 p.1) ],
    λ e. (notes.entries s k n).1 (elim e [ inl was ↦ inl was | inr q ↦ inr (q.0, (same s k).1 q.1) ]),
  );
}

-- entries of one kind, and then of another
pub note_both : (node : ℕ) (P Q R : ℕ → ℕ → Type 0) (old middle new : List Entries) → ((s k : ℕ) → R s k ↔ (P s k ⊎ Q s k)) → NotesEnds node P old middle → NotesEnds node Q middle new → NotesEnds node R old new
note_both node P Q R old middle new either first second = record {
  counted = second.counted ∙ first.counted;
  entries = λ s k n. (
    λ c. elim ((second.entries s k n).0 c) [
      | inl later ↦ elim ((first.entries s k n).0 later) [ inl was ↦ inl was | inr p ↦ inr (p.0, (either s k).1 (inl p.1)) ]
      | inr q ↦ inr (q.0, (either s k).1 (inr q.1))
    ],
    λ e. elim e [
      | inl was ↦ (second.entries s k n).1 (inl ((first.entries s k n).1 (inl was)))
      | inr r ↦ elim ((either s k).0 r.1) [
        | inl p ↦ (second.entries s k n).1 (inl ((first.entries s k n).1 (inr (r.0, p))))
        | inr q ↦ (second.entries s k n).1 (inr (r.0, q))
      ]
    ],
  );
}

-- ---- ends of walks
module _ (pass : Pass) (ok : IsPass pass) (from : ℕ) (q : Production) where
  -- a walk that leads to a state ends in this state alone, at one finished item
  pub ends_there : (state item : ℕ) → IsEndOfWalk pass from q (Some (state, item)) → (s k : ℕ) → ((s ≡ state) × (k ≡ item)) ↔ EndsAt pass from q s k
  ends_there state item end s k = (
    λ e. (end.0 ∙ ap Some (sym e.0), ap (slice_get pass.numbers.now.items.items) e.1 ∙ end.2),
    λ at. (same_some s state (sym at.0 ∙ end.0), one_place pass.numbers.now.items.items (dotted_differ pass.numbers.now.items.items ok.numbers.items.ascend) k item (with_dot q (length q.symbols)) at.1 end.2),
  )
