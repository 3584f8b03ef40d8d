-- The edges that flags cross in rounds are those of shortest paths.
use Rattle.std.proofs.Common.{◌≡◌, ℕ, zero, suc, ◌+◌, ◌<◌, ◌≤◌, ◌⊎◌, inl, inr, Bool, true, false, not, ◌&&◌, cond, List, [], ◌∷◌, ◌++◌, length, get_or, set, replicate, refl, sym, ap, ◌∙◌, arith, subst, map}
use Rattle.std.specs.Prelude.{Contains, filter}
use Rattle.std.proofs.lemmas.Bool.{cases_lt, true≢false}
use Rattle.std.proofs.lemmas.List.{get_or_default}
use Rattle.std.proofs.lemmas.List.Elements.{Contains-append_cases, Contains-append_left, Contains-append_right}
use Rattle.lalrpop_collections.proofs.theory.lists.Lists.{contains-cons, contains_head, contains_tail}
use Rattle.lalrpop_collections.proofs.theory.lists.Members.{Contains-none}
use Rattle.table_pictures.specs.Paths.{AreEdgesBelow, AreOnShortest, IsOnShortest, IsEdgePath, IsWithin, turned}
use Rattle.table_pictures.specs.Rounds.{crosses, edges_crossed, flags_after, sent_over}
use Rattle.table_pictures.proofs.PathRounds.{IsSet, and_first, and_second, came, counted, kept, not_true, one_set, only_set, path_back, path_turned, set_length, set_within, still, there, turned_contains}

-- ---- how many flags are set
set_count : List Bool → ℕ
set_count [] = 0
set_count (b ∷ flags) = cond b 1 0 + set_count flags

few_set : (flags : List Bool) → set_count flags ≤ length flags
unfolding set_count
few_set [] = omega arith
few_set (true ∷ flags) = omega (arith, few_set flags)
few_set (false ∷ flags) = omega (arith, few_set flags)

all_set : (flags : List Bool) → length flags ≤ set_count flags → (k : ℕ) → get_or flags k true ≡ true
unfolding set_count
all_set [] h k = refl
all_set (true ∷ flags) h zero = refl
all_set (true ∷ flags) h (suc k) = all_set flags (omega (arith, h)) k
all_set (false ∷ flags) h k = absurd (omega (arith, h, few_set flags))

put_more : (flags : List Bool) (j : ℕ) → get_or flags j true ≡ false → set_count flags < set_count (set flags j true)
unfolding set_count
put_more [] j h = absurd (true≢false h)
put_more (true ∷ flags) zero h = absurd (true≢false h)
put_more (false ∷ flags) zero h = omega arith
put_more (true ∷ flags) (suc j) h = omega (arith, put_more flags j h)
put_more (false ∷ flags) (suc j) h = omega (arith, put_more flags j h)

put_least : (flags : List Bool) (j : ℕ) → set_count flags ≤ set_count (set flags j true)
unfolding set_count
put_least [] j = omega arith
put_least (true ∷ flags) zero = omega arith
put_least (false ∷ flags) zero = omega arith
put_least (true ∷ flags) (suc j) = omega (arith, put_least flags j)
put_least (false ∷ flags) (suc j) = omega (arith, put_least flags j)

put_or_not : (c : Bool) (flags : List Bool) (j : ℕ) → set_count flags ≤ set_count (cond c (set flags j true) flags)
put_or_not true flags j = put_least flags j
put_or_not false flags j = omega arith

module _ (old : List Bool) where
  sent_least : (es : List (ℕ × ℕ)) (new : List Bool) → set_count new ≤ set_count (sent_over old es new)
  sent_least [] new = omega arith
  sent_least (e ∷ es) new = omega (arith, put_or_not (crosses old e) new e.1, sent_least es (cond (crosses old e) (set new e.1 true) new))

  grows_at : (c : Bool) (e : ℕ × ℕ) (es : List (ℕ × ℕ)) → crosses old e ≡ c → (filter (crosses old) es ≡ []) ⊎ (set_count old < set_count (sent_over old es old)) →
      (cond c (e ∷ filter (crosses old) es) (filter (crosses old) es) ≡ []) ⊎ (set_count old < set_count (sent_over old es (cond c (set old e.1 true) old)))
  grows_at false e es is h = h
  grows_at true e es is h =
      let free : get_or old e.1 true ≡ false = not_true (get_or old e.1 true) (and_second (get_or old e.0 false) (not (get_or old e.1 true)) is) in
      inr (omega (arith, put_more old e.1 free, sent_least es (set old e.1 true)))

  -- a round crosses no edge, or sets a flag more
  grows : (es : List (ℕ × ℕ)) → (filter (crosses old) es ≡ []) ⊎ (set_count old < set_count (sent_over old es old))
  grows [] = inl refl
  grows (e ∷ es) = grows_at (crosses old e) e es refl (grows es)

no_crossing : (flags : List Bool) → ((k : ℕ) → get_or flags k true ≡ true) → (a : Bool) (k : ℕ) → (a && not (get_or flags k true)) ≡ false
no_crossing flags all true k = ap not (all k)
no_crossing flags all false k = refl

none_crosses : (flags : List Bool) → ((k : ℕ) → get_or flags k true ≡ true) → (es : List (ℕ × ℕ)) → filter (crosses flags) es ≡ []
none_crosses flags all [] = refl
none_crosses flags all (e ∷ es) = ap (λ c. cond c (e ∷ filter (crosses flags) es) (filter (crosses flags) es)) (no_crossing flags all (get_or flags e.0 false) e.1) ∙ none_crosses flags all es

module _ (es : List (ℕ × ℕ)) (f : List Bool) where
  stays_still : (i : ℕ) → filter (crosses (flags_after es f i)) es ≡ [] → (n : ℕ) → i ≤ n → filter (crosses (flags_after es f n)) es ≡ []
  stays_still i h n l = subst (λ g. filter (crosses g) es ≡ []) (sym (still es f i h n l).0) h

  still_or_many : (i : ℕ) → (filter (crosses (flags_after es f i)) es ≡ []) ⊎ (i ≤ set_count (flags_after es f i))
  still_or_many zero = inr (omega arith)
  still_or_many (suc i) = elim (still_or_many i) [
    | inl h ↦ inl (stays_still i h (suc i) (omega arith))
    | inr many ↦ elim (grows (flags_after es f i) es) [
      | inl h ↦ inl (stays_still i h (suc i) (omega arith))
      | inr more ↦ inr (omega (arith, many, more))
    ]
  ]

  -- after as many rounds as there are flags, no edge is crossed
  pub closed : filter (crosses (flags_after es f (length f))) es ≡ []
  closed = elim (still_or_many (length f)) [
    | inl h ↦ h
    | inr many ↦ none_crosses (flags_after es f (length f)) (all_set (flags_after es f (length f)) (omega (arith, many, counted es f (length f)))) es
  ]

  closed_at : (n : ℕ) → length f ≤ n → flags_after es f n ≡ flags_after es f (length f)
  closed_at n l = (still es f (length f) closed n l).0

  -- a number to which a path leads has its flag after as many rounds as there are flags
  pub led_to : ((a b : ℕ) → Contains es (a, b) → b < length f) → (s n k : ℕ) → IsSet f s → IsEdgePath es s n k → IsSet (flags_after es f (length f)) k
  led_to ends s n k h p =
      let at : IsSet (flags_after es f n) k = there es f ends s n k h (n, omega arith, p) in
      elim (cases_lt (length f) n) [
        | inl less ↦ subst (λ g. IsSet g k) (closed_at n (omega (arith, less))) at
        | inr past ↦ kept es f n (length f) k past at
      ]

  -- ---- the edges that are crossed
  pub contains_filter : (p : ℕ × ℕ → Bool) (xs : List (ℕ × ℕ)) (x : ℕ × ℕ) → Contains xs x → p x ≡ true → Contains (filter p xs) x
  contains_filter p [] x c h = absurd (Contains-none x c)
  contains_filter p (y ∷ xs) x c h = elim (contains-cons y xs x c) [
    | inl same ↦ subst (λ z. Contains (cond (p z) (z ∷ filter p xs) (filter p xs)) x) (sym same) (subst (λ b. Contains (cond b (x ∷ filter p xs) (filter p xs)) x) (sym h) (contains_head x (filter p xs)))
    | inr later ↦ either_way (p y) y (filter p xs) x (contains_filter p xs x later h)
  ]
    where
      either_way : (b : Bool) (y : ℕ × ℕ) (xs : List (ℕ × ℕ)) (x : ℕ × ℕ) → Contains xs x → Contains (cond b (y ∷ xs) xs) x
      either_way true y xs x c = contains_tail y xs x c
      either_way false y xs x c = c

  of_filter_at : (b : Bool) (p : ℕ × ℕ → Bool) (y : ℕ × ℕ) (xs : List (ℕ × ℕ)) (x : ℕ × ℕ) → p y ≡ b → (Contains (filter p xs) x → Contains xs x × (p x ≡ true)) → Contains (cond b (y ∷ filter p xs) (filter p xs)) x → Contains (y ∷ xs) x × (p x ≡ true)
  of_filter_at true p y xs x is later c = elim (contains-cons y (filter p xs) x c) [
    | inl same ↦ (subst (Contains (y ∷ xs)) same (contains_head y xs), subst (λ z. p z ≡ true) same is)
    | inr d ↦ let r = later d in (contains_tail y xs x r.0, r.1)
  ]
  of_filter_at false p y xs x is later c = let r = later c in (contains_tail y xs x r.0, r.1)

  pub of_filter : (p : ℕ × ℕ → Bool) (xs : List (ℕ × ℕ)) (x : ℕ × ℕ) → Contains (filter p xs) x → Contains xs x × (p x ≡ true)
  of_filter p [] x c = absurd (Contains-none x c)
  of_filter p (y ∷ xs) x c = of_filter_at (p y) p y xs x refl (of_filter p xs x) c

  pub crossed_from : (n : ℕ) (e : ℕ × ℕ) → Contains (edges_crossed es f n) e → (i : ℕ) × Contains es e × (crosses (flags_after es f i) e ≡ true)
  crossed_from zero e c = absurd (Contains-none e c)
  crossed_from (suc n) e c = elim (Contains-append_cases (edges_crossed es f n) (filter (crosses (flags_after es f n)) es) e c) [
    | inl before ↦ crossed_from n e before
    | inr now ↦ let q = of_filter (crosses (flags_after es f n)) es e now in (n, q.0, q.1)
  ]

  pub crossed_at : (n i : ℕ) (e : ℕ × ℕ) → i < n → Contains es e → crosses (flags_after es f i) e ≡ true → Contains (edges_crossed es f n) e
  crossed_at zero i e l c h = absurd (omega (arith, l))
  crossed_at (suc n) i e l c h = elim (cases_lt i n) [
    | inl less ↦ Contains-append_left (edges_crossed es f n) (filter (crosses (flags_after es f n)) es) e (crossed_at n i e less c h)
    | inr past ↦
        let same : i ≡ n = omega (arith, l, past) in
        Contains-append_right (edges_crossed es f n) (filter (crosses (flags_after es f n)) es) e (contains_filter (crosses (flags_after es f n)) es e c (subst (λ m. crosses (flags_after es f m) e ≡ true) same h))
  ]

-- ---- distances
-- no path from the first number to the second has fewer edges
pub record IsDistance (es : List (ℕ × ℕ)) (start k n : ℕ) : Type 0 where
  pub path : IsEdgePath es start n k
  pub least : (m : ℕ) → IsEdgePath es start m k → n ≤ m

one_distance : (es : List (ℕ × ℕ)) (start k n m : ℕ) → IsDistance es start k n → IsDistance es start k m → n ≡ m
one_distance es start k n m a b = omega (arith, a.least m b.path, b.least n a.path)

joined_path : (es : List (ℕ × ℕ)) (a n b m c : ℕ) → IsEdgePath es a n b → IsEdgePath es b m c → IsEdgePath es a (n + m) c
joined_path es a n b zero c p q =
    let same : n ≡ n + zero = omega arith in
    subst (λ i. IsEdgePath es a i c) same (subst (IsEdgePath es a n) q p)
joined_path es a n b (suc m) c p q =
    let same : suc (n + m) ≡ n + suc m = omega arith in
    let longer : IsEdgePath es a (suc (n + m)) c = (q.0, joined_path es a n b m q.0 p q.1, q.2) in
    subst (λ i. IsEdgePath es a i c) same longer

module _ (es : List (ℕ × ℕ)) (count start : ℕ) (within : start < count) (below : AreEdgesBelow count es) where
  abbrev first : List Bool
  first = set (replicate count false) start true

  first_long : length first ≡ count
  first_long = set_length count start

  ends : (a b : ℕ) → Contains es (a, b) → b < length first
  ends a b c = omega (arith, (below a b c).1, first_long)

  from_start : (n k : ℕ) → IsSet (flags_after es first n) k → IsWithin es start n k
  from_start n k h =
      let r = came es first n k h in
      subst (λ s. IsWithin es s n k) (only_set count start r.0 r.1) r.2

  to_flag : (n m k : ℕ) → IsEdgePath es start m k → m ≤ n → IsSet (flags_after es first n) k
  to_flag n m k p l = there es first ends start n k (one_set count start within) (m, l, p)

  free_not : (flags : List Bool) (k : ℕ) → get_or flags k true ≡ false → IsSet flags k → ⊥
  free_not flags k free h = true≢false (sym h ∙ get_or_default flags k false true (set_within flags k h) ∙ free)

  -- an edge that is crossed leads from one distance to the next
  pub tight : (i a b : ℕ) → Contains es (a, b) → crosses (flags_after es first i) (a, b) ≡ true → IsDistance es start a i × IsDistance es start b (suc i)
  tight i a b c h =
      let begun : IsSet (flags_after es first i) a = and_first (get_or (flags_after es first i) a false) (not (get_or (flags_after es first i) b true)) h in
      let free : get_or (flags_after es first i) b true ≡ false = not_true (get_or (flags_after es first i) b true) (and_second (get_or (flags_after es first i) a false) (not (get_or (flags_after es first i) b true)) h) in
      let w = from_start i a begun in
      let far : (m : ℕ) → IsEdgePath es start m b → suc i ≤ m = λ m p. is_far free m p in
      let near : suc i ≤ suc w.0 = far (suc w.0) (a, w.2, c) in
      let same : w.0 ≡ i = omega (arith, w.1, near) in
      let p : IsEdgePath es start i a = subst (λ n. IsEdgePath es start n a) same w.2 in (
        record { path = p; least = λ m q. omega (arith, far (suc m) (a, q, c)) },
        record { path = (a, p, c); least = far },
      )
    where
      is_far : get_or (flags_after es first i) b true ≡ false → (m : ℕ) → IsEdgePath es start m b → suc i ≤ m
      is_far free m p = elim (cases_lt i m) [
        | inl less ↦ omega (arith, less)
        | inr past ↦ absurd (free_not (flags_after es first i) b free (to_flag i m b p past))
      ]

  crosses_when : (x y : Bool) → x ≡ true → (y ≡ true → ⊥) → (x && not y) ≡ true
  crosses_when true true h n = absurd (n refl)
  crosses_when true false h n = refl
  crosses_when false y h n = cc

  -- an edge from one distance to the next is crossed
  pub is_crossed : (i a b : ℕ) → Contains es (a, b) → IsDistance es start a i → IsDistance es start b (suc i) → Contains (edges_crossed es first count) (a, b)
  is_crossed i a b c da db =
      let not_yet : IsSet (flags_after es first i) b → ⊥ = λ h. late h in
      let free : get_or (flags_after es first i) b true ≡ true → ⊥ = λ h. not_yet (get_or_default (flags_after es first i) b false true (omega (arith, ends a b c, counted es first i)) ∙ h) in
      let cross : crosses (flags_after es first i) (a, b) ≡ true = crosses_when (get_or (flags_after es first i) a false) (get_or (flags_after es first i) b true) (to_flag i i a da.path (omega arith)) free in
      elim (cases_lt i count) [
        | inl less ↦ crossed_at es first count i (a, b) less c cross
        | inr past ↦ absurd (not_yet (subst (λ g. IsSet g b) (sym (closed_at es first i (omega (arith, past, first_long)))) (led_to es first ends start (suc i) b (one_set count start within) db.path)))
      ]
    where
      late : IsSet (flags_after es first i) b → ⊥
      late h =
          let w = from_start i b h in
          absurd (omega (arith, w.1, db.least w.0 w.2))

  abbrev crossed_edges : List (ℕ × ℕ)
  crossed_edges = edges_crossed es first count

  crossed_tight : (a b : ℕ) → Contains crossed_edges (a, b) → (i : ℕ) × Contains es (a, b) × IsDistance es start a i × IsDistance es start b (suc i)
  crossed_tight a b c =
      let r = crossed_from es first count (a, b) c in
      let t = tight r.0 a b r.1 r.2 in
      (r.0, r.1, t.0, t.1)

  -- over crossed edges, distances grow with the path
  follows : (i k j c : ℕ) → IsDistance es start k i → IsEdgePath crossed_edges k j c → IsDistance es start c (i + j) × IsEdgePath es k j c
  follows i k zero c d p =
      let same : i ≡ i + zero = omega arith in
      (subst (λ n. IsDistance es start c n) same (subst (λ x. IsDistance es start x i) p d), p)
  follows i k (suc j) c d p =
      let before = follows i k j p.0 d p.1 in
      let t = crossed_tight p.0 c p.2 in
      let same : t.0 ≡ i + j = one_distance es start p.0 t.0 (i + j) t.2 before.0 in
      let far : suc t.0 ≡ i + suc j = omega (arith, same) in
      (subst (λ n. IsDistance es start c n) far t.3, (p.0, before.1, t.1))

  -- a shortest path leads over crossed edges
  goes_over : (i k j c : ℕ) → IsEdgePath es start i k → IsEdgePath es k j c → ((m : ℕ) → IsEdgePath es start m c → i + j ≤ m) → IsEdgePath crossed_edges k j c
  goes_over i k zero c p q least = q
  goes_over i k (suc j) c p q least =
      let between : IsEdgePath es start (i + j) q.0 = joined_path es start i k j q.0 p q.1 in
      let nearer : (m : ℕ) → IsEdgePath es start m q.0 → i + j ≤ m = λ m r. omega (arith, least (suc m) (q.0, r, q.2)) in
      let d : IsDistance es start q.0 (i + j) = record { path = between; least = nearer } in
      let e : IsDistance es start c (suc (i + j)) = record { path = (q.0, between, q.2); least = λ m r. omega (arith, least m r) } in
      (q.0, goes_over i k j q.0 p q.1 nearer, is_crossed (i + j) q.0 c q.2 d e)

  -- a number that is reached has a distance
  has_distance : (n k : ℕ) → IsSet (flags_after es first n) k → (i : ℕ) × IsDistance es start k i
  has_distance zero k h =
      let w = from_start zero k h in
      (w.0, record { path = w.2; least = λ m p. omega (arith, w.1) })
  has_distance (suc n) k h = at (get_or (flags_after es first n) k false) refl (has_distance n k)
    where
      no_less : (i : ℕ) → i ≤ suc n → get_or (flags_after es first n) k false ≡ false → (m : ℕ) → IsEdgePath es start m k → i ≤ m
      no_less i l free m p = elim (cases_lt n m) [
        | inl less ↦ omega (arith, l, less)
        | inr past ↦ absurd (true≢false (sym (to_flag n m k p past) ∙ free))
      ]

      at : (b : Bool) → get_or (flags_after es first n) k false ≡ b → (IsSet (flags_after es first n) k → (i : ℕ) × IsDistance es start k i) → (i : ℕ) × IsDistance es start k i
      at true e before = before e
      at false e before =
          let w = from_start (suc n) k h in
          (w.0, record { path = w.2; least = λ m p. no_less w.0 w.1 e m p })

  -- the first number of a path over crossed edges has a distance if its last has
  source_distance : (k j c : ℕ) → IsEdgePath crossed_edges k j c → (i : ℕ) × IsDistance es start c i → (i : ℕ) × IsDistance es start k i
  source_distance k zero c p d = subst (λ x. (i : ℕ) × IsDistance es start x i) (sym p) d
  source_distance k (suc j) c p d =
      let t = crossed_tight p.0 c p.2 in
      source_distance k j p.0 p.1 (t.0, t.2)

  -- the flags that go back over crossed edges, from the ends that are reached, are those of the
  -- numbers on shortest paths
  pub shortest_flags : (is_end : ℕ → Bool) (reached found flags : List Bool) (crossed back : List (ℕ × ℕ)) → reached ≡ flags_after es first count → crossed ≡ edges_crossed es first count → back ≡ map turned crossed → length found ≡ count →
      ((k : ℕ) → k < count → get_or found k false ≡ (get_or reached k false && is_end k)) → flags ≡ flags_after back found count → AreOnShortest es start is_end flags
  shortest_flags is_end reached found flags crossed back reached_is crossed_is back_is long each flags_is = λ k. (is_on k, on_is k)
    where
      over : back ≡ map turned crossed_edges
      over = back_is ∙ ap (map turned) crossed_is

      after : flags ≡ flags_after (map turned crossed_edges) found count
      after = flags_is ∙ ap (λ xs. flags_after xs found count) over

      is_on : (k : ℕ) → IsSet flags k → IsOnShortest es start is_end k
      is_on k h =
          let r = came (map turned crossed_edges) found count k (subst (λ g. IsSet g k) after h) in
          let inside : r.0 < count = omega (arith, set_within found r.0 r.1, long) in
          let both : (get_or reached r.0 false && is_end r.0) ≡ true = sym (each r.0 inside) ∙ r.1 in
          let got : IsSet (flags_after es first count) r.0 = subst (λ g. IsSet g r.0) reached_is (and_first (get_or reached r.0 false) (is_end r.0) both) in
          let p : IsEdgePath crossed_edges k r.2.0 r.0 = path_back crossed_edges r.0 r.2.0 k r.2.2 in
          let d = source_distance k r.2.0 r.0 p (has_distance count r.0 got) in
          let f = follows d.0 k r.2.0 r.0 d.1 p in
          record {
            end = r.0;
            is_there = and_second (get_or reached r.0 false) (is_end r.0) both;
            before = d.0;
            after = r.2.0;
            led = d.1.path;
            goes_on = f.1;
            shortest = f.0.least;
          }

      found_at : (c n : ℕ) → IsEdgePath es start n c → is_end c ≡ true → IsSet found c
      found_at c n p h =
          let got : IsSet (flags_after es first count) c = subst (λ m. IsSet (flags_after es first m) c) first_long (led_to es first ends start n c (one_set count start within) p) in
          let here : IsSet reached c = subst (λ g. IsSet g c) (sym reached_is) got in
          let inside : c < count = omega (arith, set_within (flags_after es first count) c got, counted es first count, first_long) in
          each c inside ∙ ap (λ b. b && is_end c) here ∙ h

      back_ends : (a b : ℕ) → Contains (map turned crossed_edges) (a, b) → b < length found
      back_ends a b c =
          let t = crossed_tight b a (turned_contains crossed_edges b a c) in
          omega (arith, (below b a t.1).0, long)

      on_is : (k : ℕ) → IsOnShortest es start is_end k → IsSet flags k
      on_is k on =
          let p : IsEdgePath crossed_edges k on.after on.end = goes_over on.before k on.after on.end on.led on.goes_on on.shortest in
          let whole : IsEdgePath es start (on.before + on.after) on.end = joined_path es start on.before k on.after on.end on.led on.goes_on in
          let begun : IsSet found on.end = found_at on.end (on.before + on.after) whole on.is_there in
          let at = led_to (map turned crossed_edges) found back_ends on.end on.after k begun (path_turned crossed_edges k on.after on.end p) in
          subst (λ g. IsSet g k) (sym after) (subst (λ m. IsSet (flags_after (map turned crossed_edges) found m) k) long at)

-- rounds from number 0, and rounds back over the edges that were crossed, from the ends
pub shortest_found : (es : List (ℕ × ℕ)) (count : ℕ) (is_end p : ℕ → Bool) (first reached found flags : List Bool) (none crossed back : List (ℕ × ℕ)) → 0 < count → AreEdgesBelow count es → first ≡ set (replicate count false) 0 true → none ≡ [] → reached ≡ flags_after es first count → crossed ≡ none ++ edges_crossed es first count → length found ≡ length reached →
    ((k : ℕ) → k < length reached → get_or found k false ≡ (get_or reached k false && p k)) → ((k : ℕ) → k < count → is_end k ≡ p k) → back ≡ map turned crossed → flags ≡ flags_after back found count → (length flags ≡ count) × AreOnShortest es 0 is_end flags
shortest_found es count is_end p first reached found flags none crossed back some below first_is none_is reached_is crossed_is long each ends_are back_is flags_is = (
  ap length flags_is ∙ counted back found count ∙ long_found,
  shortest_flags es count 0 some below is_end reached found flags crossed back got over back_is long_found (λ k l. each k (omega (arith, l, long_reached)) ∙ ap (λ b. get_or reached k false && b) (sym (ends_are k l))) flags_is,
)
  where
    got : reached ≡ flags_after es (set (replicate count false) 0 true) count
    got = reached_is ∙ ap (λ f. flags_after es f count) first_is

    over : crossed ≡ edges_crossed es (set (replicate count false) 0 true) count
    over = crossed_is ∙ ap (λ xs. xs ++ edges_crossed es first count) none_is ∙ ap (λ f. edges_crossed es f count) first_is

    long_reached : length reached ≡ count
    long_reached = ap length got ∙ counted es (set (replicate count false) 0 true) count ∙ set_length count 0

    long_found : length found ≡ count
    long_found = long ∙ long_reached

-- without numbers, there is no end
pub none_shortest : (es : List (ℕ × ℕ)) (is_end : ℕ → Bool) (flags : List Bool) → flags ≡ [] → ((k : ℕ) → is_end k ≡ false) → AreOnShortest es 0 is_end flags
none_shortest es is_end flags none no_end = λ k. (
  λ h. absurd (true≢false (sym h ∙ ap (λ f. get_or f k false) none)),
  λ (on : IsOnShortest es 0 is_end k). absurd (true≢false (sym on.is_there ∙ no_end on.end)),
)
