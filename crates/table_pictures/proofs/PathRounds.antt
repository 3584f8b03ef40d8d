-- Numbers that are reached over edges are those to which paths lead.
use Rattle.std.proofs.Common.{◌≡◌, ℕ, zero, suc, ◌<◌, ◌≤◌, ◌⊎◌, inl, inr, Bool, true, false, not, ◌&&◌, ◌||◌, cond, List, [], ◌∷◌, ◌++◌, length, get_or, replicate, set, refl, sym, ap, ◌∙◌, arith, subst, map}
use Rattle.std.specs.Prelude.{Contains, filter}
use Rattle.std.proofs.lemmas.Bool.{cases_eq, cases_lt, true≢false}
use Rattle.std.proofs.lemmas.List.{length-set, get_or-set_same, get_or-set_other, get_or_default, get_or_past, length-append, length-replicate, append-nil}
use Rattle.lalrpop_collections.proofs.theory.lists.Lists.{contains-cons, contains_head, contains_tail, contains_map}
use Rattle.lalrpop_collections.proofs.theory.lists.Members.{Contains-none}
use Rattle.table_pictures.specs.Paths.{AreEdgesBelow, AreNear, IsEdgePath, IsWithin, turned}
use Rattle.table_pictures.specs.Rounds.{crosses, sent_over, flags_after, edges_crossed}

-- ---- rounds that cross no edge
no_edge : (b : Bool) (e : ℕ × ℕ) (es : List (ℕ × ℕ)) → cond b (e ∷ es) es ≡ [] → (b ≡ false) × (es ≡ [])
no_edge true e es h = cc
no_edge false e es h = (refl, h)

pub none_sent : (old : List Bool) (es : List (ℕ × ℕ)) (new : List Bool) → filter (crosses old) es ≡ [] → sent_over old es new ≡ new
none_sent old [] new h = refl
none_sent old (e ∷ es) new h =
    let both = no_edge (crosses old e) e (filter (crosses old) es) h in
    ap (λ b. sent_over old es (cond b (set new e.1 true) new)) both.0 ∙ none_sent old es new both.1

pub none_added : {X : Type 0} (few more : List X) → length (few ++ more) ≡ length few → more ≡ []
none_added few [] h = refl
none_added few (x ∷ more) h = absurd (omega (arith, h, length-append few (x ∷ more)))

module _ (es : List (ℕ × ℕ)) (f : List Bool) where
  -- if a round crosses no edge, those after it change nothing
  pub still : (i : ℕ) → filter (crosses (flags_after es f i)) es ≡ [] → (n : ℕ) → i ≤ n → (flags_after es f n ≡ flags_after es f i) × (edges_crossed es f n ≡ edges_crossed es f i)
  still i h zero l =
      let same : zero ≡ i = omega (arith, l) in
      (ap (flags_after es f) same, ap (edges_crossed es f) same)
  still i h (suc n) l = elim (cases_lt n i) [
    | inl less ↦
        let same : suc n ≡ i = omega (arith, l, less) in
        (ap (flags_after es f) same, ap (edges_crossed es f) same)
    | inr past ↦
        let before = still i h n past in (
          ap (λ g. sent_over g es g) before.0 ∙ none_sent (flags_after es f i) es (flags_after es f i) h,
          ap (λ g. edges_crossed es f n ++ filter (crosses g) es) before.0 ∙ ap (λ more. edges_crossed es f n ++ more) h ∙ append-nil (edges_crossed es f n) ∙ before.1,
        )
  ]

-- the flags and the crossed edges after a round that crosses none are those of all rounds
pub stopped : (es : List (ℕ × ℕ)) (f old next : List Bool) (first before after : List (ℕ × ℕ)) (i n : ℕ) → i ≤ n → old ≡ flags_after es f i → next ≡ sent_over old es old → before ≡ first ++ edges_crossed es f i → after ≡ before ++ filter (crosses old) es → length after ≡ length before →
    (next ≡ flags_after es f n) × (after ≡ first ++ edges_crossed es f n)
stopped es f old next first before after i n l is sent b a same =
    let none_old : filter (crosses old) es ≡ [] = none_added before (filter (crosses old) es) (sym (ap length a) ∙ same) in
    let none : filter (crosses (flags_after es f i)) es ≡ [] = subst (λ g. filter (crosses g) es ≡ []) is none_old in
    let all = still es f i none n l in (
      sent ∙ none_sent old es old none_old ∙ is ∙ sym all.0,
      a ∙ ap (λ more. before ++ more) none_old ∙ append-nil before ∙ b ∙ ap (λ more. first ++ more) (sym all.1),
    )

-- ---- one round
-- the flag of a number is set
abbrev pub IsSet : List Bool → ℕ → Type 0
IsSet flags k = get_or flags k false ≡ true

pub set_within : (flags : List Bool) (k : ℕ) → IsSet flags k → k < length flags
set_within flags k h = elim (cases_lt k (length flags)) [
  | inl less ↦ less
  | inr past ↦ absurd (true≢false (sym h ∙ get_or_past flags k false past))
]

put_kept : (b : Bool) (flags : List Bool) (j k : ℕ) → IsSet flags k → IsSet (cond b (set flags j true) flags) k
put_kept false flags j k h = h
put_kept true flags j k h = elim (cases_eq k j) [
  | inl same ↦ ap (λ i. get_or (set flags j true) i false) same ∙ get_or-set_same flags j true false (subst (λ i. i < length flags) same (set_within flags k h))
  | inr apart ↦ get_or-set_other flags j k true false apart ∙ h
]

put_came : (b : Bool) (flags : List Bool) (j k : ℕ) → IsSet (cond b (set flags j true) flags) k → IsSet flags k ⊎ ((b ≡ true) × (k ≡ j))
put_came false flags j k h = inl h
put_came true flags j k h = elim (cases_eq k j) [
  | inl same ↦ inr (refl, same)
  | inr apart ↦ inl (sym (get_or-set_other flags j k true false apart) ∙ h)
]

put_length : (b : Bool) (flags : List Bool) (j : ℕ) → length (cond b (set flags j true) flags) ≡ length flags
put_length false flags j = refl
put_length true flags j = length-set flags j true

pub and_first : (a b : Bool) → (a && b) ≡ true → a ≡ true
and_first true b h = refl
and_first false b h = cc

pub and_second : (a b : Bool) → (a && b) ≡ true → b ≡ true
and_second true b h = h
and_second false b h = cc

pub not_true : (b : Bool) → not b ≡ true → b ≡ false
not_true true h = cc
not_true false h = refl

-- an edge that does not cross the flags leads from a number without its flag, or to one with it
crosses_not : (a b : Bool) → (a && not b) ≡ false → a ≡ true → b ≡ true
crosses_not true true h e = refl
crosses_not true false h e = cc
crosses_not false b h e = cc

module _ (old : List Bool) where
  pub sent_length : (es : List (ℕ × ℕ)) (new : List Bool) → length (sent_over old es new) ≡ length new
  sent_length [] new = refl
  sent_length (e ∷ es) new = sent_length es (cond (crosses old e) (set new e.1 true) new) ∙ put_length (crosses old e) new e.1

  pub sent_kept : (es : List (ℕ × ℕ)) (new : List Bool) (k : ℕ) → IsSet new k → IsSet (sent_over old es new) k
  sent_kept [] new k h = h
  sent_kept (e ∷ es) new k h = sent_kept es (cond (crosses old e) (set new e.1 true) new) k (put_kept (crosses old e) new e.1 k h)

  pub sent_came : (es : List (ℕ × ℕ)) (new : List Bool) (k : ℕ) → IsSet (sent_over old es new) k → IsSet new k ⊎ ((a : ℕ) × Contains es (a, k) × IsSet old a)
  sent_came [] new k h = inl h
  sent_came (e ∷ es) new k h = elim (sent_came es (cond (crosses old e) (set new e.1 true) new) k h) [
    | inl there ↦ elim (put_came (crosses old e) new e.1 k there) [
      | inl before ↦ inl before
      | inr sent ↦ inr (e.0, subst (λ i. Contains (e ∷ es) (e.0, i)) (sym sent.1) (contains_head e es), and_first (get_or old e.0 false) (not (get_or old e.1 true)) sent.0)
    ]
    | inr later ↦ inr (later.0, contains_tail e es (later.0, k) later.1, later.2)
  ]

  there_at : (c : Bool) (es : List (ℕ × ℕ)) (new : List Bool) (a b : ℕ) → crosses old (a, b) ≡ c → IsSet old a → b < length old → length new ≡ length old → (IsSet old b → IsSet new b) → IsSet (cond c (set new b true) new) b
  there_at true es new a b is h l same kept = get_or-set_same new b true false (omega (arith, l, same))
  there_at false es new a b is h l same kept = kept (get_or_default old b false true l ∙ crosses_not (get_or old a false) (get_or old b true) is h)

  pub sent_there : (es : List (ℕ × ℕ)) (new : List Bool) (a b : ℕ) → Contains es (a, b) → IsSet old a → b < length old → length new ≡ length old → (IsSet old b → IsSet new b) → IsSet (sent_over old es new) b
  sent_there [] new a b c h l same kept = absurd (Contains-none (a, b) c)
  sent_there (e ∷ es) new a b c h l same kept = elim (contains-cons e es (a, b) c) [
    | inl is ↦ sent_kept es (cond (crosses old e) (set new e.1 true) new) b (subst (λ (p : ℕ × ℕ). IsSet (cond (crosses old p) (set new p.1 true) new) b) (sym is) (there_at (crosses old (a, b)) es new a b refl h l same kept))
    | inr later ↦ sent_there es (cond (crosses old e) (set new e.1 true) new) a b later h l (put_length (crosses old e) new e.1 ∙ same) (λ k. put_kept (crosses old e) new e.1 b (kept k))
  ]

-- ---- so many rounds
module _ (es : List (ℕ × ℕ)) (f : List Bool) where
  pub counted : (n : ℕ) → length (flags_after es f n) ≡ length f
  counted zero = refl
  counted (suc n) = sent_length (flags_after es f n) es (flags_after es f n) ∙ counted n

  pub kept : (i n k : ℕ) → i ≤ n → IsSet (flags_after es f i) k → IsSet (flags_after es f n) k
  kept i zero k l h =
      let same : i ≡ zero = omega (arith, l) in
      subst (λ m. IsSet (flags_after es f m) k) same h
  kept i (suc n) k l h = elim (cases_lt n i) [
    | inl less ↦
        let same : i ≡ suc n = omega (arith, l, less) in
        subst (λ m. IsSet (flags_after es f m) k) same h
    | inr past ↦ sent_kept (flags_after es f n) es (flags_after es f n) k (kept i n k past h)
  ]

  -- to a number whose flag is set, a path leads from one whose flag was set at first
  pub came : (n k : ℕ) → IsSet (flags_after es f n) k → (s : ℕ) × IsSet f s × IsWithin es s n k
  came zero k h = (k, h, (zero, omega arith, refl))
  came (suc n) k h = elim (sent_came (flags_after es f n) es (flags_after es f n) k h) [
    | inl before ↦
        let r = came n k before in
        (r.0, r.1, (r.2.0, omega (arith, r.2.1), r.2.2))
    | inr sent ↦
        let r = came n sent.0 sent.2 in
        (r.0, r.1, (suc r.2.0, omega (arith, r.2.1), (sent.0, r.2.2, sent.1)))
  ]

  module _ (ends : (a b : ℕ) → Contains es (a, b) → b < length f) where
    there_after : (s n k : ℕ) → IsSet f s → IsEdgePath es s n k → IsSet (flags_after es f n) k
    there_after s zero k h p = subst (IsSet f) p h
    there_after s (suc n) k h p =
        sent_there (flags_after es f n) es (flags_after es f n) p.0 k p.2 (there_after s n p.0 h p.1) (omega (arith, ends p.0 k p.2, counted n)) refl (λ c. c)

    -- the flags of all numbers are set to which paths lead
    pub there : (s n k : ℕ) → IsSet f s → IsWithin es s n k → IsSet (flags_after es f n) k
    there s n k h w = kept w.0 n k w.1 (there_after s w.0 k h w.2)

-- ---- edges turned around
pub path_from : (es : List (ℕ × ℕ)) (a b n c : ℕ) → Contains es (a, b) → IsEdgePath es b n c → IsEdgePath es a (suc n) c
path_from es a b zero c h p = (a, refl, subst (λ k. Contains es (a, k)) p h)
path_from es a b (suc n) c h p = (p.0, path_from es a b n p.0 h p.1, p.2)

pub turned_contains : (es : List (ℕ × ℕ)) (a b : ℕ) → Contains (map turned es) (b, a) → Contains es (a, b)
turned_contains [] a b c = absurd (Contains-none (b, a) c)
turned_contains (e ∷ es) a b c = elim (contains-cons (turned e) (map turned es) (b, a) c) [
  | inl same ↦ subst (Contains (e ∷ es)) (ap turned same) (contains_head e es)
  | inr later ↦ contains_tail e es (a, b) (turned_contains es a b later)
]

pub contains_turned : (es : List (ℕ × ℕ)) (a b : ℕ) → Contains es (a, b) → Contains (map turned es) (b, a)
contains_turned es a b c = contains_map turned es (a, b) c

-- a path over edges that are turned around is a path back
pub path_back : (es : List (ℕ × ℕ)) (a n b : ℕ) → IsEdgePath (map turned es) a n b → IsEdgePath es b n a
path_back es a zero b p = sym p
path_back es a (suc n) b p = path_from es b p.0 n a (turned_contains es b p.0 p.2) (path_back es a n p.0 p.1)

pub path_turned : (es : List (ℕ × ℕ)) (a n b : ℕ) → IsEdgePath es a n b → IsEdgePath (map turned es) b n a
path_turned es a zero b p = sym p
path_turned es a (suc n) b p = path_from (map turned es) b p.0 n a (contains_turned es p.0 b p.2) (path_turned es a n p.0 p.1)

-- ---- one number at first
none_replicated : (n k : ℕ) → get_or (replicate n false) k false ≡ false
none_replicated zero k = refl
none_replicated (suc n) zero = refl
none_replicated (suc n) (suc k) = none_replicated n k

-- only the flag of the number is set
pub only_set : (count number k : ℕ) → IsSet (set (replicate count false) number true) k → k ≡ number
only_set count number k h = elim (cases_eq k number) [
  | inl same ↦ same
  | inr apart ↦ absurd (true≢false (sym h ∙ get_or-set_other (replicate count false) number k true false apart ∙ none_replicated count k))
]

pub one_set : (count number : ℕ) → number < count → IsSet (set (replicate count false) number true) number
one_set count number l = get_or-set_same (replicate count false) number true false (omega (arith, l, length-replicate count false))

pub set_length : (count number : ℕ) → length (set (replicate count false) number true) ≡ count
set_length count number = length-set (replicate count false) number true ∙ length-replicate count false

module _ (es : List (ℕ × ℕ)) (count number depth : ℕ) (within : number < count) where
  pub reached_within : (k : ℕ) → IsSet (flags_after es (set (replicate count false) number true) depth) k → IsWithin es number depth k
  reached_within k h =
      let r = came es (set (replicate count false) number true) depth k h in
      subst (λ s. IsWithin es s depth k) (only_set count number r.0 r.1) r.2

  pub within_reached : ((a b : ℕ) → Contains es (a, b) → b < count) → (k : ℕ) → IsWithin es number depth k → IsSet (flags_after es (set (replicate count false) number true) depth) k
  within_reached ends k w =
      there es (set (replicate count false) number true) (λ a b c. omega (arith, ends a b c, set_length count number)) number depth k (one_set count number within) w

or_cases : (a b : Bool) → (a || b) ≡ true → (a ≡ true) ⊎ (b ≡ true)
or_cases true b h = inl refl
or_cases false b h = inr h

or_first : (a b : Bool) → a ≡ true → (a || b) ≡ true
or_first true b h = refl
or_first false b h = cc

or_second : (a b : Bool) → b ≡ true → (a || b) ≡ true
or_second true b h = refl
or_second false b h = h

-- the flags ahead or back are those of the numbers that are near
pub near_flags : (es : List (ℕ × ℕ)) (count number depth : ℕ) (ahead back flags : List Bool) → number < count → AreEdgesBelow count es → ahead ≡ flags_after es (set (replicate count false) number true) depth → back ≡ flags_after (map turned es) (set (replicate count false) number true) depth → length flags ≡ length ahead →
    ((k : ℕ) → k < length ahead → get_or flags k false ≡ (get_or ahead k false || get_or back k false)) → (length flags ≡ count) × AreNear es number depth flags
near_flags es count number depth ahead back flags within below a b same each = (is_counted, λ k. (is_near k, near_is k))
  where
    long : length ahead ≡ count
    long = ap length a ∙ counted es (set (replicate count false) number true) depth ∙ set_length count number

    is_counted : length flags ≡ count
    is_counted = same ∙ long

    is_near : (k : ℕ) → IsSet flags k → IsWithin es number depth k ⊎ IsWithin es k depth number
    is_near k h =
        let inside : k < length ahead = omega (arith, set_within flags k h, same) in
        elim (or_cases (get_or ahead k false) (get_or back k false) (sym (each k inside) ∙ h)) [
          | inl first ↦ inl (reached_within es count number depth within k (subst (λ g. IsSet g k) a first))
          | inr second ↦
              let w = reached_within (map turned es) count number depth within k (subst (λ g. IsSet g k) b second) in
              inr (w.0, w.1, path_back es number w.0 k w.2)
        ]

    to_flags : (k : ℕ) → IsSet ahead k ⊎ IsSet back k → k < count → IsSet flags k
    to_flags k (inl h) l = each k (omega (arith, l, long)) ∙ or_first (get_or ahead k false) (get_or back k false) h
    to_flags k (inr h) l = each k (omega (arith, l, long)) ∙ or_second (get_or ahead k false) (get_or back k false) h

    near_is : (k : ℕ) → IsWithin es number depth k ⊎ IsWithin es k depth number → IsSet flags k
    near_is k (inl w) =
        let h : IsSet ahead k = subst (λ g. IsSet g k) (sym a) (within_reached es count number depth within (λ x y c. (below x y c).1) k w) in
        to_flags k (inl h) (omega (arith, set_within ahead k h, long))
    near_is k (inr w) =
        let h : IsSet back k = subst (λ g. IsSet g k) (sym b) (within_reached (map turned es) count number depth within (λ x y c. (below y x (turned_contains es y x c)).0) k (w.0, w.1, path_turned es k w.0 number w.2)) in
        let long_back : length back ≡ count = ap length b ∙ counted (map turned es) (set (replicate count false) number true) depth ∙ set_length count number in
        to_flags k (inr h) (omega (arith, set_within back k h, long_back))
