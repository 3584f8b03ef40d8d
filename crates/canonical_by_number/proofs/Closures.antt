-- Closures with sets of tokens by number: tables of numbers, under a list of sets that grows.
use Rattle.std.proofs.Common.{◌≡◌, ◌≢◌, ◌∙◌, ◌<◌, ◌==◌, ◌/◌, ◌%◌, ℕ, zero, suc, get_or, set, Bool, true, false, not, inl, inr, List, [], ◌∷◌, ◌++◌, length, refl, sym, ap, subst, arith, map, Some}
use Rattle.std.specs.Prelude.{Contains, MatchBool, slice_get}
use Rattle.std.specs.Map.{keys_of}
use Rattle.std.proofs.lemmas.Bool.Decides.{Decides-eqb}
use mathlib.Core.Bool.{true≢false}
use Rattle.std.proofs.lemmas.List.{map-append}
use Rattle.std.proofs.lemmas.List.Elements.{Contains-append_cases, Contains-append_left, Contains-append_right}
use Rattle.std.proofs.lemmas.Option.{get_or_from_slice_get, slice_get_within}
use Rattle.lalrpop_base.specs.Words.{AllDiffer, Begins, Bits, Dotted, IsJoinedAt, Rules, join, meant, readings}
use Rattle.lalrpop_collections.specs.lists.Entries.IsJoinedAt.{known as join_known}
use Rattle.lalrpop_collections.proofs.theory.collections.JoinedEntries.{joined_fresh, readings_differ}
use Rattle.lalrpop_collections.proofs.theory.collections.SparseMaps.{changed_replaced, pushed_inserted}
use Rattle.lalrpop_collections.proofs.theory.lists.Gathering.{More-none, More-one, More-then}
use Rattle.lalrpop_collections.proofs.theory.lists.Members.{contains-cons, contains_map, Contains-none, contains_head, contains_tail}
use Rattle.lalrpop_collections.proofs.theory.lists.Places.{contains_at, midst}
use Rattle.lalrpop_collections.proofs.theory.lists.Updates.{IsReplaced}
use Rattle.lalrpop_construction.specs.Words.{IsPropagated}
use Rattle.lalrpop_construction.proofs.theory.closures.Propagation.{Propagates-nothing, Propagates-then}
use Rattle.lalrpop_numbers.specs.declared.numbers.Numbers.{Numbers}
use Rattle.lalrpop_numbers.specs.declared.numbers.numbered.Numbered.{Numbered}
use Rattle.lalrpop_states.specs.closures.Closure.{itself}
use Rattle.canonical_by_number.specs.TokenSets.{AreSetsIn, KeepsNumbers, set_at}
use Rattle.canonical_by_number.specs.Closures.{AreFirsts, ArePackedIn, GathersNumbers, LetsPass, PropagatesNumbers, kernel_in, unpacked}
use Rattle.canonical_by_number.proofs.TokenSets.{keeps_all, keeps_then, kept_at, kept_within, one_number, set_is}

-- ---- tables and kernels, when sets are added
module _ (old new : List Bits) (kept : KeepsNumbers old new) where
  pub readings_kept : {K : Type 0} (table : List (K × ℕ)) → AreSetsIn old table → readings (set_at new) table ≡ readings (set_at old) table
  readings_kept [] within = refl
  readings_kept {K} (e ∷ es) within =
      ap (λ (s : Bits). (e.0, s) ∷ readings (set_at new) es) (kept_at old new kept e.1 (within e (contains_head e es)))
      ∙ ap (λ (rs : List (K × Bits)). (e.0, set_at old e.1) ∷ rs) (readings_kept es (λ d c. within d (contains_tail e es d c)))

  pub sets_within : {K : Type 0} (table : List (K × ℕ)) → AreSetsIn old table → AreSetsIn new table
  sets_within table within e c = kept_within old new kept e.1 (within e c)

  pub kernel_kept : (kernel : List ℕ) → ArePackedIn old kernel → kernel_in new kernel ≡ kernel_in old kernel
  kernel_kept [] packed = refl
  kernel_kept (e ∷ es) packed =
      ap (λ (s : Bits). (record { number = e / 4294967296; lookahead = s }) ∷ kernel_in new es) (kept_at old new kept (e % 4294967296) (packed e (contains_head e es)))
      ∙ ap (λ (rs : List (Numbered Bits)). unpacked old e ∷ rs) (kernel_kept es (λ d c. packed d (contains_tail e es d c)))

  pub packed_within : (kernel : List ℕ) → ArePackedIn old kernel → ArePackedIn new kernel
  packed_within kernel packed e c = kept_within old new kept (e % 4294967296) (packed e c)

  pub firsts_kept : (n : Numbers) (firsts : List ℕ) → AreFirsts n old firsts → AreFirsts n new firsts
  firsts_kept n firsts f = record {
    counted = f.counted;
    each = λ k suffix at. let a = f.each k suffix at in record { number = a.number; there = a.there; is = kept a.number suffix.first a.is };
  }

-- ---- tokens are added to those of a number
pub pushed_within : (sets : List Bits) (old new : List (ℕ × ℕ)) (k n : ℕ) → new ≡ old ++ (k, n) ∷ [] → AreSetsIn sets old → n < length sets → AreSetsIn sets new
pushed_within sets old new k n e within l d c = elim (Contains-append_cases old ((k, n) ∷ []) d (subst (λ (es : List (ℕ × ℕ)). Contains es d) e c)) [
  | inl o ↦ within d o
  | inr p ↦ elim (contains-cons (k, n) [] d p) [ inl same ↦ subst (λ (f : ℕ × ℕ). f.1 < length sets) same l | inr none ↦ absurd (Contains-none d none) ]
]

pub joined_new : (sets : List Bits) (k n : ℕ) (old new : List (ℕ × ℕ)) → new ≡ old ++ (k, n) ∷ [] → IsJoinedAt k (set_at sets n) true (readings (set_at sets) old) (readings (set_at sets) new)
joined_new sets k n old new e = joined_fresh (set_at sets) k n old new (pushed_inserted old new k n e)

module _ (before after : List Bits) (kept : KeepsNumbers before after) (differ : AllDiffer after) (old new : List (ℕ × ℕ)) (within : AreSetsIn before old) (k tokens w v : ℕ) (known : w < length before) (union : slice_get after v ≡ Some (join (set_at before w) (set_at before tokens))) (put : IsReplaced k w v old new) where
  there : v < length after
  there = slice_get_within after v (join (set_at before w) (set_at before tokens)) union

  same_old : (e : ℕ × ℕ) → Contains (put.front ++ put.back) e → e.1 < length before
  same_old e c = within e (subst (λ (es : List (ℕ × ℕ)). Contains es e) (sym put.before) (elim (Contains-append_cases put.front put.back e c) [
    | inl f ↦ Contains-append_left put.front ((k, w) ∷ put.back) e f
    | inr b ↦ Contains-append_right put.front ((k, w) ∷ put.back) e (contains_tail (k, w) put.back e b)
  ]))

  pub replaced_within : AreSetsIn after new
  replaced_within e c = elim (midst put.front put.back (k, v) e (subst (λ (es : List (ℕ × ℕ)). Contains es e) put.after c)) [
    | inl same ↦ subst (λ (f : ℕ × ℕ). f.1 < length after) same there
    | inr o ↦ kept_within before after kept e.1 (same_old e o)
  ]

  abbrev M : ℕ → Bits
  M = set_at after

  abbrev read : ℕ × ℕ → ℕ × Bits
  read e = (e.0, M e.1)

  united : M v ≡ join (M w) (set_at before tokens)
  united = set_is after v (join (set_at before w) (set_at before tokens)) union ∙ ap (λ (s : Bits). join s (set_at before tokens)) (sym (kept_at before after kept w known))

  told_by : (told : Bool) → told ≡ not (v == w) → MatchBool told (join (M w) (set_at before tokens) ≢ M w) (join (M w) (set_at before tokens) ≡ M w)
  told_by true e = λ same. let n : v ≡ w = one_number after differ v w there (kept_within before after kept w known) (united ∙ same) in true≢false (e ∙ ap not ((Decides-eqb v w).1 n))
  told_by false e = sym united ∙ ap M ((Decides-eqb v w).0 (double (v == w) (sym e)))
    where
      double : (b : Bool) → not b ≡ false → b ≡ true
      double true h = refl
      double false h = cc

  pub joined_old : (told : Bool) → told ≡ not (v == w) → IsJoinedAt k (set_at before tokens) told (readings (set_at before) old) (readings (set_at after) new)
  joined_old told is =
      subst (λ (rs : List (ℕ × Bits)). IsJoinedAt k (set_at before tokens) told rs (readings M new)) (readings_kept before after kept old within)
      (join_known (readings M put.front) (readings M put.back) (M w)
      (ap (readings M) put.before ∙ map-append read put.front ((k, w) ∷ put.back))
      (ap (readings M) put.after ∙ map-append read put.front ((k, v) ∷ put.back) ∙ ap (λ (b : Bits). readings M put.front ++ (k, b) ∷ readings M put.back) united)
      (told_by told is))

-- ---- items give their tokens
module _ (g : Rules) (n : Numbers) where
  pub Numbers-nothing : (items : List (Dotted Bits)) (sets : List Bits) (table : List (ℕ × ℕ)) (queue : List ℕ) → AreSetsIn sets table → ((i : Dotted Bits) → Contains items i → IsPropagated Begins LetsPass g n (readings (set_at sets) table) i) → PropagatesNumbers g n items sets sets table table queue queue
  Numbers-nothing items sets table queue within each = record {
    kept = keeps_all sets;
    known = within;
    shares = Propagates-nothing Begins LetsPass g n items (readings (set_at sets) table) queue each;
  }

  pub Numbers-then : (firsts seconds : List (Dotted Bits)) (s t u : List Bits) (a b c : List (ℕ × ℕ)) (p q r : List ℕ) → PropagatesNumbers g n firsts s t a b p q → PropagatesNumbers g n seconds t u b c q r → PropagatesNumbers g n (firsts ++ seconds) s u a c p r
  Numbers-then firsts seconds s t u a b c p q r x y = record {
    kept = keeps_then s t u x.kept y.kept;
    known = y.known;
    shares = Propagates-then Begins LetsPass g n firsts seconds (readings (set_at s) a) (readings (set_at t) b) (readings (set_at u) c) p q r x.shares y.shares;
  }

-- ---- entries are gathered
pub Gathers-nothing : (sets : List Bits) (table : List (ℕ × ℕ)) → AreSetsIn sets table → GathersNumbers [] sets sets table table
Gathers-nothing sets table within = record { kept = keeps_all sets; known = within; gathers = More-none (readings (set_at sets) table) }

pub Gathers-then : (firsts seconds : List (ℕ × Bits)) (s t u : List Bits) (a b c : List (ℕ × ℕ)) → GathersNumbers firsts s t a b → GathersNumbers seconds t u b c → GathersNumbers (firsts ++ seconds) s u a c
Gathers-then firsts seconds s t u a b c x y = record {
  kept = keeps_then s t u x.kept y.kept;
  known = y.known;
  gathers = More-then firsts seconds (readings (set_at s) a) (readings (set_at t) b) (readings (set_at u) c) x.gathers y.gathers;
}

pub Gathers-one : (k : ℕ) (tokens : Bits) (told : Bool) (s t : List Bits) (a b : List (ℕ × ℕ)) → KeepsNumbers s t → AreSetsIn t b → IsJoinedAt k tokens told (readings (set_at s) a) (readings (set_at t) b) → AllDiffer (keys_of b) → GathersNumbers ((k, tokens) ∷ []) s t a b
Gathers-one k tokens told s t a b kept within joined differ = record {
  kept = kept;
  known = within;
  gathers = More-one k tokens told (readings (set_at s) a) (readings (set_at t) b) joined (readings_differ (set_at t) b differ);
}

-- ---- a set of tokens means itself
pub readings_itself : {K : Type 0} (entries : List (K × Bits)) → readings itself entries ≡ entries
readings_itself [] = refl
readings_itself {K} (e ∷ es) = ap (λ (rs : List (K × Bits)). e ∷ rs) (readings_itself es)

pub meant_itself : (items : List (Dotted Bits)) → map (meant itself) items ≡ items
meant_itself [] = refl
meant_itself (i ∷ items) = ap (λ (is : List (Dotted Bits)). i ∷ is) (meant_itself items)

-- ---- an entry and what it means
pub read_there : {K : Type 0} (meaning : ℕ → Bits) (table : List (K × ℕ)) (k : K) (n : ℕ) → Contains table (k, n) → Contains (readings meaning table) (k, meaning n)
read_there {K} meaning table k n c = contains_map (λ (e : K × ℕ). (e.0, meaning e.1)) table (k, n) c

-- ---- the entry that a loop reads
pub entry_read : (xs : List (ℕ × ℕ)) (i : ℕ) → i < length xs → get_or xs i (0, 0) ≡ get_or xs i (get_or xs i (0, 0))
entry_read [] i l = absurd (omega arith)
entry_read (x ∷ xs) zero l = refl
entry_read (x ∷ xs) (suc i) l = entry_read xs i (omega arith)

pub entry_among : (xs : List (ℕ × ℕ)) (i : ℕ) → i < length xs → Contains xs (get_or xs i (0, 0))
entry_among xs i l = (i, l, sym (entry_read xs i l))

-- ---- the entry of a number, its value, and another value there
module _ (table : List (ℕ × ℕ)) (place k : ℕ) (e : ℕ × ℕ) (found : (v : ℕ) × (slice_get table place ≡ Some (k, v))) (is : e ≡ get_or table place e) where
  same_entry : e ≡ (k, found.0)
  same_entry = is ∙ get_or_from_slice_get table place (k, found.0) e found.1

  pub value_there : Contains table (k, e.1)
  value_there = subst (λ (d : ℕ × ℕ). Contains table (k, d.1)) (sym same_entry) (contains_at table (k, found.0) place found.1)

  pub value_within : (sets : List Bits) → AreSetsIn sets table → e.1 < length sets
  value_within sets within = within (k, e.1) value_there

  pub value_put : (w : ℕ) → IsReplaced k e.1 w table (set table place (e.0, w))
  value_put w = changed_replaced table place k found.0 w e found.1 is

-- the entry is read twice, and the second time to put another value there
pub value_replaced : (table : List (ℕ × ℕ)) (place k w : ℕ) (e d : ℕ × ℕ) → (v : ℕ) × (slice_get table place ≡ Some (k, v)) → e ≡ get_or table place e → d ≡ get_or table place d → IsReplaced k e.1 w table (set table place (d.0, w))
value_replaced table place k w e d found is also =
    let same : d ≡ e = same_entry table place k d found also ∙ sym (same_entry table place k e found is) in
    subst (λ (x : ℕ × ℕ). IsReplaced k e.1 w table (set table place (x.0, w))) (sym same) (value_put table place k e found is w)
