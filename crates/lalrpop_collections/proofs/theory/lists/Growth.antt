-- The growth of a table of tokens, by one key and by many.
use Rattle.std.proofs.Common.{◌≡◌, ◌≢◌, ◌≤◌, ◌+◌, ℕ, ◌⊎◌, inl, inr, List, [], ◌∷◌, ◌++◌, length, sym, ◌∙◌, ap, subst, arith, length-append, Bool, true, false, cond, refl, map, take, ◌<◌}
use Rattle.std.specs.Prelude.{Contains, MatchBool, get_or}
use Rattle.std.specs.Map.{keys_of}
use Rattle.std.proofs.lemmas.List.Elements.{Contains-append_left, Contains-append_right, Contains-append_cases}
use Rattle.std.proofs.lemmas.List.Sums.{sum_by-append, sum_by-cons}
use Rattle.lalrpop_collections.specs.Words.{Bits, has, join, IsJoinedAt, IsFound, IsFoundWith, Grows, Adds, burden, AllBelow, count, IsBelow}
use Rattle.lalrpop_collections.specs.lists.Entries.{IsPut, IsQueued}
use Rattle.lalrpop_collections.specs.lists.Entries.IsPut.{came, waited}
use Rattle.lalrpop_collections.specs.lists.Entries.IsJoinedAt.{fresh, known}
use Rattle.lalrpop_collections.proofs.theory.lists.Members.{contains_head, contains_tail, contains-cons, Contains-none, contains_map}
use Rattle.lalrpop_collections.proofs.theory.lists.Places.{midst, around, at_midst}
use Rattle.lalrpop_collections.proofs.theory.sets.Subsets.{join_counts}
use Rattle.lalrpop_collections.proofs.theory.sets.BitSets.{join_left, join_right, join_cases}
use Rattle.std.proofs.lemmas.List.{map-append, take_more}

-- the key of an entry is a key
pub entry_key : {K : Type 0} (table : List (K × Bits)) (e : K × Bits) → Contains table e → Contains (keys_of table) e.0
entry_key {K} table e c = contains_map (λ (x : K × Bits). x.0) table e c

pub key_entry : {K : Type 0} (table : List (K × Bits)) (k : K) → Contains (keys_of table) k → (s : Bits) × Contains table (k, s)
key_entry [] k c = absurd (Contains-none k c)
key_entry {K} (e ∷ es) k c = elim (contains-cons e.0 (keys_of es) k c) [
  | inl same ↦ (e.1, subst (λ (x : K). Contains (e ∷ es) (x, e.1)) same (contains_head e es))
  | inr later ↦ let h = key_entry es k later in (h.0, contains_tail e es (k, h.0) h.1)
]

module _ {K : Type 0} where
  found_again : (table : List (K × Bits)) (e : K × Bits) → Contains table e → IsFound table e.0 e.1
  found_again table e c = record { set = e.1; entry = c; all = λ bit h. h }

  pub found_kept : (a b : List (K × Bits)) → ((e : K × Bits) → Contains a e → IsFound b e.0 e.1) → (k : K) (tokens : Bits) → IsFound a k tokens → IsFound b k tokens
  found_kept a b kept k tokens f = let g = kept (k, f.set) f.entry in record { set = g.set; entry = g.entry; all = λ bit h. g.all bit (f.all bit h) }

  pub bit_kept : (a b : List (K × Bits)) → ((e : K × Bits) → Contains a e → IsFound b e.0 e.1) → (k : K) (bit : ℕ) → IsFoundWith a k bit → IsFoundWith b k bit
  bit_kept a b kept k bit f = let g = kept (k, f.set) f.entry in record { set = g.set; entry = g.entry; there = g.all bit f.there }

  -- ---- growth
  pub Grows-none : (table : List (K × Bits)) (queue : List K) → Grows table table queue queue
  Grows-none table queue = record { kept = found_again table; stays = λ k c. c; changed = λ e c. inr c }

  pub Grows-then : (a b c : List (K × Bits)) (s t u : List K) → Grows a b s t → Grows b c t u → Grows a c s u
  Grows-then a b c s t u x y = record {
    kept = λ e h. found_kept b c y.kept e.0 e.1 (x.kept e h);
    stays = λ k h. y.stays k (x.stays k h);
    changed = λ e h. elim (y.changed e h) [ inl p ↦ inl p | inr o ↦ elim (x.changed e o) [ inl p ↦ inl (y.stays e.0 p) | inr q ↦ inr q ] ];
  }

  -- each key of the old table is in the new one
  pub known_kept : (a b : List (K × Bits)) (s t : List K) → Grows a b s t → (k : K) → Contains (keys_of a) k → Contains (keys_of b) k
  known_kept a b s t g k c = let e = key_entry a k c in let f = g.kept (k, e.0) e.1 in entry_key b (k, f.set) f.entry

-- ---- one key more
module _ {K : Type 0} (key : K) (tokens : Bits) where
  abbrev Joined : Type 0
  Joined = List (K × Bits)

  joined_kept : (told : Bool) (old new : Joined) → IsJoinedAt key tokens told old new → (e : K × Bits) → Contains old e → IsFound new e.0 e.1
  joined_kept told old new (fresh front back before after t) e c =
      found_again new e (subst (λ (xs : Joined). Contains xs e) (sym after) (around front back (key, tokens) e (subst (λ (xs : Joined). Contains xs e) before c)))
  joined_kept told old new (known front back s before after t) e c = elim (midst front back (key, s) e (subst (λ (xs : Joined). Contains xs e) before c)) [
    | inl same ↦ subst (λ (x : K × Bits). IsFound new x.0 x.1) same (record { set = join s tokens; entry = subst (λ (xs : Joined). Contains xs (key, join s tokens)) (sym after) (at_midst front back (key, join s tokens)); all = join_left s tokens })
    | inr out ↦ found_again new e (subst (λ (xs : Joined). Contains xs e) (sym after) (around front back (key, join s tokens) e out))
  ]

  joined_there : (told : Bool) (old new : Joined) → IsJoinedAt key tokens told old new → IsFound new key tokens
  joined_there told old new (fresh front back before after t) = record { set = tokens; entry = subst (λ (xs : Joined). Contains xs (key, tokens)) (sym after) (at_midst front back (key, tokens)); all = λ bit h. h }
  joined_there told old new (known front back s before after t) = record { set = join s tokens; entry = subst (λ (xs : Joined). Contains xs (key, join s tokens)) (sym after) (at_midst front back (key, join s tokens)); all = join_right s tokens }

  joined_bits : (told : Bool) (old new : Joined) → IsJoinedAt key tokens told old new → (e : K × Bits) (bit : ℕ) → Contains new e → has e.1 bit ≡ true → IsFoundWith old e.0 bit ⊎ ((key ≡ e.0) × (has tokens bit ≡ true))
  joined_bits told old new (fresh front back before after t) e bit c h = elim (midst front back (key, tokens) e (subst (λ (xs : Joined). Contains xs e) after c)) [
    | inl same ↦ inr (ap (λ (x : K × Bits). x.0) same, subst (λ (x : K × Bits). has x.1 bit ≡ true) (sym same) h)
    | inr out ↦ inl (record { set = e.1; entry = subst (λ (xs : Joined). Contains xs e) (sym before) out; there = h })
  ]
  joined_bits told old new (known front back s before after t) e bit c h = elim (midst front back (key, join s tokens) e (subst (λ (xs : Joined). Contains xs e) after c)) [
    | inl same ↦ elim (join_cases s tokens bit (subst (λ (x : K × Bits). has x.1 bit ≡ true) (sym same) h)) [
      | inl had ↦ inl (subst (λ (x : K × Bits). IsFoundWith old x.0 bit) same (record { set = s; entry = subst (λ (xs : Joined). Contains xs (key, s)) (sym before) (at_midst front back (key, s)); there = had }))
      | inr given ↦ inr (ap (λ (x : K × Bits). x.0) same, given)
    ]
    | inr out ↦ inl (record { set = e.1; entry = subst (λ (xs : Joined). Contains xs e) (sym before) (around front back (key, s) e out); there = h })
  ]

  joined_keys : (told : Bool) (old new : Joined) → IsJoinedAt key tokens told old new → (e : K × Bits) → Contains new e → Contains (keys_of old) e.0 ⊎ (key ≡ e.0)
  joined_keys told old new (fresh front back before after t) e c = elim (midst front back (key, tokens) e (subst (λ (xs : Joined). Contains xs e) after c)) [
    | inl same ↦ inr (ap (λ (x : K × Bits). x.0) same)
    | inr out ↦ inl (entry_key old e (subst (λ (xs : Joined). Contains xs e) (sym before) out))
  ]
  joined_keys told old new (known front back s before after t) e c = elim (midst front back (key, join s tokens) e (subst (λ (xs : Joined). Contains xs e) after c)) [
    | inl same ↦ inr (ap (λ (x : K × Bits). x.0) same)
    | inr out ↦ inl (entry_key old e (subst (λ (xs : Joined). Contains xs e) (sym before) (around front back (key, s) e out)))
  ]

  -- the key waits if it has anything new
  put_there : (told : Bool) (queue pushed : List K) → IsPut key told queue pushed → told ≡ true → Contains pushed key
  put_there told queue pushed (came e) t = subst (λ (xs : List K). Contains xs key) (sym (e ∙ ap (λ b. cond b (queue ++ key ∷ []) queue) t)) (Contains-append_right queue (key ∷ []) key (contains_head key []))
  put_there told queue pushed (waited c e) t = subst (λ (xs : List K). Contains xs key) (sym e) c

  changed_by : (told : Bool) (s : Bits) (front back old : Joined) (queue pushed : List K) → IsPut key told queue pushed → MatchBool told (join s tokens ≢ s) (join s tokens ≡ s) → old ≡ front ++ (key, s) ∷ back → Contains pushed key ⊎ Contains old (key, join s tokens)
  changed_by true s front back old queue pushed put m before = inl (put_there true queue pushed put refl)
  changed_by false s front back old queue pushed put m before = inr (subst (λ (t : Bits). Contains old (key, t)) (sym m) (subst (λ (xs : Joined). Contains xs (key, s)) (sym before) (at_midst front back (key, s))))

  joined_changed : (told : Bool) (old new : Joined) (queue pushed : List K) → IsJoinedAt key tokens told old new → IsPut key told queue pushed → (e : K × Bits) → Contains new e → Contains pushed e.0 ⊎ Contains old e
  joined_changed told old new queue pushed (fresh front back before after t) put e c = elim (midst front back (key, tokens) e (subst (λ (xs : Joined). Contains xs e) after c)) [
    | inl same ↦ inl (subst (λ (x : K × Bits). Contains pushed x.0) same (put_there told queue pushed put t))
    | inr out ↦ inr (subst (λ (xs : Joined). Contains xs e) (sym before) out)
  ]
  joined_changed told old new queue pushed (known front back s before after t) put e c = elim (midst front back (key, join s tokens) e (subst (λ (xs : Joined). Contains xs e) after c)) [
    | inl same ↦ subst (λ (x : K × Bits). Contains pushed x.0 ⊎ Contains old x) same (changed_by told s front back old queue pushed put t before)
    | inr out ↦ inr (subst (λ (xs : Joined). Contains xs e) (sym before) (around front back (key, s) e out))
  ]

  pushed_stays : (told : Bool) (queue pushed : List K) → pushed ≡ cond told (queue ++ key ∷ []) queue → (k : K) → Contains queue k → Contains pushed k
  pushed_stays true queue pushed e k c = subst (λ (ks : List K). Contains ks k) (sym e) (Contains-append_left queue (key ∷ []) k c)
  pushed_stays false queue pushed e k c = subst (λ (ks : List K). Contains ks k) (sym e) c

  queued_stays : (told : Bool) (queue pushed : List K) → IsPut key told queue pushed → (k : K) → Contains queue k → Contains pushed k
  queued_stays told queue pushed (came e) k c = pushed_stays told queue pushed e k c
  queued_stays told queue pushed (waited h e) k c = subst (λ (ks : List K). Contains ks k) (sym e) c

  pushed_found : (told : Bool) (queue pushed : List K) → pushed ≡ cond told (queue ++ key ∷ []) queue → (k : K) → Contains pushed k → Contains queue k ⊎ (key ≡ k)
  pushed_found true queue pushed e k c = elim (Contains-append_cases queue (key ∷ []) k (subst (λ (ks : List K). Contains ks k) e c)) [
    | inl d ↦ inl d
    | inr d ↦ elim (contains-cons key [] k d) [ inl same ↦ inr same | inr n ↦ absurd (Contains-none k n) ]
  ]
  pushed_found false queue pushed e k c = inl (subst (λ (ks : List K). Contains ks k) e c)

  queued_found : (told : Bool) (queue pushed : List K) → IsPut key told queue pushed → (k : K) → Contains pushed k → Contains queue k ⊎ (key ≡ k)
  queued_found told queue pushed (came e) k c = pushed_found told queue pushed e k c
  queued_found told queue pushed (waited h e) k c = inl (subst (λ (ks : List K). Contains ks k) e c)

  pushed_length : (told : Bool) (queue pushed : List K) → pushed ≡ cond told (queue ++ key ∷ []) queue → length pushed ≤ cond told (length queue + 1) (length queue)
  pushed_length true queue pushed e = let l = ap length e ∙ length-append queue (key ∷ []) in omega arith
  pushed_length false queue pushed e = let l = ap length e in omega arith

  kept_length : (told : Bool) (n m : ℕ) → n ≡ m → n ≤ cond told (m + 1) m
  kept_length true n m e = omega arith
  kept_length false n m e = omega arith

  queued_length : (told : Bool) (queue pushed : List K) → IsPut key told queue pushed → length pushed ≤ cond told (length queue + 1) (length queue)
  queued_length told queue pushed (came e) = pushed_length told queue pushed e
  queued_length told queue pushed (waited h e) = kept_length told (length pushed) (length queue) (ap length e)

  module _ (n : ℕ) where
    burden_midst : (front back : Joined) (x : K × Bits) → burden n (front ++ x ∷ back) ≡ burden n (front ++ back) + (1 + count n x.1)
    burden_midst front back x =
        let f : K × Bits → ℕ = λ e. 1 + count n e.1 in
        let a = sum_by-append f front (x ∷ back) in
        let b = sum_by-cons f x back in
        let c = sum_by-append f front back in
        omega arith

    counted_by : (told : Bool) (s : Bits) (m old new : ℕ) → MatchBool told (join s tokens ≢ s) (join s tokens ≡ s) → IsBelow n s → IsBelow n tokens → old + (1 + count n s) + cond told (m + 1) m ≤ old + (1 + count n (join s tokens)) + m
    counted_by true s m old new t f h = let l = join_counts n s tokens f h t in omega arith
    counted_by false s m old new t f h = let l = ap (count n) t in omega arith

    joined_weighed : (told : Bool) (old new : Joined) (m : ℕ) → IsJoinedAt key tokens told old new → IsBelow n tokens → AllBelow n old → burden n old + cond told (m + 1) m ≤ burden n new + m
    joined_weighed told old new m (fresh front back before after t) f each =
        let a = burden_midst front back (key, tokens) in
        let w : burden n new ≡ burden n (front ++ (key, tokens) ∷ back) = ap (burden n) after in
        let v : burden n old ≡ burden n (front ++ back) = ap (burden n) before in
        let one : cond told (m + 1) m ≡ m + 1 = ap (λ b. cond b (m + 1) m) t in
        omega arith
    joined_weighed told old new m (known front back s before after t) f each =
        let a = burden_midst front back (key, join s tokens) in
        let b = burden_midst front back (key, s) in
        let w : burden n new ≡ burden n (front ++ (key, join s tokens) ∷ back) = ap (burden n) after in
        let v : burden n old ≡ burden n (front ++ (key, s) ∷ back) = ap (burden n) before in
        let had = each (key, s) (subst (λ (xs : Joined). Contains xs (key, s)) (sym before) (at_midst front back (key, s))) in
        let l = counted_by told s m (burden n (front ++ back)) (burden n new) t had f in
        omega arith

  pub queued_among : (old new : Joined) (queue pushed : List K) → IsQueued key tokens old new queue pushed → (k : K) → Contains pushed k → Contains queue k ⊎ Contains (keys_of new) k
  queued_among old new queue pushed s k c = elim (queued_found s.told queue pushed s.put k c) [
    | inl o ↦ inl o
    | inr e ↦ inr (subst (Contains (keys_of new)) e (let h = joined_there s.told old new s.joined in entry_key new (key, h.set) h.entry))
  ]

  pub queued_weighed : (old new : Joined) (queue pushed : List K) → IsQueued key tokens old new queue pushed → (n : ℕ) → IsBelow n tokens → AllBelow n old → burden n old + length pushed ≤ burden n new + length queue
  queued_weighed old new queue pushed s n f each =
      let l = joined_weighed n s.told old new (length queue) s.joined f each in
      let m = queued_length s.told queue pushed s.put in
      omega arith

  pub Adds-one : (old new : Joined) (queue pushed : List K) → IsQueued key tokens old new queue pushed → Adds (λ k. key ≡ k) tokens old new queue pushed
  Adds-one old new queue pushed s = record {
    grows = record { kept = joined_kept s.told old new s.joined; stays = queued_stays s.told queue pushed s.put; changed = joined_changed s.told old new queue pushed s.joined s.put };
    keys = joined_keys s.told old new s.joined;
    bits = joined_bits s.told old new s.joined;
    there = λ k e. subst (λ (x : K). IsFound new x tokens) e (joined_there s.told old new s.joined);
  }

-- ---- many
module _ {K : Type 0} where
  pub Adds-none : (Such : K → Type 0) (tokens : Bits) (table : List (K × Bits)) (queue : List K) → ((k : K) → Such k → ⊥) → Adds Such tokens table table queue queue
  Adds-none Such tokens table queue none = record {
    grows = Grows-none table queue;
    keys = λ e c. inl (entry_key table e c);
    bits = λ e bit c h. inl (record { set = e.1; entry = c; there = h });
    there = λ k s. absurd (none k s);
  }

  pub Adds-then : (A B C : K → Type 0) (tokens : Bits) → ((k : K) → A k → C k) → ((k : K) → B k → C k) → ((k : K) → C k → A k ⊎ B k) → (a b c : List (K × Bits)) (s t u : List K) → Adds A tokens a b s t → Adds B tokens b c t u → Adds C tokens a c s u
  Adds-then A B C tokens left right cases a b c s t u x y = record {
    grows = Grows-then a b c s t u x.grows y.grows;
    keys = λ e h. elim (y.keys e h) [ inl o ↦ (let f = key_entry b e.0 o in elim (x.keys (e.0, f.0) f.1) [ inl p ↦ inl p | inr q ↦ inr (left e.0 q) ]) | inr n ↦ inr (right e.0 n) ];
    bits = λ e bit h i. elim (y.bits e bit h i) [ inl o ↦ elim (x.bits (e.0, o.set) bit o.entry o.there) [ inl p ↦ inl p | inr q ↦ inr (left e.0 q.0, q.1) ] | inr n ↦ inr (right e.0 n.0, n.1) ];
    there = λ k h. elim (cases k h) [ inl p ↦ found_kept b c y.grows.kept k tokens (x.there k p) | inr q ↦ y.there k q ];
  }

  -- an equivalent description of the keys
  pub Adds-same : (A B : K → Type 0) (tokens : Bits) → ((k : K) → A k → B k) → ((k : K) → B k → A k) → (a b : List (K × Bits)) (s t : List K) → Adds A tokens a b s t → Adds B tokens a b s t
  Adds-same A B tokens to back a b s t x = record {
    grows = x.grows;
    keys = λ e h. elim (x.keys e h) [ inl o ↦ inl o | inr n ↦ inr (to e.0 n) ];
    bits = λ e bit h i. elim (x.bits e bit h i) [ inl o ↦ inl o | inr n ↦ inr (to e.0 n.0, n.1) ];
    there = λ k h. x.there k (back k h);
  }

-- ---- one more item of a list
pub mapped_more : {X Y : Type 0} (f : X → Y) (xs : List X) (i : ℕ) (x : X) → i < length xs → x ≡ get_or xs i x → map f (take (i + 1) xs) ≡ map f (take i xs) ++ f x ∷ []
mapped_more f xs i x l e = ap (map f) (take_more xs i x l ∙ ap (λ y. take i xs ++ y ∷ []) (sym e)) ∙ map-append f (take i xs) (x ∷ [])
