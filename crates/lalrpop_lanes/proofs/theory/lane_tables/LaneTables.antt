-- One cell or one successor more in a lane table.
use Rattle.std.proofs.Common.{◌≡◌, ℕ, ◌<◌, ◌⊎◌, inl, inr, ⊎_elim, Bool, true, false, List, [], ◌∷◌, ◌++◌, refl, sym, ap, subst, ◌∙◌, arith}
use Rattle.std.specs.Prelude.{◌≢◌, MatchBool, IfOk, OnErr, Result, Ok, Err, IfSome, IsSome, IsNone, option_copied, Contains, Option, Some, None, ◌↔◌}
use Rattle.std.specs.declared.cmp.Ordering.{Ordering}
use Rattle.std.specs.Ordering.{nat_cmp, is_eq, ordering_then}
use Rattle.std.specs.Cmp.{IsTotalOrder, Equal-is, nat_cmp_total, eq_by_cmp_equiv, on_total, then_total}
use Rattle.std.specs.Borrow.{Bor}
use Rattle.std.specs.BTreeMap.{is_at}
use Rattle.std.specs.BTreeSet.{BTreeSet as SortedSet, insert_key}
use Rattle.std.specs.List.Sorted.{IsStrictlySortedBy}
use Rattle.std.specs.Map.{keys_of, lookup}
use Rattle.std.proofs.lemmas.Bool.{cases_Bool, or_cases}
use Rattle.std.proofs.lemmas.Map.Keys.{IsDistinct-from_sorted}
use Rattle.std.proofs.lemmas.Map.Lookups.{CmpEqualImpliesEq, exact_unsigned, exact_pairs}
use Rattle.std.proofs.lemmas.Map.Views.{Contains-from_lookup, lookup-from_Contains, IsSome-lookup_from_Contains, tells_apart}
use Rattle.lalrpop_base.specs.Words.{Bits, has, join, has-join, collection_at, PushesAt, SameAt, IsJoinedAt}
use Rattle.lalrpop_lanes.proofs.Types.{StateIndex}
use Rattle.lalrpop_collections.specs.declared.memory.OutOfMemory.{OutOfMemory}
use Rattle.lalrpop_lanes.specs.Words.{column, AreSameTables, AddsTokens, AddsSuccessor, AreInRange}
use Rattle.lalrpop_state_graph.specs.Words.{state_cmp}
use Rattle.lalrpop_collections.specs.lists.Entries.IsJoinedAt.{fresh, known}
use Rattle.lalrpop_lanes.specs.lane_tables.LaneCells.{AreBelow}
use Rattle.lalrpop_lanes.specs.declared.lane_table.context_set.ConflictIndex.{ConflictIndex}
use Rattle.lalrpop_lanes.specs.declared.lane_table.table.LaneTable.{LaneTable}
use Rattle.lalrpop_collections.proofs.theory.lists.Members.{Contains-none, contains_map, insert_key-has, insert_key-kept, insert_key-from}
use Rattle.lalrpop_collections.proofs.theory.lists.Places.{midst, around, at_midst}
use Rattle.lalrpop_state_graph.proofs.theory.graphs.StateGraphs.{state_total}
use Rattle.lalrpop_collections.proofs.theory.lists.Updates.{IsInserted, IsReplaced, none_is}

abbrev pub Cell : Type 0
Cell = StateIndex × ConflictIndex

abbrev pub column_cmp : ConflictIndex → ConflictIndex → Ordering
column_cmp a b = nat_cmp a.index b.index

abbrev pub cell_cmp : Cell → Cell → Ordering
cell_cmp a b = ordering_then (state_cmp a.0 b.0) (column_cmp a.1 b.1)

abbrev state : ℕ → StateIndex
state n = record { 0 = n }

pub state_exact : CmpEqualImpliesEq state_cmp
state_exact a b e = ap state (exact_unsigned a.0 b.0 e)

column_exact : CmpEqualImpliesEq column_cmp
column_exact a b e = ap column (exact_unsigned a.index b.index e)

pub cell_exact : CmpEqualImpliesEq cell_cmp
cell_exact = exact_pairs state_cmp column_cmp state_exact column_exact

pub cell_total : IsTotalOrder cell_cmp
cell_total = then_total (on_total (λ (c : Cell). c.0.0) nat_cmp_total) (on_total (λ (c : Cell). c.1.index) nat_cmp_total)

-- ---- tokens joined at a key
pub joined_fresh : {K : Type 0} (k : K) (tokens : Bits) (old new : List (K × Bits)) → IsInserted k tokens old new → IsJoinedAt k tokens true old new
joined_fresh k tokens old new i = fresh i.front i.back i.before i.after refl

pub joined_known : {K : Type 0} (k : K) (tokens : Bits) (told : Bool) (s w : Bits) (old new : List (K × Bits)) → w ≡ join s tokens → MatchBool told (w ≢ s) (w ≡ s) → IsReplaced k s w old new → IsJoinedAt k tokens told old new
joined_known {K} k tokens told s w old new e t i = known i.front i.back s i.before (i.after ∙ ap (λ (x : Bits). i.front ++ (k, x) ∷ i.back) e) (subst (λ (x : Bits). MatchBool told (x ≢ s) (x ≡ s)) e t)

module _ {K : Type 0} (k : K) (tokens : Bits) where
  -- the key has an entry
  abbrev HasEntry : List (K × Bits) → K → Type 0
  HasEntry es q = (set : Bits) × Contains es (q, set)

  -- the entry of the key has the token
  abbrev HasToken : List (K × Bits) → K → ℕ → Type 0
  HasToken es q bit = (set : Bits) × Contains es (q, set) × (has set bit ≡ true)

  abbrev At : List (K × Bits) → K × Bits → Type 0
  At es e = Contains es e

  pub entries_joined : (told : Bool) (old new : List (K × Bits)) → IsJoinedAt k tokens told old new → (q : K) → HasEntry new q ↔ (HasEntry old q ⊎ (q ≡ k))
  entries_joined told old new (fresh front back before after t) q = (
    λ h. ⊎_elim
        (λ same. inr (sym (ap (λ (e : K × Bits). e.0) same)))
        (λ rest. inl (h.0, subst (λ es. At es (q, h.0)) (sym before) rest))
        (midst front back (k, tokens) (q, h.0) (subst (λ es. At es (q, h.0)) after h.1)),
    λ h. ⊎_elim
        (λ was. (was.0, subst (λ es. At es (q, was.0)) (sym after) (around front back (k, tokens) (q, was.0) (subst (λ es. At es (q, was.0)) before was.1))))
        (λ same. (tokens, subst (λ (x : K). Contains new (x, tokens)) (sym same) (subst (λ es. At es (k, tokens)) (sym after) (at_midst front back (k, tokens)))))
        h,
  )
  entries_joined told old new (known front back s before after t) q = (
    λ h. ⊎_elim
        (λ same. inr (sym (ap (λ (e : K × Bits). e.0) same)))
        (λ rest. inl (h.0, subst (λ es. At es (q, h.0)) (sym before) (around front back (k, s) (q, h.0) rest)))
        (midst front back (k, join s tokens) (q, h.0) (subst (λ es. At es (q, h.0)) after h.1)),
    λ h. ⊎_elim
        (λ was. ⊎_elim
        (λ same. (join s tokens, subst (λ (x : K). Contains new (x, join s tokens)) (ap (λ (e : K × Bits). e.0) same) (subst (λ es. At es (k, join s tokens)) (sym after) (at_midst front back (k, join s tokens)))))
        (λ rest. (was.0, subst (λ es. At es (q, was.0)) (sym after) (around front back (k, join s tokens) (q, was.0) rest)))
        (midst front back (k, s) (q, was.0) (subst (λ es. At es (q, was.0)) before was.1)))
        (λ same. (join s tokens, subst (λ (x : K). Contains new (x, join s tokens)) (sym same) (subst (λ es. At es (k, join s tokens)) (sym after) (at_midst front back (k, join s tokens)))))
        h,
  )

  value_of : (a b : K × Bits) (bit : ℕ) → a ≡ b → has b.1 bit ≡ true → has a.1 bit ≡ true
  value_of a b bit e h = ap (λ (x : K × Bits). has x.1 bit) e ∙ h

  pub tokens_joined : (told : Bool) (old new : List (K × Bits)) → IsJoinedAt k tokens told old new → (q : K) (bit : ℕ) → HasToken new q bit ↔ (HasToken old q bit ⊎ ((q ≡ k) × (has tokens bit ≡ true)))
  tokens_joined told old new (fresh front back before after t) q bit = (
    λ h. ⊎_elim
        (λ same. inr (sym (ap (λ (e : K × Bits). e.0) same), value_of (k, tokens) (q, h.0) bit same h.2))
        (λ rest. inl (h.0, subst (λ es. At es (q, h.0)) (sym before) rest, h.2))
        (midst front back (k, tokens) (q, h.0) (subst (λ es. At es (q, h.0)) after h.1)),
    λ h. ⊎_elim
        (λ was. (was.0, subst (λ es. At es (q, was.0)) (sym after) (around front back (k, tokens) (q, was.0) (subst (λ es. At es (q, was.0)) before was.1)), was.2))
        (λ same. (tokens, subst (λ (x : K). Contains new (x, tokens)) (sym same.0) (subst (λ es. At es (k, tokens)) (sym after) (at_midst front back (k, tokens))), same.1))
        h,
  )
  tokens_joined told old new (known front back s before after t) q bit = (
    λ h. ⊎_elim
        (λ same. let key : q ≡ k = sym (ap (λ (e : K × Bits). e.0) same) in
        let joined : has (join s tokens) bit ≡ true = value_of (k, join s tokens) (q, h.0) bit same h.2 in
        ⊎_elim
        (λ was. inl (s, subst (λ (x : K). Contains old (x, s)) (sym key) (subst (λ es. At es (k, s)) (sym before) (at_midst front back (k, s))), was))
        (λ new_one. inr (key, new_one))
        (or_cases (has s bit) (has tokens bit) (sym (has-join s tokens bit) ∙ joined)))
        (λ rest. inl (h.0, subst (λ es. At es (q, h.0)) (sym before) (around front back (k, s) (q, h.0) rest), h.2))
        (midst front back (k, join s tokens) (q, h.0) (subst (λ es. At es (q, h.0)) after h.1)),
    λ h. ⊎_elim
        (λ was. ⊎_elim
        (λ same. (
          join s tokens,
          subst (λ (x : K). Contains new (x, join s tokens)) (ap (λ (e : K × Bits). e.0) same) (subst (λ es. At es (k, join s tokens)) (sym after) (at_midst front back (k, join s tokens))),
          still bit s (value_of (k, s) (q, was.0) bit same was.2),
        ))
        (λ rest. (was.0, subst (λ es. At es (q, was.0)) (sym after) (around front back (k, join s tokens) (q, was.0) rest), was.2))
        (midst front back (k, s) (q, was.0) (subst (λ es. At es (q, was.0)) before was.1)))
        (λ same. (join s tokens, subst (λ (x : K). Contains new (x, join s tokens)) (sym same.0) (subst (λ es. At es (k, join s tokens)) (sym after) (at_midst front back (k, join s tokens))), added bit s same.1))
        h,
  )
    where
      still : (bit : ℕ) (s : Bits) → has s bit ≡ true → has (join s tokens) bit ≡ true
      still bit s h = grind (arith, has-join, h)

      added : (bit : ℕ) (s : Bits) → has tokens bit ≡ true → has (join s tokens) bit ≡ true
      added bit s h = grind (arith, has-join, h)

-- ---- tables
pub same_tables : (old new : LaneTable) → new.conflicts ≡ old.conflicts → new.lookaheads.entries ≡ old.lookaheads.entries → new.successors ≡ old.successors → AreSameTables old new
same_tables old new c l s = record {
  columns = c;
  cells = λ row k. (λ h. (h.0, subst (λ (es : List (Cell × Bits)). Contains es ((row, column k), h.0)) l h.1), λ h. (h.0, subst (λ (es : List (Cell × Bits)). Contains es ((row, column k), h.0)) (sym l) h.1));
  tokens = λ row k bit. (λ h. (h.0, subst (λ (es : List (Cell × Bits)). Contains es ((row, column k), h.0)) l h.1, h.2), λ h. (h.0, subst (λ (es : List (Cell × Bits)). Contains es ((row, column k), h.0)) (sym l) h.1, h.2));
  successors = λ left right. (
    λ h. (h.0, subst (λ (es : List (StateIndex × SortedSet StateIndex)). Contains es (left, h.0)) s h.1, h.2),
    λ h. (h.0, subst (λ (es : List (StateIndex × SortedSet StateIndex)). Contains es (left, h.0)) (sym s) h.1, h.2),
  );
}

-- no cell of a table is past its columns
pub in_range_of : (table : LaneTable) → AreInRange table
in_range_of table row k h = table.in_range row (column k) h.0 h.1

-- if tokens go to a cell below the count, or nowhere, all cells stay below it
pub still_below : (count : ℕ) (cell : Cell) (tokens : Bits) (old new : List (Cell × Bits)) (result : Result Bool OutOfMemory) → IfOk result (λ told. IsJoinedAt cell tokens told old new) → OnErr result (new ≡ old) → cell.1.index < count → AreBelow count old → AreBelow count new
still_below count cell tokens old new (Ok told) joined err within below row col set h = ⊎_elim
    (λ was. below row col was.0 was.1)
    (λ same. subst (λ (c : Cell). c.1.index < count) (sym same) within)
    ((entries_joined cell tokens told old new joined (row, col)).0 (set, h))
still_below count cell tokens old new (Err e) joined err within below row col set h = below row col set (subst (λ (es : List (Cell × Bits)). Contains es ((row, col), set)) err h)

module _ (row : StateIndex) (k : ℕ) (tokens : Bits) (told : Bool) (old new : LaneTable) (c : new.conflicts ≡ old.conflicts) (s : new.successors ≡ old.successors) (j : IsJoinedAt (row, column k) tokens told old.lookaheads.entries new.lookaheads.entries) where
  abbrev IsSame : Cell → Cell → Type 0
  IsSame a b = a ≡ b

  row_of : (r : StateIndex) (i : ℕ) → IsSame (r, column i) (row, column k) → (r ≡ row) × (i ≡ k)
  row_of r i e = (ap (λ (x : Cell). x.0) e, ap (λ (x : Cell). x.1.index) e)

  cell_of : (r : StateIndex) (i : ℕ) → r ≡ row → i ≡ k → IsSame (r, column i) (row, column k)
  cell_of r i e f = ap (λ (x : StateIndex). (x, column i)) e ∙ ap (λ (n : ℕ). (row, column n)) f

  pub adds_tokens : AddsTokens row k tokens old new
  adds_tokens = record {
    columns = c;
    cells = λ r i. let e = entries_joined (row, column k) tokens told old.lookaheads.entries new.lookaheads.entries j (r, column i) in (
      λ h. ⊎_elim (λ was. inl was) (λ same. inr (row_of r i same)) (e.0 h),
      λ h. e.1 (⊎_elim (λ was. inl was) (λ same. inr (cell_of r i same.0 same.1)) h),
    );
    tokens = λ r i bit. let e = tokens_joined (row, column k) tokens told old.lookaheads.entries new.lookaheads.entries j (r, column i) bit in (
      λ h. ⊎_elim (λ was. inl was) (λ same. let p = row_of r i same.0 in inr (p.0, p.1, same.1)) (e.0 h),
      λ h. e.1 (⊎_elim (λ was. inl was) (λ same. inr (cell_of r i same.0 same.1, same.2)) h),
    );
    successors = λ left right. (
      λ h. (h.0, subst (λ (es : List (StateIndex × SortedSet StateIndex)). Contains es (left, h.0)) s h.1, h.2),
      λ h. (h.0, subst (λ (es : List (StateIndex × SortedSet StateIndex)). Contains es (left, h.0)) (sym s) h.1, h.2),
    );
  }

-- ---- successors
abbrev pub Entries : Type 0
Entries = List (StateIndex × SortedSet StateIndex)

abbrev keys_in : Option (SortedSet StateIndex) → List StateIndex
keys_in None = []
keys_in (Some set) = set.keys

-- the successors of a state
abbrev pub next_of : Entries → StateIndex → List StateIndex
next_of es q = keys_in (collection_at state_cmp es q)

abbrev Rises : Entries → Type 0
Rises es = IsStrictlySortedBy state_cmp (keys_of es)

abbrev HasNext : Entries → StateIndex → StateIndex → Type 0
HasNext es left right = (set : SortedSet StateIndex) × Contains es (left, set) × Contains set.keys right

pub lookup_of : {V : Type 0} (es : List (StateIndex × V)) (q : StateIndex) (v : V) → IsStrictlySortedBy state_cmp (keys_of es) → Contains es (q, v) → lookup (is_at (state_cmp q)) es ≡ Some v
lookup_of es q v rises c = lookup-from_Contains (eq_by_cmp_equiv state_total) q v es (IsDistinct-from_sorted state_cmp (keys_of es) rises) c

pub found_of : {V : Type 0} (es : List (StateIndex × V)) (q : StateIndex) (v : V) → lookup (is_at (state_cmp q)) es ≡ Some v → Contains es (q, v)
found_of es q v e = Contains-from_lookup (tells_apart state_exact) q v es e

pub next_is : (es : Entries) → Rises es → (left right : StateIndex) → HasNext es left right → Contains (next_of es left) right
next_is es rises left right h = subst (λ (o : Option (SortedSet StateIndex)). Contains (keys_in o) right) (sym (lookup_of es left h.0 rises h.1)) h.2

next_at : (es : Entries) (left right : StateIndex) (o : Option (SortedSet StateIndex)) → collection_at state_cmp es left ≡ o → Contains (keys_in o) right → HasNext es left right
next_at es left right None e c = absurd (Contains-none right c)
next_at es left right (Some set) e c = (set, found_of es left set e, c)

pub next_has : (es : Entries) (left right : StateIndex) → Contains (next_of es left) right → HasNext es left right
next_has es left right c = next_at es left right (collection_at state_cmp es left) refl c

abbrev HasNone : SortedSet StateIndex → Type 0
HasNone s = s.keys ≡ []

abbrev Pushes : SortedSet StateIndex → StateIndex → SortedSet StateIndex → Type 0
Pushes s item t = t.keys ≡ insert_key state_cmp s.keys item

pub key_added : (old new : List StateIndex) (value : StateIndex) → new ≡ insert_key state_cmp old value → (r : StateIndex) → Contains new r ↔ (Contains old r ⊎ (r ≡ value))
key_added old new value e r = (
  λ c. ⊎_elim (λ was. inl was) (λ same. inr (sym same)) (insert_key-from state_cmp old value r (subst (λ xs. Contains xs r) e c)),
  λ c. subst (λ xs. Contains xs r) (sym e) (⊎_elim
      (λ was. insert_key-kept state_cmp old value r was)
      (λ same. subst (λ (x : StateIndex). Contains (insert_key state_cmp old value) x) (sym same) (insert_key-has state_cmp state_exact old value))
      c),
)

pushed_keys : (old new : Option (SortedSet StateIndex)) (value : StateIndex) → PushesAt HasNone Pushes old value new → (r : StateIndex) → Contains (keys_in new) r ↔ (Contains (keys_in old) r ⊎ (r ≡ value))
pushed_keys None None value p r = absurd p
pushed_keys (Some s) None value p r = absurd p
pushed_keys (Some s) (Some t) value p r = key_added s.keys t.keys value p r
pushed_keys None (Some t) value p r = key_added [] t.keys value (p.2 ∙ ap (λ (xs : List StateIndex). insert_key state_cmp xs value) p.1) r

-- states that compare equal are equal
pub tied_is : (s q : StateIndex) → is_eq (state_cmp s q) ≡ true → s ≡ q
tied_is s q e = state_exact s q ((Equal-is (state_cmp s q)).0 e)

module _ (left right : StateIndex) (old new : Entries) (pushed : PushesAt HasNone Pushes (collection_at state_cmp old left) right (collection_at state_cmp new left))
    (others : (q : StateIndex) → is_eq (state_cmp left q) ≡ false → collection_at state_cmp new q ≡ collection_at state_cmp old q) where
  grown : (q r : StateIndex) → Contains (next_of new q) r → Contains (next_of old q) r ⊎ ((q ≡ left) × (r ≡ right))
  grown q r c = ⊎_elim
      (λ tied. let same : left ≡ q = tied_is left q tied in
      ⊎_elim (λ was. inl (subst (λ (x : StateIndex). Contains (next_of old x) r) same was)) (λ added. inr (sym same, added))
      ((pushed_keys _ _ right pushed r).0 (subst (λ (x : StateIndex). Contains (next_of new x) r) (sym same) c)))
      (λ apart. inl (subst (λ (o : Option (SortedSet StateIndex)). Contains (keys_in o) r) (others q apart) c))
      (cases_Bool (is_eq (state_cmp left q)))

  kept : (q r : StateIndex) → Contains (next_of old q) r → Contains (next_of new q) r
  kept q r c = ⊎_elim
      (λ tied. let same : left ≡ q = tied_is left q tied in
      subst (λ (x : StateIndex). Contains (next_of new x) r) same ((pushed_keys _ _ right pushed r).1 (inl (subst (λ (x : StateIndex). Contains (next_of old x) r) (sym same) c))))
      (λ apart. subst (λ (o : Option (SortedSet StateIndex)). Contains (keys_in o) r) (sym (others q apart)) c)
      (cases_Bool (is_eq (state_cmp left q)))

  pub next_added : Rises old → Rises new → (q r : StateIndex) → HasNext new q r ↔ (HasNext old q r ⊎ ((q ≡ left) × (r ≡ right)))
  next_added up_old up_new q r = (
    λ h. ⊎_elim (λ was. inl (next_has old q r was)) (λ added. inr added) (grown q r (next_is new up_new q r h)),
    λ h. next_has new q r (⊎_elim
        (λ was. kept q r (next_is old up_old q r was))
        (λ added. subst (λ (x : StateIndex). Contains (next_of new x) r) (sym added.0) ((pushed_keys _ _ right pushed r).1 (inr added.1)))
        h),
  )

pub adds_successor : (left right : StateIndex) (old new : LaneTable) → new.conflicts ≡ old.conflicts → new.lookaheads.entries ≡ old.lookaheads.entries → Rises old.successors → Rises new.successors →
    PushesAt HasNone Pushes (collection_at state_cmp old.successors left) right (collection_at state_cmp new.successors left) →
    ((q : StateIndex) → is_eq (state_cmp left q) ≡ false → collection_at state_cmp new.successors q ≡ collection_at state_cmp old.successors q) → AddsSuccessor left right old new
adds_successor left right old new c l up_old up_new pushed others = record {
  columns = c;
  cells = λ row k. (λ h. (h.0, subst (λ (es : List (Cell × Bits)). Contains es ((row, column k), h.0)) l h.1), λ h. (h.0, subst (λ (es : List (Cell × Bits)). Contains es ((row, column k), h.0)) (sym l) h.1));
  tokens = λ row k bit. (λ h. (h.0, subst (λ (es : List (Cell × Bits)). Contains es ((row, column k), h.0)) l h.1, h.2), λ h. (h.0, subst (λ (es : List (Cell × Bits)). Contains es ((row, column k), h.0)) (sym l) h.1, h.2));
  successors = next_added left right old.successors new.successors pushed others up_old up_new;
}

-- ---- successors after a push that was refused
same_keys : (o n : Option (SortedSet StateIndex)) → SameAt (λ (s t : SortedSet StateIndex). t.keys ≡ s.keys) o n → keys_in n ≡ keys_in o
same_keys None None h = refl
same_keys None (Some t) h = absurd h
same_keys (Some s) None h = absurd h
same_keys (Some s) (Some t) h = h

pub same_successors : (left : StateIndex) (old new : LaneTable) → new.conflicts ≡ old.conflicts → new.lookaheads.entries ≡ old.lookaheads.entries → Rises old.successors → Rises new.successors →
    SameAt (λ (s t : SortedSet StateIndex). t.keys ≡ s.keys) (collection_at state_cmp old.successors left) (collection_at state_cmp new.successors left) →
    ((q : StateIndex) → is_eq (state_cmp left q) ≡ false → collection_at state_cmp new.successors q ≡ collection_at state_cmp old.successors q) → AreSameTables old new
same_successors left old new c l up_old up_new same others = record {
  columns = c;
  cells = λ row k. (λ h. (h.0, subst (λ (es : List (Cell × Bits)). Contains es ((row, column k), h.0)) l h.1), λ h. (h.0, subst (λ (es : List (Cell × Bits)). Contains es ((row, column k), h.0)) (sym l) h.1));
  tokens = λ row k bit. (λ h. (h.0, subst (λ (es : List (Cell × Bits)). Contains es ((row, column k), h.0)) l h.1, h.2), λ h. (h.0, subst (λ (es : List (Cell × Bits)). Contains es ((row, column k), h.0)) (sym l) h.1, h.2));
  successors = λ q r. (
    λ h. next_has old.successors q r (subst (λ xs. Contains xs r) (everywhere q) (next_is new.successors up_new q r h)),
    λ h. next_has new.successors q r (subst (λ xs. Contains xs r) (sym (everywhere q)) (next_is old.successors up_old q r h)),
  );
}
  where
    everywhere : (q : StateIndex) → next_of new.successors q ≡ next_of old.successors q
    everywhere q = ⊎_elim
        (λ tied. let here : left ≡ q = tied_is left q tied in
        subst (λ (x : StateIndex). next_of new.successors x ≡ next_of old.successors x) here (same_keys _ _ same))
        (λ apart. ap keys_in (others q apart))
        (cases_Bool (is_eq (state_cmp left q)))

pub exactly_next : (es : Entries) (left : StateIndex) → Rises es → (o : Option (Bor (SortedSet StateIndex))) → option_copied o ≡ collection_at state_cmp es left → IfSome o (λ set. (right : StateIndex) → Contains set.now.keys right ↔ HasNext es left right)
exactly_next es left rises None e = tt
exactly_next es left rises (Some set) e = λ right. (
  λ c. (set.now, found_of es left set.now (sym e), c),
  λ h. subst (λ (p : Option (SortedSet StateIndex)). Contains (keys_in p) right) (sym e) (next_is es rises left right h),
)

pub none_next : (es : Entries) (left : StateIndex) → Rises es → (o : Option (Bor (SortedSet StateIndex))) → option_copied o ≡ collection_at state_cmp es left → IsNone o → (right : StateIndex) → ¬ HasNext es left right
none_next es left rises o e none right h = Contains-none right (subst (λ (p : Option (SortedSet StateIndex)). Contains (keys_in p) right) (sym e ∙ none_is o none) (next_is es rises left right h))

pub entry_next : (es : Entries) (left : StateIndex) (o : Option (Bor (SortedSet StateIndex))) → option_copied o ≡ collection_at state_cmp es left → IsSome o ↔ Contains (keys_of es) left
entry_next es left o e = (λ s. has o e s, λ c. some o (subst IsSome (sym e) (IsSome-lookup_from_Contains (eq_by_cmp_equiv state_total) left es c)))
  where
    has : (o : Option (Bor (SortedSet StateIndex))) → option_copied o ≡ collection_at state_cmp es left → IsSome o → Contains (keys_of es) left
    has None e s = cc
    has (Some set) e s = contains_map (λ (x : StateIndex × SortedSet StateIndex). x.0) es (left, set.now) (found_of es left set.now (sym e))

    some : (o : Option (Bor (SortedSet StateIndex))) → IsSome (option_copied o) → IsSome o
    some None s = s
    some (Some set) s = s
