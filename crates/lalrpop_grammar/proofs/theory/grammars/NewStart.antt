-- A new start symbol: one more entry of a grammar, and names that are longer than all others and so
-- are unused.
use Rattle.std.proofs.Common.{◌≡◌, ℕ, zero, suc, ◌+◌, ◌-◌, ◌<◌, ◌≤◌, ◌⊎◌, inl, inr, List, [], ◌∷◌, length, Option, Some, None, Bool, true, false, cond, IsSome, refl, sym, subst, ap, ◌∙◌, arith}
use Rattle.std.specs.Prelude.{slice_get, Contains, vec_len}
use Rattle.std.specs.declared.cmp.Ordering.{Ordering}
use Rattle.std.specs.declared.cmp.Ordering.TheVariants.{Less, Equal, Greater}
use Rattle.std.specs.Ordering.{is_eq, match_ordering}
use Rattle.std.specs.BTreeMap.{is_at, insert_entry}
use Rattle.std.specs.Map.{lookup}
use Rattle.std.specs.List.{flat_map}
use Rattle.std.proofs.lemmas.List.Elements.{Contains-append_cases, Contains-append_left, Contains-append_right}
use Rattle.lalrpop_grammar.proofs.Types.{Grammar, NonterminalData, NonterminalString, Production, Symbol, TerminalString}
use Rattle.lalrpop_grammar.specs.declared.repr.Symbol.TheVariants.{Nonterminal, Terminal}
use Rattle.lalrpop_grammar.specs.Words.{IsOnNoRightSide, name_cmp, productions, IsWellFormed, IsWellFormedEntry, IsWellFormedProduction, IsAugmented, underscored}
use Rattle.lalrpop_grammar.specs.Words.{IsUnused, start_production, start_action, HasNewStart}
use Rattle.lalrpop_grammar.proofs.theory.first.FirstNames.{name_same, has_own}
use Rattle.lalrpop_collections.proofs.theory.lists.Lists.{same_some, some≢none, contains-cons, contains-nil, contains_head, contains_tail, contains_place, place_contains, length-more}
use Rattle.lalrpop_grammar.proofs.theory.grammars.SymbolLists.{not_both}

-- a number below the next one is below the number or equal to it
pub below : (a b : ℕ) → a < suc b → (a < b) ⊎ (a ≡ b)
below zero zero h = inr refl
below zero (suc b) h = inl (omega arith)
below (suc a) zero h = absurd (omega (arith, h))
below (suc a) (suc b) h = elim (below a b (omega (arith, h))) [ inl l ↦ inl (omega (arith, l)) | inr e ↦ inr (ap suc e) ]

-- ---- one more entry in a map
module _ {K X : Type 0} (cmp : K → K → Ordering) (k : K) (v : X) where
  abbrev Absent : List (K × X) → Type 0
  Absent es = lookup (is_at (cmp k)) es ≡ None

  abbrev IsOfOne : List (K × X) → (K × X) → Type 0
  IsOfOne es x = (x ≡ (k, v)) ⊎ Contains es x

  -- if the key was absent, an entry is the new one or was there before
  pub inserted_cases : (es : List (K × X)) → Absent es → (x : K × X) → Contains (insert_entry cmp es k v) x → IsOfOne es x
  inserted_cases [] none x c = elim (contains-cons (k, v) [] x c) [ inl h ↦ inl (sym h) | inr h ↦ absurd (contains-nil h) ]
  inserted_cases (e ∷ es) none x c = go (cmp k e.0) none c (λ n d. inserted_cases es n x d)
    where
      go : (o : Ordering) → cond (is_eq o) (Some e.1) (lookup (is_at (cmp k)) es) ≡ None → Contains (match_ordering o ((k, v) ∷ e ∷ es) ((e.0, v) ∷ es) (e ∷ insert_entry cmp es k v)) x
          → (Absent es → Contains (insert_entry cmp es k v) x → IsOfOne es x) → IsOfOne (e ∷ es) x
      go Less n d rest = elim (contains-cons (k, v) (e ∷ es) x d) [ inl h ↦ inl (sym h) | inr h ↦ inr h ]
      go Equal n d rest = absurd (some≢none n)
      go Greater n d rest = elim (contains-cons e (insert_entry cmp es k v) x d) [
        | inl h ↦ inr (subst (λ y. Contains (e ∷ es) y) h (contains_head e es))
        | inr h ↦ elim (rest n h) [ inl z ↦ inl z | inr z ↦ inr (contains_tail e es x z) ]
      ]

  -- if the key was absent, the new entry and the old ones are there
  pub inserted_there : (es : List (K × X)) → Absent es → (x : K × X) → IsOfOne es x → Contains (insert_entry cmp es k v) x
  inserted_there [] none x c = elim c [ inl h ↦ subst (λ y. Contains ((k, v) ∷ []) y) (sym h) (contains_head (k, v) []) | inr h ↦ absurd (contains-nil h) ]
  inserted_there (e ∷ es) none x c = go (cmp k e.0) none c (λ n d. inserted_there es n x d)
    where
      go : (o : Ordering) → cond (is_eq o) (Some e.1) (lookup (is_at (cmp k)) es) ≡ None → IsOfOne (e ∷ es) x
          → (Absent es → IsOfOne es x → Contains (insert_entry cmp es k v) x) → Contains (match_ordering o ((k, v) ∷ e ∷ es) ((e.0, v) ∷ es) (e ∷ insert_entry cmp es k v)) x
      go Less n d rest = elim d [ inl h ↦ subst (λ y. Contains ((k, v) ∷ e ∷ es) y) (sym h) (contains_head (k, v) (e ∷ es)) | inr h ↦ contains_tail (k, v) (e ∷ es) x h ]
      go Equal n d rest = absurd (some≢none n)
      go Greater n d rest = elim d [
        | inl h ↦ contains_tail e (insert_entry cmp es k v) x (rest n (inl h))
        | inr h ↦ elim (contains-cons e es x h) [
          | inl z ↦ subst (λ y. Contains (e ∷ insert_entry cmp es k v) y) z (contains_head e (insert_entry cmp es k v))
          | inr z ↦ contains_tail e (insert_entry cmp es k v) x (rest n (inr z))
        ]
      ]

-- ---- the productions of entries
abbrev pub Entry : Type 0
Entry = NonterminalString × NonterminalData

abbrev pub listed : List Entry → List Production
listed es = flat_map (λ (e : Entry). e.1.productions.items) es

pub listed_in : (es : List Entry) (e : Entry) (p : Production) → Contains es e → Contains e.1.productions.items p → Contains (listed es) p
listed_in [] e p c d = absurd (contains-nil c)
listed_in (x ∷ es) e p c d = elim (contains-cons x es e c) [
  | inl h ↦ Contains-append_left x.1.productions.items (listed es) p (subst (λ (y : Entry). Contains y.1.productions.items p) (sym h) d)
  | inr h ↦ Contains-append_right x.1.productions.items (listed es) p (listed_in es e p h d)
]

pub listed_from : (es : List Entry) (p : Production) → Contains (listed es) p → (e : Entry) × Contains es e × Contains e.1.productions.items p
listed_from [] p c = absurd (contains-nil c)
listed_from (x ∷ es) p c = elim (Contains-append_cases x.1.productions.items (listed es) p c) [
  | inl h ↦ (x, contains_head x es, h)
  | inr h ↦ let r = listed_from es p h in (r.0, contains_tail x es r.0 r.1, r.2)
]

-- a name is on no right side of entries exactly if it is on no right side of the first entry and of
-- the others
module _ (a : NonterminalString) where
  pub sides_cons : (name : NonterminalString) (entry : NonterminalData) (rest whole : List Entry) → whole ≡ (name, entry) ∷ rest → IsOnNoRightSide entry.productions.items a → IsOnNoRightSide (listed rest) a → IsOnNoRightSide (listed whole) a
  sides_cons name entry rest whole e here later p c d =
      elim (Contains-append_cases entry.productions.items (listed rest) p (subst (λ es. Contains (listed es) p) e c)) [ inl h ↦ here p h d | inr h ↦ later p h d ]

  pub sides_head : (name : NonterminalString) (entry : NonterminalData) (rest whole : List Entry) → whole ≡ (name, entry) ∷ rest → IsOnNoRightSide (listed whole) a → IsOnNoRightSide entry.productions.items a
  sides_head name entry rest whole e all p c d = all p (subst (λ es. Contains (listed es) p) (sym e) (Contains-append_left entry.productions.items (listed rest) p c)) d

  pub sides_tail : (name : NonterminalString) (entry : NonterminalData) (rest whole : List Entry) → whole ≡ (name, entry) ∷ rest → IsOnNoRightSide (listed whole) a → IsOnNoRightSide (listed rest) a
  sides_tail name entry rest whole e all p c d = all p (subst (λ es. Contains (listed es) p) (sym e) (Contains-append_right entry.productions.items (listed rest) p c)) d

-- ---- a name with underscores before it is longer
pub longer : (n : ℕ) (a : NonterminalString) → length (underscored n a).text ≡ n + length a.text
longer zero a = omega arith
longer (suc n) a = let one = longer n a in omega (arith, one)

-- ---- a grammar with a new start symbol
module _ (g h : Grammar) (start f : NonterminalString) (well : IsWellFormed g) (new : HasNewStart g start h f) where
  abbrev old : List Entry
  old = g.nonterminals.entries

  abbrev added : Production
  added = start_production g start f

  absent : lookup (is_at (name_cmp f)) old ≡ None
  absent = new.name.unused.0

  -- the new start symbol is none of the old names
  not_left : (p : Production) → Contains (productions g) p → p.nonterminal ≡ f → ⊥
  not_left p c is_f =
      let from = listed_from old p c in
      let e = from.0 in
      let at = contains_place old e from.1 in
      let place = contains_place e.1.productions.items p from.2 in
      let named : p.nonterminal ≡ e.0 = ((well at.0 e.0 e.1 at.1).each place.0 p place.1).named in
      let own : IsSome (lookup (is_at (name_cmp f)) old) = subst (λ a. IsSome (lookup (is_at (name_cmp a)) old)) (sym named ∙ is_f) (has_own old at.0 e.0 e.1 at.1) in
      none (lookup (is_at (name_cmp f)) old) absent own
    where
      none : (o : Option NonterminalData) → o ≡ None → IsSome o → ⊥
      none (Some x) e h = some≢none e
      none None e h = cc

  only_added : (p : Production) → Contains new.entry.productions.items p → p ≡ added
  only_added p c = elim (contains-cons added [] p (subst (λ ps. Contains ps p) new.added.productions c)) [ inl e ↦ sym e | inr n ↦ absurd (contains-nil n) ]

  old_or_added : (p : Production) → Contains (productions h) p → Contains (productions g) p ⊎ (p ≡ added)
  old_or_added p c =
      let from = listed_from (insert_entry name_cmp old f new.entry) p (subst (λ es. Contains (listed es) p) new.entries c) in
      elim (inserted_cases name_cmp f new.entry old absent from.0 from.1) [
        | inl e ↦ inr (only_added p (subst (λ (x : Entry). Contains x.1.productions.items p) e from.2))
        | inr c ↦ inl (listed_in old from.0 p c from.2)
      ]

  there : (p : Production) → Contains (productions g) p ⊎ (p ≡ added) → Contains (productions h) p
  there p c = subst (λ es. Contains (listed es) p) (sym new.entries) (go c)
    where
      go : Contains (productions g) p ⊎ (p ≡ added) → Contains (listed (insert_entry name_cmp old f new.entry)) p
      go (inl c) =
          let from = listed_from old p c in
          listed_in (insert_entry name_cmp old f new.entry) from.0 p (inserted_there name_cmp f new.entry old absent from.0 (inr from.1)) from.2
      go (inr e) =
          listed_in (insert_entry name_cmp old f new.entry) (f, new.entry) p (inserted_there name_cmp f new.entry old absent (f, new.entry) (inl refl))
          (subst (λ ps. Contains ps p) (sym new.added.productions) (subst (λ q. Contains (added ∷ []) q) (sym e) (contains_head added [])))

  -- the old start symbol is another name
  other : start ≡ f → ⊥
  other e =
      let same : length start.text ≡ length f.text = ap (λ (a : NonterminalString). length a.text) e in
      let long : length f.text ≡ suc (suc new.name.more) + length start.text = ap (λ (a : NonterminalString). length a.text) new.name.name ∙ longer (suc (suc new.name.more)) start in
      absurd (omega (arith, same, long))

  -- the productions are those that the definition of an augmented grammar asks for
  pub is_augmented : IsAugmented (productions g) (productions h) start f
  is_augmented = record {
    added = added;
    more = λ p. (old_or_added p, there p);
    name = refl;
    symbols = refl;
    fresh = (not_left, new.name.unused.1);
    other = other;
  }

  actions : vec_len h.action_fn_defns ≡ suc (vec_len g.action_fn_defns)
  actions = h.action_fn_defns.ok.0 ∙ ap length new.action_fn_defns ∙ length-more g.action_fn_defns.items start_action ∙ ap suc (sym g.action_fn_defns.ok.0)

  abbrev IsGood : NonterminalString → List Production → Type 0
  IsGood a ps = IsWellFormedEntry h.terminals (vec_len h.action_fn_defns) a ps

  kept_good : (a : NonterminalString) (ps : List Production) → IsWellFormedEntry g.terminals (vec_len g.action_fn_defns) a ps → IsGood a ps
  kept_good a ps good = record {
    each = λ k p at.
        let one = good.each k p at in
        record {
          named = one.named;
          known = λ j t s. subst (λ ts. Contains ts t) (sym new.terminals) (one.known j t s);
          numbered = let below : p.action.0 < vec_len g.action_fn_defns = one.numbered in omega (arith, below, actions);
        };
    differ = good.differ;
  }

  added_good : IsGood f (added ∷ [])
  added_good = record {
    each = λ k p at. go k p at;
    differ = λ i j x less first second. past i j x less second;
  }
    where
      no_terminal : (j : ℕ) (t : TerminalString) → slice_get (Nonterminal start ∷ []) j ≡ Some (Terminal t) → ⊥
      no_terminal zero t e = not_both (same_some e)
      no_terminal (suc j) t e = some≢none (sym e)

      good : IsWellFormedProduction h.terminals (vec_len h.action_fn_defns) f added
      good = record {
        named = refl;
        known = λ j t s. absurd (no_terminal j t s);
        numbered = omega (arith, actions);
      }

      go : (k : ℕ) (p : Production) → slice_get (added ∷ []) k ≡ Some p → IsWellFormedProduction h.terminals (vec_len h.action_fn_defns) f p
      go zero p e = subst (λ q. IsWellFormedProduction h.terminals (vec_len h.action_fn_defns) f q) (same_some e) good
      go (suc k) p e = absurd (some≢none (sym e))

      past : (i j : ℕ) (x : Production) → i < j → slice_get (added ∷ []) j ≡ Some x → ⊥
      past i zero x less e = absurd (omega (arith, less))
      past i (suc j) x less e = some≢none (sym e)

  -- the new grammar is well-formed
  pub well_formed : IsWellFormed h
  well_formed k a entry at = go (inserted_cases name_cmp f new.entry old absent (a, entry) (subst (λ es. Contains es (a, entry)) new.entries (place_contains h.nonterminals.entries k (a, entry) at)))
    where
      go : IsOfOne name_cmp f new.entry old (a, entry) → IsGood a entry.productions.items
      go (inl e) = subst (λ (x : Entry). IsGood x.0 x.1.productions.items) (sym e) (subst (IsGood f) (sym new.added.productions) added_good)
      go (inr c) = let place = contains_place old (a, entry) c in kept_good a entry.productions.items (well place.0 a entry place.1)

-- ---- names that are longer than all others are unused
abbrev symbol_size : Symbol → ℕ
symbol_size (Nonterminal a) = length a.text
symbol_size (Terminal t) = 0

abbrev symbols_size : List Symbol → ℕ
symbols_size [] = 0
symbols_size (x ∷ l) = symbol_size x + symbols_size l

abbrev productions_size : List Production → ℕ
productions_size [] = 0
productions_size (p ∷ ps) = symbols_size p.symbols + productions_size ps

abbrev keys_size : List Entry → ℕ
keys_size [] = 0
keys_size (e ∷ es) = length e.0.text + keys_size es

-- the sum of the lengths of all names, on left and on right sides
abbrev pub names_size : Grammar → ℕ
names_size g = keys_size g.nonterminals.entries + productions_size (productions g)

symbol_within : (l : List Symbol) (a : NonterminalString) → Contains l (Nonterminal a) → length a.text ≤ symbols_size l
symbol_within [] a c = absurd (contains-nil c)
symbol_within (x ∷ l) a c = elim (contains-cons x l (Nonterminal a) c) [
  | inl e ↦ let same : symbol_size x ≡ length a.text = ap symbol_size e in omega (arith, same)
  | inr d ↦ let rest = symbol_within l a d in omega (arith, rest)
]

production_within : (ps : List Production) (p : Production) → Contains ps p → symbols_size p.symbols ≤ productions_size ps
production_within [] p c = absurd (contains-nil c)
production_within (q ∷ ps) p c = elim (contains-cons q ps p c) [
  | inl e ↦ let same : symbols_size q.symbols ≡ symbols_size p.symbols = ap (λ (r : Production). symbols_size r.symbols) e in omega (arith, same)
  | inr d ↦ let rest = production_within ps p d in omega (arith, rest)
]

none_as_long : (es : List Entry) (a : NonterminalString) → keys_size es < length a.text → lookup (is_at (name_cmp a)) es ≡ None
none_as_long [] a less = refl
none_as_long (e ∷ es) a less = go (is_at (name_cmp a) e.0) (λ h. name_same a e.0 h) (none_as_long es a (omega (arith, less)))
  where
    go : (b : Bool) → (b ≡ true → a ≡ e.0) → lookup (is_at (name_cmp a)) es ≡ None → cond b (Some e.1) (lookup (is_at (name_cmp a)) es) ≡ None
    go true same rest = let long : length a.text ≡ length e.0.text = ap (λ (x : NonterminalString). length x.text) (same refl) in absurd (omega (arith, less, long))
    go false same rest = rest

pub long_unused : (g : Grammar) (a : NonterminalString) → names_size g < length a.text → IsUnused g a
long_unused g a less = (
  none_as_long g.nonterminals.entries a (omega (arith, less)),
  λ p c d.
      let symbols = symbol_within p.symbols a d in
      let within = production_within (productions g) p c in
      absurd (omega (arith, less, symbols, within)),
)

-- the names that were tried before this one are in use
pub record IsTried (g : Grammar) (start f : NonterminalString) : Type 0 where
  pub more : ℕ
  pub name : f ≡ underscored (suc (suc more)) start
  pub first : (fewer : ℕ) → fewer < more → IsUnused g (underscored (suc (suc fewer)) start) → ⊥

pub Tried-more : (g : Grammar) (start f next : NonterminalString) → IsTried g start f → (IsUnused g f → ⊥) → next ≡ underscored 1 f → IsTried g start next
Tried-more g start f next so_far used is = record {
  more = suc so_far.more;
  name = is ∙ ap (underscored 1) so_far.name;
  first = λ fewer less free. elim (below fewer so_far.more less) [
    | inl earlier ↦ so_far.first fewer earlier free
    | inr same ↦ used (subst (IsUnused g) (ap (λ n. underscored (suc (suc n)) start) same ∙ sym so_far.name) free)
  ];
}

-- each name that is tried is longer than the one before it, so that a measure falls
pub Tried-falls : (g : Grammar) (f next : NonterminalString) → (IsUnused g f → ⊥) → next ≡ underscored 1 f → suc (names_size g) - length next.text < suc (names_size g) - length f.text
Tried-falls g f next used is =
    let long : length next.text ≡ suc (length f.text) = ap (λ (a : NonterminalString). length a.text) is in
    go (compared (names_size g) (length f.text)) long
  where
    compared : (a b : ℕ) → (a < b) ⊎ (b ≤ a)
    compared zero zero = inr (omega arith)
    compared zero (suc b) = inl (omega arith)
    compared (suc a) zero = inr (omega arith)
    compared (suc a) (suc b) = elim (compared a b) [ inl l ↦ inl (omega (arith, l)) | inr l ↦ inr (omega (arith, l)) ]

    go : (names_size g < length f.text) ⊎ (length f.text ≤ names_size g) → length next.text ≡ suc (length f.text) → suc (names_size g) - length next.text < suc (names_size g) - length f.text
    go (inl less) long = absurd (used (long_unused g f less))
    go (inr within) long = omega (arith, within, long)
