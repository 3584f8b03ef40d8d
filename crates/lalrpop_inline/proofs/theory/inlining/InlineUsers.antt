-- The users of marked nonterminals: how they are collected, and why those of the given grammar are
-- enough at each stage.
use Rattle.std.proofs.Common.{◌≡◌, inl, inr, ℕ, ◌+◌, ◌<◌, false, take, drop, length, get_or, List, [], ◌∷◌, ◌++◌, Option, None, Some, refl, sym, ◌∙◌, ap, subst}
use Rattle.std.specs.Prelude.{Contains}
use Rattle.std.specs.declared.cmp.Ordering.{Ordering}
use Rattle.std.specs.declared.cmp.Ordering.TheVariants.{Less, Equal, Greater}
use Rattle.std.specs.Ordering.{is_eq, match_ordering}
use Rattle.std.specs.List.Sorted.{IsStrictlySortedBy}
use Rattle.std.specs.BTreeMap.{get, is_at, IsOrdered}
use Rattle.std.specs.BTreeSet.{BTreeSet, insert_key}
use Rattle.std.proofs.lemmas.Bool.{cases_Bool}
use Rattle.std.proofs.lemmas.List.{take_more}
use Rattle.std.proofs.lemmas.List.Elements.{Contains-push_cases}
use Rattle.std.proofs.lemmas.Map.Entries.{place_from_lookup, btree_map_get_place}
use Rattle.lalrpop_base.specs.Words.{collection_at, PushesAt, name_cmp, listed_productions, productions_of, IsWellFormed}
use Rattle.lalrpop_grammar.specs.contracts.repr.NonterminalStringOrd.TheImpl.Laws as name_order
use Rattle.lalrpop_inline.proofs.Types.{Grammar, NonterminalData, NonterminalString, Production, Symbol, TerminalString}
use Rattle.lalrpop_grammar.specs.declared.repr.Symbol.TheVariants.{Nonterminal}
use Rattle.lalrpop_collections.proofs.theory.lists.Lists.{contains-cons, contains-nil, contains_head, contains_tail, contains_place, place_contains, contains_of_map}
use Rattle.lalrpop_grammar.proofs.theory.grammars.SymbolLists.{same_nonterminal}
use Rattle.lalrpop_inline.specs.Words.{Entry, View, named_entry, view_of, productions_of_view, inlined_of, IsMarked, Mentions, IsInlineOrder}
use Rattle.lalrpop_inline.specs.Words.{listed_names, users_at, KeepsUsers, HasUsersOfMarked, replaced_places, replaced_entries}
use Rattle.lalrpop_inline.proofs.theory.inlining.InlineMembers.{mentioned_stands}
use Rattle.lalrpop_inline.proofs.theory.inlining.InlineEntries.{alternatives_view}
use Rattle.lalrpop_inline.proofs.theory.inlining.InlinePlaces.{AreCovered, all_places}
use Rattle.lalrpop_inline.proofs.theory.inlining.InlineViews.{alternatives_own, alternatives_all, step_mentions}
use Rattle.lalrpop_inline.proofs.theory.inlining.InlineStages.{Stage, keys_view, first_stage, stage_alone, stage_step, next_one}
use Rattle.lalrpop_grammar.proofs.theory.first.FirstNames.{name_same}
use Rattle.lalrpop_grammar.specs.grammars.Entries.{UserMap}

-- a set that takes a name has it
inserted_there : (ks : List NonterminalString) (k : NonterminalString) → Contains (insert_key name_cmp ks k) k
inserted_there [] k = contains_head k []
inserted_there (x ∷ ks) k = by (name_cmp k x) refl (inserted_there ks k)
  where
    by : (o : Ordering) → name_cmp k x ≡ o → Contains (insert_key name_cmp ks k) k → Contains (match_ordering o (k ∷ x ∷ ks) (x ∷ ks) (x ∷ insert_key name_cmp ks k)) k
    by Less e later = contains_head k (x ∷ ks)
    by Equal e later = subst (Contains (x ∷ ks)) (sym (name_same k x (ap is_eq e))) (contains_head x ks)
    by Greater e later = contains_tail x (insert_key name_cmp ks k) k later

-- a set that takes a name keeps the others
inserted_kept : (ks : List NonterminalString) (k a : NonterminalString) → Contains ks a → Contains (insert_key name_cmp ks k) a
inserted_kept [] k a c = absurd (contains-nil c)
inserted_kept (x ∷ ks) k a c = by (name_cmp k x) (inserted_kept ks k a)
  where
    by : (o : Ordering) → (Contains ks a → Contains (insert_key name_cmp ks k) a) → Contains (match_ordering o (k ∷ x ∷ ks) (x ∷ ks) (x ∷ insert_key name_cmp ks k)) a
    by Less later = contains_tail k (x ∷ ks) a c
    by Equal later = c
    by Greater later = elim (contains-cons x ks a c) [
      | inl e ↦ subst (Contains (x ∷ insert_key name_cmp ks k)) e (contains_head x (insert_key name_cmp ks k))
      | inr d ↦ contains_tail x (insert_key name_cmp ks k) a (later d)
    ]

-- a push puts a name into the set of another one
abbrev Pushed : Option (BTreeSet NonterminalString) → NonterminalString → Option (BTreeSet NonterminalString) → Type 0
Pushed = PushesAt (λ (s : BTreeSet NonterminalString). s.keys ≡ []) (λ (s : BTreeSet NonterminalString) (k : NonterminalString) (t : BTreeSet NonterminalString). t.keys ≡ insert_key name_cmp s.keys k)

pushed_there : (old new : Option (BTreeSet NonterminalString)) (k : NonterminalString) → Pushed old k new → Contains (listed_names new) k
pushed_there None None k p = absurd p
pushed_there (Some s) None k p = absurd p
pushed_there None (Some t) k p = subst (λ (ks : List NonterminalString). Contains ks k) (sym p.2) (inserted_there (p.0).keys k)
pushed_there (Some s) (Some t) k p = subst (λ (ks : List NonterminalString). Contains ks k) (sym p) (inserted_there s.keys k)

pushed_kept : (old new : Option (BTreeSet NonterminalString)) (k a : NonterminalString) → Pushed old k new → Contains (listed_names old) a → Contains (listed_names new) a
pushed_kept None new k a p c = absurd (contains-nil c)
pushed_kept (Some s) None k a p c = absurd p
pushed_kept (Some s) (Some t) k a p c = subst (λ (ks : List NonterminalString). Contains ks a) (sym p) (inserted_kept s.keys k a c)

-- a user more
pub user_there : (old new : UserMap) (name user key value : NonterminalString) → key ≡ name → value ≡ user → Pushed (collection_at name_cmp old key) value (collection_at name_cmp new key) → Contains (users_at new name) user
user_there old new name user key value same is pushed =
    subst (λ (c : NonterminalString). Contains (users_at new c) user) same (subst (Contains (users_at new key)) is (pushed_there (collection_at name_cmp old key) (collection_at name_cmp new key) value pushed))

pub users_kept : (old new : UserMap) (key value : NonterminalString) → Pushed (collection_at name_cmp old key) value (collection_at name_cmp new key) →
    ((q : NonterminalString) → is_eq (name_cmp key q) ≡ false → collection_at name_cmp new q ≡ collection_at name_cmp old q) → KeepsUsers old new
users_kept old new key value pushed others c a there = elim (cases_Bool (is_at (name_cmp key) c)) [
  | inl t ↦
      let same : key ≡ c = name_same key c t in
      subst (λ (q : NonterminalString). Contains (users_at new q) a) same (pushed_kept (collection_at name_cmp old key) (collection_at name_cmp new key) value a pushed (subst (λ (q : NonterminalString). Contains (users_at old q) a) (sym same) there))
  | inr t ↦ subst (λ (o : Option (BTreeSet NonterminalString)). Contains (listed_names o) a) (sym (others c t)) there
]

pub keeps_twice : (old mid new : UserMap) → KeepsUsers old mid → KeepsUsers mid new → KeepsUsers old new
keeps_twice old mid new first second c a there = second c a (first c a there)

-- the element is an earlier one, or the one at the place
pub earlier_or_here : {A : Type 0} (xs : List A) (i : ℕ) (x y : A) → i < length xs → x ≡ get_or xs i x → Contains (take (i + 1) xs) y → (B : Type 0) → (Contains (take i xs) y → B) → (x ≡ y → B) → B
earlier_or_here {A} xs i x y less is c B earlier here = elim (Contains-push_cases (take i xs) (get_or xs i x) y (subst (λ (l : List A). Contains l y) (take_more xs i x less) c)) [
  | inl d ↦ earlier d
  | inr e ↦ here (is ∙ e)
]

-- the user is under the marked nonterminals among the symbols
abbrev pub IsUnderSymbols : Grammar → UserMap → List Symbol → NonterminalString → Type 0
IsUnderSymbols g users symbols user = (c : NonterminalString) → IsMarked g c → Contains symbols (Nonterminal c) → Contains (users_at users c) user

-- a nonterminal more
pub symbol_added : (g : Grammar) (symbols : List Symbol) (i : ℕ) (x : Symbol) (name user : NonterminalString) (old new : UserMap) → i < length symbols → x ≡ get_or symbols i x → x ≡ Nonterminal name → IsUnderSymbols g old (take i symbols) user → KeepsUsers old new →
    (IsMarked g name → Contains (users_at new name) user) → IsUnderSymbols g new (take (i + 1) symbols) user
symbol_added g symbols i x name user old new less is named were kept added c marked there =
    earlier_or_here symbols i x (Nonterminal c) less is there (Contains (users_at new c) user) (λ d. kept c user (were c marked d))
    (λ e.
    let same : name ≡ c = same_nonterminal (sym named ∙ e) in
    subst (λ (a : NonterminalString). Contains (users_at new a) user) same (added (subst (IsMarked g) (sym same) marked)))

-- a symbol more that is no nonterminal
pub symbol_passed : (g : Grammar) (symbols : List Symbol) (i : ℕ) (x : Symbol) (user : NonterminalString) (old new : UserMap) → i < length symbols → x ≡ get_or symbols i x → ((a : NonterminalString) → x ≡ Nonterminal a → ⊥) → IsUnderSymbols g old (take i symbols) user → new ≡ old →
    IsUnderSymbols g new (take (i + 1) symbols) user
symbol_passed g symbols i x user old new less is other were same c marked there =
    earlier_or_here symbols i x (Nonterminal c) less is there (Contains (users_at new c) user) (λ d. subst (λ (m : UserMap). Contains (users_at m c) user) (sym same) (were c marked d)) (λ e. absurd (other c e))

-- the user is under the marked nonterminals that the productions mention
abbrev pub IsUnderMentioned : Grammar → UserMap → List Production → NonterminalString → Type 0
IsUnderMentioned g users ps user = (c : NonterminalString) (p : Production) → IsMarked g c → Contains ps p → Contains p.symbols (Nonterminal c) → Contains (users_at users c) user

-- a production more
pub production_added : (g : Grammar) (ps : List Production) (i : ℕ) (p : Production) (symbols : List Symbol) (user : NonterminalString) (old new : UserMap) → i < length ps → p ≡ get_or ps i p → symbols ≡ p.symbols → IsUnderMentioned g old (take i ps) user → KeepsUsers old new →
    IsUnderSymbols g new symbols user → IsUnderMentioned g new (take (i + 1) ps) user
production_added g ps i p symbols user old new less is own were kept added c q marked there m =
    earlier_or_here ps i p q less is there (Contains (users_at new c) user) (λ d. kept c user (were c q marked d m))
    (λ e. added c marked (subst (λ (l : List Symbol). Contains l (Nonterminal c)) (ap (λ (r : Production). r.symbols) (sym e) ∙ sym own) m))

-- each marked nonterminal has under it the names of the entries that mention it
abbrev pub AreUsersOf : Grammar → List (NonterminalString × NonterminalData) → UserMap → Type 0
AreUsersOf g es users = (a c : NonterminalString) (d : NonterminalData) (p : Production) → Contains es (a, d) → IsMarked g c → Contains d.productions.items p → Contains p.symbols (Nonterminal c) → Contains (users_at users c) a

-- an entry more
pub entry_added : (g : Grammar) (es : List (NonterminalString × NonterminalData)) (name : NonterminalString) (entry : NonterminalData) (old new : UserMap) → AreUsersOf g es old → KeepsUsers old new →
    ((c : NonterminalString) (p : Production) → IsMarked g c → Contains entry.productions.items p → Contains p.symbols (Nonterminal c) → Contains (users_at new c) name) → AreUsersOf g (es ++ (name, entry) ∷ []) new
entry_added g es name entry old new were kept added a c d p there marked stands m = elim (Contains-push_cases es (name, entry) (a, d) there) [
  | inl k ↦ kept c a (were a c d p k marked stands m)
  | inr e ↦
      let same : name ≡ a = ap (λ (x : NonterminalString × NonterminalData). x.0) e in
      let own : Contains entry.productions.items p = subst (λ (x : NonterminalString × NonterminalData). Contains x.1.productions.items p) (sym e) stands in
      subst (Contains (users_at new c)) same (added c p marked own m)
]

entry_of_mention : (g : Grammar) (a : NonterminalString) (o : Option NonterminalData) (p : Production) → get name_cmp g.nonterminals a ≡ o → Contains (listed_productions o) p → (d : NonterminalData) × Contains g.nonterminals.entries (a, d) × Contains d.productions.items p
entry_of_mention g a None p e c = absurd (contains-nil c)
entry_of_mention g a (Some d) p e c =
    let (i, k, at, tied) = place_from_lookup (is_at (name_cmp a)) g.nonterminals.entries d e in
    (d, subst (λ (x : NonterminalString). Contains g.nonterminals.entries (x, d)) (sym (name_same a k tied)) (place_contains g.nonterminals.entries i (k, d) at), c)

-- all users of a grammar
pub all_users : (g : Grammar) (users : UserMap) → AreUsersOf g g.nonterminals.entries users → HasUsersOfMarked g users
all_users g users are a c marked m =
    let (d, there, stands) = entry_of_mention g a (get name_cmp g.nonterminals a) m.0 refl m.1 in
    are a c d m.0 there marked stands m.2

-- the entries that mention a name are covered by its users
pub covered_entries : (h : Grammar) (name : NonterminalString) (places : List NonterminalString) → IsOrdered name_cmp h.nonterminals → ((a : NonterminalString) → Mentions h a name → Contains places a) → AreCovered name (view_of h).entries places
covered_entries h name places ordered covered e p there stands m =
    let r = contains_of_map named_entry h.nonterminals.entries e there in
    let at = contains_place h.nonterminals.entries r.0 r.1 in
    let found : get name_cmp h.nonterminals (r.0).0 ≡ Some (r.0).1 = btree_map_get_place name_order.total-law h.nonterminals at.0 (r.0).0 (r.0).1 ordered at.1 in
    let own : Contains (r.0).1.productions.items p = subst (λ (x : NonterminalString × Entry). Contains x.1.productions p) (sym r.2) stands in
    let listed : Contains (productions_of h (r.0).0) p = subst (λ (o : Option NonterminalData). Contains (listed_productions o) p) (sym found) own in
    subst (λ (x : NonterminalString × Entry). Contains places x.0) r.2 (covered (r.0).0 (p, listed, mentioned_stands name p.symbols m))

-- if the places cover what mentions the nonterminal, replacing at them inlines it
pub inlined_at : (h : Grammar) (name : NonterminalString) (alternatives : List Production) (places : List NonterminalString) → IsOrdered name_cmp h.nonterminals → IsStrictlySortedBy name_cmp places → ((a : NonterminalString) → Mentions h a name → Contains places a) → alternatives ≡ productions_of h name →
    replaced_places name alternatives places (view_of h) ≡ inlined_of name (view_of h)
inlined_at h name alternatives places ordered sorted covered given =
    all_places name alternatives (view_of h).entries (subst (IsStrictlySortedBy name_cmp) (sym (keys_view h.nonterminals.entries)) ordered) (view_of h).defns places sorted (covered_entries h name places ordered covered)
    ∙ ap (λ (ps : List Production). replaced_entries name ps (view_of h).entries (view_of h).defns) (given ∙ sym (alternatives_view h name))

-- the set that is found has the users of the name
pub users_found : (users : UserMap) (name : NonterminalString) (set : BTreeSet NonterminalString) → Some set ≡ collection_at name_cmp users name → users_at users name ≡ set.keys
users_found users name set found = ap listed_names (sym found)

-- what mentions one of the nonterminals that are left mentioned it in the given grammar
abbrev pub MentionedBefore : Grammar → List NonterminalString → View → Type 0
MentionedBefore g rest v = (c : NonterminalString) (p : Production) → Contains rest c → Contains (productions_of_view v) p → Contains p.symbols (Nonterminal c) → Mentions g p.nonterminal c

-- this holds at first
pub first_mentioned : (g : Grammar) (order : List NonterminalString) → IsOrdered name_cmp g.nonterminals → IsWellFormed g → IsInlineOrder g order → MentionedBefore g order (view_of g)
first_mentioned g order ordered well is c p there k m =
    let stage : Stage (IsMarked g) g.terminals order (view_of g) = first_stage g order ordered well is in
    (p, subst (λ (ps : List Production). Contains ps p) (alternatives_view g p.nonterminal) (alternatives_all g.terminals (view_of g) stage.proper p.nonterminal p k refl), m)

-- it still holds after one is inlined
step_mentioned : (Marked : NonterminalString → Type 0) (terminals : List TerminalString) (g : Grammar) (b : NonterminalString) (rest : List NonterminalString) (v : View) → Stage Marked terminals (b ∷ rest) v → MentionedBefore g (b ∷ rest) v → MentionedBefore g rest (inlined_of b v)
step_mentioned Marked terminals g b rest v s before c p there k m =
    let later : Contains (b ∷ rest) c = contains_tail b rest c there in
    let (q, stands, whose, has, other) = step_mentions terminals v s.proper b (stage_alone Marked terminals b rest v s) p c k m in
    elim whose [
      | inl n ↦ subst (λ (a : NonterminalString). Mentions g a c) n (before c q later stands has)
      | inr n ↦ absurd (contains-nil (s.behind [] rest b c q refl stands n has (s.marked c later)))
    ]

-- one stage further
module _ (Marked : NonterminalString → Type 0) (terminals : List TerminalString) (order : List NonterminalString) (i : ℕ) (name : NonterminalString) (less : i < length order) (is : name ≡ get_or order i name) where
  here : (v : View) → Stage Marked terminals (drop i order) v → Stage Marked terminals (name ∷ drop (i + 1) order) v
  here v s = subst (λ (l : List NonterminalString). Stage Marked terminals l v) (next_one order i name less is) s

  pub stage_on : (v w : View) → w ≡ inlined_of name v → Stage Marked terminals (drop i order) v → Stage Marked terminals (drop (i + 1) order) w
  stage_on v w step s = subst (Stage Marked terminals (drop (i + 1) order)) (sym step) (stage_step Marked terminals name (drop (i + 1) order) v (here v s))

  pub mentioned_on : (g : Grammar) (v w : View) → w ≡ inlined_of name v → Stage Marked terminals (drop i order) v → MentionedBefore g (drop i order) v → MentionedBefore g (drop (i + 1) order) w
  mentioned_on g v w step s before =
      subst (MentionedBefore g (drop (i + 1) order)) (sym step) (step_mentioned Marked terminals g name (drop (i + 1) order) v (here v s) (subst (λ (l : List NonterminalString). MentionedBefore g l v) (next_one order i name less is) before))

  -- what mentions the next one is among its users
  pub next_covered : (g : Grammar) (users : UserMap) → ((a c : NonterminalString) → Marked c → Mentions g a c → Contains (users_at users c) a) → (h : Grammar) → Stage Marked terminals (drop i order) (view_of h) → MentionedBefore g (drop i order) (view_of h) →
      (a : NonterminalString) → Mentions h a name → Contains (users_at users name) a
  next_covered g users has h s before a m =
      let listed = subst (λ (ps : List Production). Contains ps m.0) (sym (alternatives_view h a)) m.1 in
      let (own, named) = alternatives_own terminals (view_of h) s.proper a m.0 listed in
      let first : Contains (drop i order) name = subst (λ (l : List NonterminalString). Contains l name) (sym (next_one order i name less is)) (contains_head name (drop (i + 1) order)) in
      has a name (s.marked name first) (subst (λ (x : NonterminalString). Mentions g x name) named (before name m.0 first own m.2))

-- the entries of a stage are in the order of their names
pub stage_ordered : (Marked : NonterminalString → Type 0) (terminals : List TerminalString) (rest : List NonterminalString) (h : Grammar) → Stage Marked terminals rest (view_of h) → IsOrdered name_cmp h.nonterminals
stage_ordered Marked terminals rest h s = subst (IsStrictlySortedBy name_cmp) (keys_view h.nonterminals.entries) s.proper.ordered
