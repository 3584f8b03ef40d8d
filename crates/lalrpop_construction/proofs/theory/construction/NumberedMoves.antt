-- The items to which symbols lead, by the numbers of both.
use Rattle.std.proofs.Common.{◌≡◌, ℕ, zero, suc, ◌+◌, ◌<◌, inl, inr, List, [], ◌∷◌, ◌++◌, length, map, refl, sym, ◌∙◌, ap, subst, arith, Some, None}
use Rattle.std.specs.Prelude.{Contains, slice_get}
use Rattle.std.specs.Map.{keys_of}
use Rattle.std.proofs.lemmas.List.{map-append}
use Rattle.std.proofs.lemmas.Option.{slice_get-map, slice_get_within}
use Rattle.lalrpop_base.specs.Words.{AllDiffer, Dotted, Rules, IsPushedAt, IsMoveAdded, AreGroupsOf, AreNumbered, AreNumbers, NumberedGroups, dotted_at, groups_by}
use Rattle.lalrpop_base.specs.Words.{item_by, items_by, symbol_at}
use Rattle.lalrpop_construction.proofs.Types.{Nil, Symbol}
use Rattle.lalrpop_collections.proofs.theory.lists.Lists.{contains_of_map, some_of_map}
use Rattle.lalrpop_collections.specs.lists.Entries.IsPushedAt.{fresh, known}
use Rattle.lalrpop_states.specs.construction.Transitions.IsMoveAdded.{over, at_end}
use Rattle.lalrpop_numbers.specs.declared.numbers.numbered.Numbered.{Numbered}
use Rattle.lalrpop_numbers.specs.declared.numbers.Numbers.{Numbers}
use Rattle.lalrpop_collections.proofs.theory.lists.Members.{contains-cons, Contains-none}
use Rattle.lalrpop_construction.proofs.theory.numbers.Numbers.{behind_is, finished, moved_next, next_within, stands_at}
use Rattle.lalrpop_collections.proofs.theory.lists.Places.{around, at_midst, contains_at, midst, one_place}
use Rattle.std.proofs.lemmas.List.Elements.{Contains-append_cases}

-- ---- the symbol with a number
pub symbol_stands : (symbols : List Symbol) (k : ℕ) → k < length symbols → slice_get symbols k ≡ Some (symbol_at symbols k)
symbol_stands [] k l = absurd (omega arith)
symbol_stands (x ∷ xs) zero l = refl
symbol_stands (x ∷ xs) (suc k) l = symbol_stands xs k (omega arith)

pub symbol_is : (symbols : List Symbol) (k : ℕ) (x : Symbol) → slice_get symbols k ≡ Some x → symbol_at symbols k ≡ x
symbol_is [] k x h = cc
symbol_is (y ∷ ys) zero x h = cc
symbol_is (y ∷ ys) (suc k) x h = symbol_is ys k x h

one_symbol : (symbols : List Symbol) → AllDiffer symbols → (a b : ℕ) → a < length symbols → b < length symbols → symbol_at symbols a ≡ symbol_at symbols b → a ≡ b
one_symbol symbols differ a b l m e = one_place symbols differ a b (symbol_at symbols b) (symbol_stands symbols a l ∙ ap Some e) (symbol_stands symbols b m)

-- ---- numbers of items, with one more item
pub one_numbered : {L : Type 0} (items : List (Dotted Nil)) (e : Numbered L) → e.number < length items → AreNumbered items (e ∷ [])
one_numbered {L} items e l d c = elim (contains-cons e [] d c) [ inl same ↦ subst (λ (f : Numbered L). f.number < length items) same l | inr none ↦ absurd (Contains-none d none) ]

pub more_numbered : {L : Type 0} (items : List (Dotted Nil)) (list : List (Numbered L)) (e : Numbered L) → AreNumbered items list → e.number < length items → AreNumbered items (list ++ e ∷ [])
more_numbered items list e a l d c = elim (Contains-append_cases list (e ∷ []) d c) [ inl had ↦ a d had | inr last ↦ one_numbered items e l d last ]

-- the symbol and the items of a group that is given by number
abbrev pub group_by : {L : Type 0} → Numbers → ℕ × List (Numbered L) → Symbol × List (Dotted L)
group_by n h = (symbol_at n.symbols.items h.0, items_by n.items.items h.1)

module _ {L : Type 0} (g : Rules) (n : Numbers) (numbers : AreNumbers g n) where
  -- ---- keys
  keys_by : (groups : NumberedGroups L) → keys_of (groups_by n groups) ≡ map (symbol_at n.symbols.items) (keys_of groups)
  keys_by [] = refl
  keys_by (h ∷ hs) = ap (λ (xs : List Symbol). symbol_at n.symbols.items h.0 ∷ xs) (keys_by hs)

  key_known : (groups : NumberedGroups L) → AreGroupsOf n groups → (k : ℕ) → Contains (keys_of groups) k → k < length n.symbols.items
  key_known groups of k c = let h = contains_of_map (λ (h : ℕ × List (Numbered L)). h.0) groups k c in subst (λ (m : ℕ). m < length n.symbols.items) h.2 (of h.0 h.1).0

  pub keys_differ_by : (groups : NumberedGroups L) → AreGroupsOf n groups → AllDiffer (keys_of groups) → AllDiffer (keys_of (groups_by n groups))
  keys_differ_by groups of differ = subst AllDiffer (sym (keys_by groups)) (λ i j x l at_i at_j.
      let ks = keys_of groups in
      let a = some_of_map (symbol_at n.symbols.items) (slice_get ks i) x (sym (slice_get-map (symbol_at n.symbols.items) ks i) ∙ at_i) in
      let b = some_of_map (symbol_at n.symbols.items) (slice_get ks j) x (sym (slice_get-map (symbol_at n.symbols.items) ks j) ∙ at_j) in
      let same : b.0 ≡ a.0 = one_symbol n.symbols.items numbers.differ b.0 a.0 (key_known groups of b.0 (contains_at ks b.0 j b.1)) (key_known groups of a.0 (contains_at ks a.0 i a.1)) (b.2 ∙ sym a.2) in
      differ i j a.0 l a.1 (b.1 ∙ ap Some same))

  -- ---- an item is added to the group of a symbol
  midst_by : (front back : NumberedGroups L) (h : ℕ × List (Numbered L)) (all : NumberedGroups L) → all ≡ front ++ h ∷ back → groups_by n all ≡ groups_by n front ++ group_by n h ∷ groups_by n back
  midst_by front back h all e = ap (groups_by n) e ∙ map-append (group_by n) front (h ∷ back)

  pushed_by : (x : ℕ) (e : Numbered L) (old new : NumberedGroups L) → IsPushedAt x e old new → IsPushedAt (symbol_at n.symbols.items x) (item_by n.items.items e) (groups_by n old) (groups_by n new)
  pushed_by x e old new (fresh front back before after) = fresh (groups_by n front) (groups_by n back) (ap (groups_by n) before ∙ map-append (group_by n) front back) (midst_by front back (x, e ∷ []) new after)
  pushed_by x e old new (known front back vs before after) = known (groups_by n front) (groups_by n back) (items_by n.items.items vs) (midst_by front back (x, vs) old before)
      (midst_by front back (x, vs ++ e ∷ []) new after ∙ ap (λ (is : List (Dotted L)). groups_by n front ++ (symbol_at n.symbols.items x, is) ∷ groups_by n back) (map-append (item_by n.items.items) vs (e ∷ [])))

  module _ (x : ℕ) (e : Numbered L) (x_known : x < length n.symbols.items) (e_known : e.number < length n.items.items) where
    pub groups_pushed : (old new : NumberedGroups L) → AreGroupsOf n old → IsPushedAt x e old new → AreGroupsOf n new
    groups_pushed old new of (fresh front back before after) h c = elim (midst front back (x, e ∷ []) h (subst (λ (gs : NumberedGroups L). Contains gs h) after c)) [
      | inl same ↦ subst (λ (h : ℕ × List (Numbered L)). (h.0 < length n.symbols.items) × AreNumbered n.items.items h.1) same (x_known, one_numbered n.items.items e e_known)
      | inr out ↦ of h (subst (λ (gs : NumberedGroups L). Contains gs h) (sym before) out)
    ]
    groups_pushed old new of (known front back vs before after) h c = elim (midst front back (x, vs ++ e ∷ []) h (subst (λ (gs : NumberedGroups L). Contains gs h) after c)) [
      | inl same ↦ subst (λ (h : ℕ × List (Numbered L)). (h.0 < length n.symbols.items) × AreNumbered n.items.items h.1) same (x_known, more_numbered n.items.items vs e (of (x, vs) (subst (λ (gs : NumberedGroups L). Contains gs (x, vs)) (sym before) (at_midst front back (x, vs)))).1 e_known)
      | inr out ↦ of h (subst (λ (gs : NumberedGroups L). Contains gs h) (sym before) (around front back (x, vs) h out))
    ]

  -- ---- an item moves over the symbol after its dot
  module _ (e : Numbered L) (e_known : e.number < length n.items.items) where
    abbrev pub next : Numbered L
    next = record { number = e.number + 1; lookahead = e.lookahead }

    number_known : (x : ℕ) → slice_get n.behind.items e.number ≡ Some (Some x) → x < length n.symbols.items
    number_known x at = let b = numbers.behind e.number (dotted_at n.items.items e.number) (Some x) (stands_at n.items.items e.number e_known) at in slice_get_within n.symbols.items x b.0 b.1

    pub Added-over : (x : ℕ) (old new : NumberedGroups L) → slice_get n.behind.items e.number ≡ Some (Some x) → IsPushedAt x next old new → AllDiffer (keys_of new) → AreGroupsOf n old → AreGroupsOf n new × IsMoveAdded (item_by n.items.items e) (groups_by n old) (groups_by n new)
    Added-over x old new at pushed differ of =
        let l = number_known x at in
        let groups = groups_pushed x next l (next_within g n numbers e.number x at) old new of pushed in
        let behind = (behind_is g n numbers e x (symbol_at n.symbols.items x) at).1 (symbol_stands n.symbols.items x l) in
        (groups, over (symbol_at n.symbols.items x) behind (subst (λ (i : Dotted L). IsPushedAt (symbol_at n.symbols.items x) i (groups_by n old) (groups_by n new)) (moved_next g n numbers e x at) (pushed_by x next old new pushed)) (keys_differ_by new groups differ))

    pub Added-none : (groups : NumberedGroups L) → slice_get n.behind.items e.number ≡ Some None → IsMoveAdded (item_by n.items.items e) (groups_by n groups) (groups_by n groups)
    Added-none groups at = at_end (finished g n numbers e at) refl
