-- The marked nonterminals of a grammar, one entry at a time.
use Rattle.std.proofs.Common.{◌≡◌, ◌↔◌, inl, inr, ℕ, ◌+◌, ◌<◌, true, take, length, get_or, List, [], ◌∷◌, ◌++◌, Option, None, Some, refl, sym, ◌∙◌, ap, subst}
use Rattle.std.specs.Prelude.{Contains}
use Rattle.std.specs.BTreeMap.{get, is_at, IsOrdered}
use Rattle.std.proofs.lemmas.List.Elements.{Contains-append_left, Contains-push, Contains-push_cases}
use Rattle.std.proofs.lemmas.Map.Entries.{place_from_lookup, btree_map_get_place}
use Rattle.lalrpop_base.specs.Words.{name_cmp, inline_mark}
use Rattle.lalrpop_grammar.specs.contracts.repr.NonterminalStringOrd.TheImpl.Laws as name_order
use Rattle.lalrpop_inline.proofs.Types.{Grammar, NonterminalData, NonterminalString}
use Rattle.lalrpop_collections.proofs.theory.lists.Lists.{contains_place, place_contains}
use Rattle.lalrpop_inline.specs.Words.{IsMarkedEntry, IsMarked}
use Rattle.std.specs.BTreeSet.{BTreeSet, contains}
use Rattle.std.proofs.lemmas.Bool.{cases_Bool}
use Rattle.std.proofs.lemmas.List.{take_more}
use mathlib.Core.Bool.{true≢false}
use Rattle.lalrpop_inline.proofs.theory.inlining.InlineWalks.{Sets, set_at, set_off}
use Rattle.lalrpop_grammar.proofs.theory.first.FirstNames.{name_same, name_self}

-- the names are those of the marked entries
abbrev pub AreMarkedOf : List (NonterminalString × NonterminalData) → List NonterminalString → Type 0
AreMarkedOf es names = (a : NonterminalString) → Contains names a ↔ ((d : NonterminalData) × Contains es (a, d) × Contains d.attributes.items inline_mark)

-- a marked entry more
pub marked_more : (es : List (NonterminalString × NonterminalData)) (names grown : List NonterminalString) (a copy : NonterminalString) (d : NonterminalData) → AreMarkedOf es names → Contains d.attributes.items inline_mark → copy ≡ a → grown ≡ names ++ copy ∷ [] → AreMarkedOf (es ++ (a, d) ∷ []) grown
marked_more es names grown a copy d were marked same g b = (
  λ c. elim (Contains-push_cases names copy b (subst (λ (l : List NonterminalString). Contains l b) g c)) [
    | inl k ↦ let r = (were b).0 k in (r.0, Contains-append_left es ((a, d) ∷ []) (b, r.0) r.1, r.2)
    | inr e ↦ (d, subst (λ (x : NonterminalString). Contains (es ++ (a, d) ∷ []) (x, d)) (sym same ∙ e) (Contains-push es (a, d)), marked)
  ],
  λ r. subst (λ (l : List NonterminalString). Contains l b) (sym g) (elim (Contains-push_cases es (a, d) (b, r.0) r.1) [
    | inl k ↦ Contains-append_left names (copy ∷ []) b ((were b).1 (r.0, k, r.2))
    | inr e ↦ subst (Contains (names ++ copy ∷ [])) (same ∙ ap (λ (x : NonterminalString × NonterminalData). x.0) e) (Contains-push names copy)
  ]),
)

-- an entry more that is not marked
pub marked_same : (es : List (NonterminalString × NonterminalData)) (names : List NonterminalString) (a : NonterminalString) (d : NonterminalData) → AreMarkedOf es names → (Contains d.attributes.items inline_mark → ⊥) → AreMarkedOf (es ++ (a, d) ∷ []) names
marked_same es names a d were unmarked b = (
  λ c. let r = (were b).0 c in (r.0, Contains-append_left es ((a, d) ∷ []) (b, r.0) r.1, r.2),
  λ r. elim (Contains-push_cases es (a, d) (b, r.0) r.1) [
    | inl k ↦ (were b).1 (r.0, k, r.2)
    | inr e ↦ absurd (unmarked (subst (λ (x : NonterminalString × NonterminalData). Contains x.1.attributes.items inline_mark) (sym e) r.2))
  ],
)

entry_of_mark : (g : Grammar) (a : NonterminalString) (o : Option NonterminalData) → get name_cmp g.nonterminals a ≡ o → IsMarkedEntry o → (d : NonterminalData) × Contains g.nonterminals.entries (a, d) × Contains d.attributes.items inline_mark
entry_of_mark g a None e h = absurd h
entry_of_mark g a (Some d) e h =
    let (i, k, at, tied) = place_from_lookup (is_at (name_cmp a)) g.nonterminals.entries d e in
    (d, subst (λ (x : NonterminalString). Contains g.nonterminals.entries (x, d)) (sym (name_same a k tied)) (place_contains g.nonterminals.entries i (k, d) at), h)

-- the names of all marked entries are the marked nonterminals
pub all_marked : (g : Grammar) (names : List NonterminalString) → IsOrdered name_cmp g.nonterminals → AreMarkedOf g.nonterminals.entries names → (a : NonterminalString) → Contains names a ↔ IsMarked g a
all_marked g names ordered are a = (
  λ c.
      let r = (are a).0 c in
      let at = contains_place g.nonterminals.entries (a, r.0) r.1 in
      subst IsMarkedEntry (sym (btree_map_get_place name_order.total-law g.nonterminals at.0 a r.0 ordered at.1)) r.2,
  λ h. (are a).1 (entry_of_mark g a (get name_cmp g.nonterminals a) refl h),
)

-- a name more in a set
pub set_more : (names : List NonterminalString) (i : ℕ) (name key : NonterminalString) (old new : BTreeSet NonterminalString) → i < length names → name ≡ get_or names i name → key ≡ name → Sets key true old new
    → ((a : NonterminalString) → (contains name_cmp old a ≡ true) ↔ Contains (take i names) a) → (a : NonterminalString) → (contains name_cmp new a ≡ true) ↔ Contains (take (i + 1) names) a
set_more names i name key old new less is same into were a =
    let grown : take (i + 1) names ≡ take i names ++ name ∷ [] = take_more names i name less ∙ ap (λ (x : NonterminalString). take i names ++ x ∷ []) (sym is) in (
      λ h. subst (λ (l : List NonterminalString). Contains l a) (sym grown) (elim (cases_Bool (is_at (name_cmp key) a)) [
        | inl t ↦ subst (Contains (take i names ++ name ∷ [])) (sym same ∙ name_same key a t) (Contains-push (take i names) name)
        | inr t ↦ Contains-append_left (take i names) (name ∷ []) a ((were a).0 (sym (set_off true key a old new into t) ∙ h))
      ]),
      λ c. elim (cases_Bool (is_at (name_cmp key) a)) [
        | inl t ↦ set_at true key a old new into t
        | inr t ↦ set_off true key a old new into t ∙ (were a).1 (elim (Contains-push_cases (take i names) name a (subst (λ (l : List NonterminalString). Contains l a) grown c)) [
          | inl d ↦ d
          | inr e ↦ absurd (true≢false (sym (name_self key) ∙ ap (is_at (name_cmp key)) (same ∙ e) ∙ t))
        ])
      ],
    )
