-- First uses of nonterminals, and the entries of a grammar.
use Rattle.std.proofs.Common.{◌≡◌, ℕ, Bool, true, false, not, ◌||◌, List, [], ◌∷◌, Option, None, Some, cond, inl, inr, refl, sym, ap, subst, ◌∙◌}
use Rattle.std.specs.Prelude.{Contains, find, codes}
use Rattle.std.specs.List.{flat_map, list_any}
use Rattle.std.specs.BTreeMap.{IsOrdered, get}
use Rattle.std.proofs.lemmas.Slice.Eq.{bytes_eq-Decides}
use Rattle.std.specs.Option.{option_or}
use Rattle.std.proofs.lemmas.List.Folds.{find-append}
use Rattle.std.proofs.lemmas.Map.Entries.{btree_map_get_place}
use Rattle.lalrpop_collections.proofs.theory.lists.Members.{Contains-none, contains_head, contains_tail, contains-cons, of_flat}
use Rattle.lalrpop_collections.proofs.theory.lists.Lists.{contains_place}
use Rattle.lalrpop_collections.proofs.theory.lists.Bounded.{in_flat_map}
use Rattle.lalrpop_grammar.specs.declared.repr.NonterminalString.{NonterminalString}
use Rattle.lalrpop_grammar.specs.declared.repr.Symbol.{Symbol}
use Rattle.lalrpop_grammar.specs.declared.repr.Symbol.TheVariants.{Nonterminal, Terminal}
use Rattle.lalrpop_grammar.specs.declared.repr.Production.{Production}
use Rattle.lalrpop_grammar.specs.declared.repr.grammar.Attribute.{Attribute}
use Rattle.lalrpop_grammar.specs.declared.repr.grammar.NonterminalData.{NonterminalData}
use Rattle.lalrpop_grammar.specs.declared.repr.grammar.Grammar.{Grammar}
use Rattle.lalrpop_grammar.specs.Words.{IsWellFormed, inline_mark, listed_productions, name_cmp, productions}
use Rattle.lalrpop_grammar.proofs.theory.first.FirstNames.{name_total}
use Rattle.lalrpop_grammar.proofs.theory.grammars.Grammars.{productions_own}
use Rattle.lalrpop_useful.specs.Words.{HasProduction, IsFirstUse, IsOnRightSide}
use Rattle.lalrpop_useful.proofs.theory.useful.Undefined.{no_production}
use Rattle.grammar_text.specs.Lines.{is_empty}
use Rattle.grammar_diagnostics.specs.Warnings.{has_use, is_defined, is_inline, is_marked, is_nonterminal}

-- ---- a test that an element of a list passes
any_step : {A : Type 0} (t : Bool) (q : A → Bool) (x : A) (xs : List A) → q x ≡ t → (list_any q xs ≡ true → (y : A) × Contains xs y × (q y ≡ true)) → (t || list_any q xs) ≡ true → (y : A) × Contains (x ∷ xs) y × (q y ≡ true)
any_step true q x xs e rest h = (x, contains_head x xs, e)
any_step false q x xs e rest h = let r = rest h in (r.0, contains_tail x xs r.0 r.1, r.2)

any_found : {A : Type 0} (q : A → Bool) (xs : List A) → list_any q xs ≡ true → (y : A) × Contains xs y × (q y ≡ true)
any_found q [] h = cc
any_found q (x ∷ xs) h = any_step (q x) q x xs refl (any_found q xs) h

or_right : (a b : Bool) → b ≡ true → (a || b) ≡ true
or_right true b h = refl
or_right false b h = h

any_there : {A : Type 0} (q : A → Bool) (xs : List A) (y : A) → Contains xs y → q y ≡ true → list_any q xs ≡ true
any_there q [] y c e = absurd (Contains-none y c)
any_there q (x ∷ xs) y c e = elim (contains-cons x xs y c) [
  | inl same ↦ ap (λ b. b || list_any q xs) (ap q same ∙ e)
  | inr later ↦ or_right (q x) (list_any q xs) (any_there q xs y later e)
]

-- ---- the use of a nonterminal by a production
named_symbol : (a : NonterminalString) (s : Symbol) → is_nonterminal a s ≡ true → s ≡ Nonterminal a
named_symbol a (Nonterminal b) h =
    let same : b.text ≡ a.text = (bytes_eq-Decides b.text a.text).0 h in
    let make : List ℕ → NonterminalString = λ t. record { text = t } in
    ap (λ n. Nonterminal n) (ap make same)
named_symbol a (Terminal t) h = cc

use_found : (a : NonterminalString) (p : Production) → has_use a p ≡ true → Contains p.symbols (Nonterminal a)
use_found a p h = let r = any_found (is_nonterminal a) p.symbols h in subst (Contains p.symbols) (named_symbol a r.0 r.2) r.1

use_there : (a : NonterminalString) (p : Production) → Contains p.symbols (Nonterminal a) → has_use a p ≡ true
use_there a p c = any_there (is_nonterminal a) p.symbols (Nonterminal a) c ((bytes_eq-Decides a.text a.text).1 refl)

-- ---- the first use
module _ (a : NonterminalString) where
  first_step : (t : Bool) (q : Production) (qs : List Production) (p : Production) → has_use a q ≡ t → (find (has_use a) qs ≡ Some p → IsFirstUse qs a p) → cond t (Some q) (find (has_use a) qs) ≡ Some p → IsFirstUse (q ∷ qs) a p
  first_step true q qs p e rest h =
      let same : q ≡ p = cc in
      record {
        before = [];
        after = qs;
        whole = ap (λ x. x ∷ qs) same;
        uses = subst (λ (x : Production). Contains x.symbols (Nonterminal a)) same (use_found a q e);
        earlier = λ side. Contains-none side.0 side.1;
      }
  first_step false q qs p e rest h =
      let r = rest h in
      record {
        before = q ∷ r.before;
        after = r.after;
        whole = ap (λ xs. q ∷ xs) r.whole;
        uses = r.uses;
        earlier = λ side. elim (contains-cons q r.before side.0 side.1) [
          | inl same ↦
              let used : has_use a q ≡ true = ap (has_use a) same ∙ use_there a side.0 side.2 in
              let never : true ≡ false = sym used ∙ e in
              cc
          | inr later ↦ r.earlier (side.0, later, side.2)
        ];
      }

  -- the first production that passes the test is the first use
  pub first_found : (ps : List Production) (p : Production) → find (has_use a) ps ≡ Some p → IsFirstUse ps a p
  first_found [] p h = cc
  first_found (q ∷ qs) p h = first_step (has_use a q) q qs p refl (first_found qs p) h

  none_step : (t : Bool) (q : Production) (qs : List Production) → has_use a q ≡ t → (find (has_use a) qs ≡ None → IsOnRightSide qs a → ⊥) → cond t (Some q) (find (has_use a) qs) ≡ None → IsOnRightSide (q ∷ qs) a → ⊥
  none_step true q qs e rest h side = cc
  none_step false q qs e rest h side = elim (contains-cons q qs side.0 side.1) [
    | inl same ↦
        let used : has_use a q ≡ true = ap (has_use a) same ∙ use_there a side.0 side.2 in
        let never : true ≡ false = sym used ∙ e in
        cc
    | inr later ↦ rest h (side.0, later, side.2)
  ]

  -- if no production passes, there is no use
  pub none_found : (ps : List Production) → find (has_use a) ps ≡ None → IsOnRightSide ps a → ⊥
  none_found [] h side = Contains-none side.0 side.1
  none_found (q ∷ qs) h side = none_step (has_use a q) q qs refl (none_found qs) h side

  unused_step : (t : Bool) (q : Production) (qs : List Production) → has_use a q ≡ t → (IsOnRightSide (q ∷ qs) a → ⊥) → find (has_use a) qs ≡ None → cond t (Some q) (find (has_use a) qs) ≡ None
  unused_step true q qs e h rest = absurd (h (q, contains_head q qs, use_found a q e))
  unused_step false q qs e h rest = rest

  -- if there is no use, no production passes
  pub unused : (ps : List Production) → (IsOnRightSide ps a → ⊥) → find (has_use a) ps ≡ None
  unused [] h = refl
  unused (q ∷ qs) h = unused_step (has_use a q) q qs refl h (unused qs (λ side. h (side.0, contains_tail q qs side.0 side.1, side.2)))

  -- the first use is the first production that passes
  pub found_first : (ps : List Production) (p : Production) → IsFirstUse ps a p → find (has_use a) ps ≡ Some p
  found_first ps p f =
      let test : Production → Bool = has_use a in
      let later : find test (p ∷ f.after) ≡ Some p = ap (λ t. cond t (Some p) (find test f.after)) (use_there a p f.uses) in
      ap (find test) f.whole ∙ find-append test f.before (p ∷ f.after) ∙ ap (λ o. option_or o (find test (p ∷ f.after))) (unused f.before f.earlier) ∙ later

-- ---- the marks of an entry
pub marked_has : (e : NonterminalData) → is_marked e ≡ true → Contains e.attributes.items inline_mark
marked_has e h =
    let r = any_found is_inline e.attributes.items h in
    let same : r.0.id ≡ codes "inline" = (bytes_eq-Decides r.0.id (codes "inline")).0 r.2 in
    let make : List ℕ → Attribute = λ t. record { id = t } in
    subst (Contains e.attributes.items) (ap make same) r.1

pub has_marked : (e : NonterminalData) → Contains e.attributes.items inline_mark → is_marked e ≡ true
has_marked e c = any_there is_inline e.attributes.items inline_mark c refl

-- ---- the productions of an entry
abbrev Entry : Type 0
Entry = NonterminalString × NonterminalData

abbrev own : Entry → List Production
own e = e.1.productions.items

-- ---- the first use, entry by entry
module _ (a : NonterminalString) (e : Entry) (rest whole : List Entry) (all : List Production) (same : whole ≡ e ∷ rest) (left : find (has_use a) (flat_map own whole) ≡ find (has_use a) all) where
  abbrev of_rest : Option Production
  of_rest = find (has_use a) (flat_map own rest)

  parted : option_or (find (has_use a) (own e)) of_rest ≡ find (has_use a) all
  parted = sym (find-append (has_use a) (own e) (flat_map own rest)) ∙ ap (λ (es : List Entry). find (has_use a) (flat_map own es)) (sym same) ∙ left

  pub use_later : find (has_use a) (own e) ≡ None → of_rest ≡ find (has_use a) all
  use_later none = ap (λ o. option_or o of_rest) (sym none) ∙ parted

  pub use_here : (p : Production) → find (has_use a) (own e) ≡ Some p → Some p ≡ find (has_use a) all
  use_here p found = ap (λ o. option_or o of_rest) (sym found) ∙ parted

-- one of some entries has a name and a production
pub record IsDefinedAt (es : List Entry) (a : NonterminalString) : Type 0 where
  pub entry : Entry
  pub there : Contains es entry
  pub defined : is_defined entry.1 ≡ true
  pub named : entry.0 ≡ a

module _ (g : Grammar) (well : IsWellFormed g) where
  named : (e : Entry) (p : Production) → Contains g.nonterminals.entries e → Contains (own e) p → p.nonterminal ≡ e.0
  named e p c d =
      let i = contains_place g.nonterminals.entries e c in
      let j = contains_place (own e) p d in
      ((well i.0 e.0 e.1 i.1).each j.0 p j.1).named

  defined_step : (e : Entry) (ps : List Production) → own e ≡ ps → Contains g.nonterminals.entries e → not (is_empty ps) ≡ true → HasProduction (productions g) e.0
  defined_step e [] same c h = cc
  defined_step e (p ∷ ps) same c h =
      let there : Contains (own e) p = subst (λ (qs : List Production). Contains qs p) (sym same) (contains_head p ps) in
      (p, in_flat_map own g.nonterminals.entries e p c there, named e p c there)

  -- the name of an entry with a production has a production
  pub defined_has : (e : Entry) → Contains g.nonterminals.entries e → is_defined e.1 ≡ true → HasProduction (productions g) e.0
  defined_has e c h = defined_step e (own e) refl c h

  not_empty : (p : Production) (ps : List Production) → Contains ps p → not (is_empty ps) ≡ true
  not_empty p [] c = absurd (Contains-none p c)
  not_empty p (q ∷ ps) c = refl

  -- a name that has a production has an entry with one
  pub has_defined : (a : NonterminalString) → HasProduction (productions g) a → IsDefinedAt g.nonterminals.entries a
  has_defined a h =
      let r = of_flat own g.nonterminals.entries h.0 h.1 in
      record { entry = r.0; there = r.1; defined = not_empty h.0 (own r.0) r.2; named = sym (named r.0 h.0 r.1 r.2) ∙ h.2 }

  none_left : (ps : List Production) → not (is_empty ps) ≡ false → ps ≡ []
  none_left [] h = refl
  none_left (p ∷ ps) h = cc

  -- the name of an entry without a production has none
  pub not_defined : IsOrdered name_cmp g.nonterminals → (a : NonterminalString) (entry : NonterminalData) → Contains g.nonterminals.entries (a, entry) → is_defined entry ≡ false → HasProduction (productions g) a → ⊥
  not_defined ordered a entry c h =
      let i = contains_place g.nonterminals.entries (a, entry) c in
      let found : get name_cmp g.nonterminals a ≡ Some entry = btree_map_get_place name_total g.nonterminals i.0 a entry ordered i.1 in
      no_production g a (productions_own g well ordered) (ap listed_productions found ∙ none_left entry.productions.items h)
