-- If there is an order, no marked nonterminals mention each other in a ring.
use Rattle.std.proofs.Common.{◌≡◌, inl, inr, List, [], ◌∷◌, ◌++◌, sym, ◌∙◌, ap, subst, append_assoc, true}
use Rattle.std.specs.Prelude.{Contains}
use Rattle.std.proofs.lemmas.List.Elements.{Contains-append_left}
use Rattle.lalrpop_inline.proofs.Types.{Grammar, NonterminalString}
use Rattle.lalrpop_collections.proofs.theory.lists.Lists.{contains-cons, contains-nil, contains_head, contains_tail}
use Rattle.std.specs.BTreeMap.{get}
use Rattle.std.specs.BTreeSet.{contains}
use Rattle.lalrpop_base.specs.Words.{name_cmp}
use Rattle.lalrpop_grammar.specs.declared.repr.Span.{Span}
use Rattle.lalrpop_inline.specs.declared.inline.graph.depth_first.Walk.{Walk}
use Rattle.lalrpop_inline.specs.Words.{LeadTo, IsMarked, Leads, one, more, IsInlineOrder, IsOnRing, HasSpan}
use Rattle.lalrpop_collections.proofs.theory.lists.Apart.{Apart, apart_from}

-- the place of an element
pub record Place (l : List NonterminalString) (a : NonterminalString) : Type 0 where
  pub before : List NonterminalString
  pub after : List NonterminalString
  pub there : l ≡ before ++ a ∷ after

pub place_in : (l : List NonterminalString) (a : NonterminalString) → Contains l a → Place l a
place_in [] a c = absurd (contains-nil c)
place_in (x ∷ l) a c = elim (contains-cons x l a c) [
  | inl e ↦ record { before = []; after = l; there = ap (λ (y : NonterminalString). y ∷ l) e }
  | inr k ↦ let r = place_in l a k in record { before = x ∷ r.before; after = r.after; there = ap (λ (m : List NonterminalString). x ∷ m) r.there }
]

not_before : (before after : List NonterminalString) (a : NonterminalString) → Apart (before ++ a ∷ after) → Contains before a → ⊥
not_before [] after a h c = contains-nil c
not_before (x ∷ before) after a h c = elim (contains-cons x before a c) [
  | inl e ↦ h.0 (subst (Contains (before ++ a ∷ after)) (sym e) (in_middle before after a))
  | inr k ↦ not_before before after a h.1 k
]
  where
    in_middle : (before after : List NonterminalString) (a : NonterminalString) → Contains (before ++ a ∷ after) a
    in_middle [] after a = contains_head a after
    in_middle (x ∷ before) after a = contains_tail x (before ++ a ∷ after) a (in_middle before after a)

-- a nonterminal that leads to another one is marked
pub first_marked : (g : Grammar) (a c : NonterminalString) → Leads g a c → IsMarked g a
first_marked g a c (one marked mentions) = marked
first_marked g a c (more {b} lead marked mentions) = first_marked g a b lead

-- a nonterminal that the walk is in and comes to leads to itself
pub met : (g : Grammar) (w : Walk) (name copy : NonterminalString) (span : Span) → contains name_cmp w.visiting name ≡ true → copy ≡ name → (IsMarked g name → HasSpan (get name_cmp g.nonterminals name) span) → LeadTo g w name → IsOnRing g copy × HasSpan (get name_cmp g.nonterminals copy) span
met g w name copy span h same spans lead =
    let ring : Leads g name name = lead name h in
    subst (λ (a : NonterminalString). IsOnRing g a × HasSpan (get name_cmp g.nonterminals a) span) (sym same) (ring, spans (first_marked g name name ring))

module _ (g : Grammar) (order : List NonterminalString) (is : IsInlineOrder g order) where
  -- a marked nonterminal to which another one leads comes before that one
  leads_before : (a c : NonterminalString) → Leads g a c → IsMarked g c → (before after : List NonterminalString) → order ≡ before ++ a ∷ after → Contains before c
  leads_before a c (one marked mentions) is_marked before after e = is.behind before after a c e mentions is_marked
  leads_before a c (more {b} lead marked mentions) is_marked before after e =
      let at = place_in before b (leads_before a b lead marked before after e) in
      let earlier : Contains at.before c = is.behind at.before (at.after ++ a ∷ after) b c (e ∙ ap (λ (l : List NonterminalString). l ++ a ∷ after) at.there ∙ append_assoc at.before (b ∷ at.after) (a ∷ after)) mentions is_marked in
      subst (λ (l : List NonterminalString). Contains l c) (sym at.there) (Contains-append_left at.before (b ∷ at.after) c earlier)

  pub no_ring : (a : NonterminalString) → IsOnRing g a → ⊥
  no_ring a ring =
      let marked : IsMarked g a = first_marked g a a ring in
      let at = place_in order a ((is.marked a).1 marked) in
      not_before at.before at.after a (subst (λ (l : List NonterminalString). Apart l) at.there (apart_from order is.once)) (leads_before a a ring marked at.before at.after at.there)
