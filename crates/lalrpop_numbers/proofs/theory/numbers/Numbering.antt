-- The symbols after dots, their numbers, and the numbers of productions by nonterminal.
use Rattle.std.proofs.Common.{◌≡◌, ◌∙◌, ◌⊎◌, inl, inr, ℕ, zero, suc, ◌+◌, ◌<◌, List, [], ◌∷◌, ◌++◌, length, length-append, get_or, refl, sym, ap, subst, arith, slice_set}
use Rattle.std.specs.Prelude.{◌↔◌, slice_get, Option, Some, None, Contains}
use Rattle.std.specs.declared.alloc.Global.{Global}
use Rattle.std.specs.declared.vec.Vec.{Vec}
use Rattle.std.proofs.lemmas.List.Elements.{Contains-append_left, Contains-append_right, Contains-push_cases, Contains-push}
use Rattle.std.proofs.lemmas.Option.{slice_get_within, slice_get-map}
use Rattle.lalrpop_collections.specs.Words.{AllDiffer}
use Rattle.lalrpop_states.specs.Words.{Dotted, IsBehind}
use Rattle.lalrpop_numbers.specs.Words.{AddsStart, AddsThose, AreAllExpansions, AreEmpty, AreNumbersBehind, IsStartFrom, IsNumberOf}
use Rattle.lalrpop_numbers.specs.Words.{lists_of, AreBehindDots, IsNumberBehind, SymbolsAscend, symbol_order}
use Rattle.lalrpop_numbers.proofs.Types.{Nil, Symbol}
use Rattle.lalrpop_grammar.specs.declared.repr.Symbol.TheVariants.{Nonterminal}
use Rattle.lalrpop_collections.proofs.theory.lists.Lists.{some_of_map}
use Rattle.lalrpop_collections.specs.lists.CheckSets.{IsAdded}
use Rattle.lalrpop_numbers.proofs.theory.numbers.DottedProductions.{those_none, those_one}
use Rattle.lalrpop_collections.proofs.theory.lists.Members.{contains_head, apart-from_sorted}
use Rattle.lalrpop_states.proofs.theory.collapse.Merging.{set_elsewhere, set_here}
use Rattle.lalrpop_grammar.proofs.theory.grammars.NameOrders.{symbol_total}
use Rattle.lalrpop_collections.proofs.theory.lists.Zipped.{push_both, push_counted}
use Rattle.lalrpop_collections.proofs.theory.lists.Places.{differ_from_apart, filled, one_place, places_apart, push_cases, same_some, slice_get-longer, slice_get-push_at, slice_get_at}

-- ---- symbols after dots, added to a set
pub behind_new : (i : Dotted Nil) (s : Symbol) (old new : List Symbol) → IsBehind s i → IsAdded s old new → AddsThose (λ t. IsBehind t i) old new
behind_new i s old new at added = those_one (λ t. IsBehind t i) s old new added at (λ t at_t. same_some s t (sym at ∙ at_t))

pub dots_more : (done : List (Dotted Nil)) (i : Dotted Nil) (old new : List Symbol) → AreBehindDots done old → AddsThose (λ s. IsBehind s i) old new → AreBehindDots (done ++ i ∷ []) new
dots_more done i old new before added s = (
  λ c. elim ((added s).0 c) [
    | inl was ↦ let one = (before s).0 was in record { item = one.item; among = Contains-append_left done (i ∷ []) one.item one.among; behind = one.behind }
    | inr at ↦ record { item = i; among = Contains-push done i; behind = at }
  ],
  λ one. elim (Contains-push_cases done i one.item one.among) [
    | inl was ↦ (added s).1 (inl ((before s).1 (record { item = one.item; among = was; behind = one.behind })))
    | inr e ↦ (added s).1 (inr (subst (λ (j : Dotted Nil). IsBehind s j) (sym e) one.behind))
  ],
)

-- ---- the number of a symbol
pub symbols_differ : (symbols : List Symbol) → SymbolsAscend symbols → AllDiffer symbols
symbols_differ symbols ascend = differ_from_apart symbols (apart-from_sorted symbol_order symbol_total symbols ascend)

-- the result of a search is the number of the symbol after a dot
pub behind_of : (symbols : List Symbol) (i : Dotted Nil) (s : Symbol) (number : Option ℕ) → IsBehind s i → ((t : Symbol) → IsBehind t i → Contains symbols t) → IsNumberOf symbols s number → IsNumberBehind symbols i number
behind_of symbols i s None at known is = absurd (is (known s at))
behind_of symbols i s (Some x) at known is = (s, is, at)

-- ---- numbers of symbols after dots
pub numbers_more : (symbols : List Symbol) (done : List (Dotted Nil)) (behind : List (Option ℕ)) (i : Dotted Nil) (x : Option ℕ) → AreNumbersBehind symbols done behind → IsNumberBehind symbols i x → AreNumbersBehind symbols (done ++ i ∷ []) (behind ++ x ∷ [])
numbers_more symbols done behind i x before is = record {
  counted = push_counted done i behind x before.counted;
  each = λ k j y at_j at_y. elim (push_both done i behind x before.counted k j y at_j at_y) [
    | inl was ↦ before.each k j y was.0 was.1
    | inr new ↦ subst (λ (z : Option ℕ). IsNumberBehind symbols j z) new.2 (subst (λ (z : Dotted Nil). IsNumberBehind symbols z x) new.1 is)
  ];
}

-- ---- numbers of productions, by nonterminal
pub empty_more : (count : ℕ) (vectors : List (Vec ℕ Global)) (none : Vec ℕ Global) → none.items ≡ [] → AreEmpty count (lists_of vectors) → AreEmpty (count + 1) (lists_of (vectors ++ none ∷ []))
empty_more count vectors none is before = subst (AreEmpty (count + 1)) (sym (lists_push vectors none)) (record {
  counted = length-append (lists_of vectors) (none.items ∷ []) ∙ ap (λ n. n + 1) before.counted;
  each = λ x list at. elim (push_cases (lists_of vectors) none.items x list at) [ inl was ↦ before.each x list was | inr end ↦ sym end.1 ∙ is ];
})
  where
    lists_push : (vs : List (Vec ℕ Global)) (v : Vec ℕ Global) → lists_of (vs ++ v ∷ []) ≡ lists_of vs ++ v.items ∷ []
    lists_push [] v = refl
    lists_push (w ∷ vs) v = ap (λ (l : List (List ℕ)). w.items ∷ l) (lists_push vs v)

pub lists_length : (vectors : List (Vec ℕ Global)) → length (lists_of vectors) ≡ length vectors
lists_length [] = refl
lists_length (v ∷ vectors) = ap suc (lists_length vectors)

set_length : (vectors : List (Vec ℕ Global)) (n : ℕ) (v : Vec ℕ Global) → length (slice_set vectors n v) ≡ length vectors
set_length [] n v = refl
set_length (w ∷ vectors) zero v = refl
set_length (w ∷ vectors) (suc n) v = ap suc (set_length vectors n v)

pushed : (number : ℕ) (P : Type 0) (before after : List ℕ) → P → after ≡ before ++ number ∷ [] → AddsThose (λ k. (k ≡ number) × P) before after
pushed number P before after p is k = subst (λ (l : List ℕ). Contains l k ↔ (Contains before k ⊎ ((k ≡ number) × P))) (sym is) (
  λ c. elim (Contains-push_cases before number k c) [
    | inl was ↦ inl was
    | inr e ↦ inr (sym e, p)
  ],
  λ e. elim e [
    | inl was ↦ Contains-append_left before (number ∷ []) k was
    | inr new ↦ Contains-append_right before (number ∷ []) k (subst (λ (n : ℕ). Contains (n ∷ []) k) new.0 (contains_head k []))
  ],
)

-- the number is added to the list of the nonterminal
module _ (symbols : List Symbol) (ascend : SymbolsAscend symbols) (i : Dotted Nil) (front : i.index ≡ 0) (number n : ℕ) (found : slice_get symbols n ≡ Some (Nonterminal i.production.nonterminal)) (old : List (Vec ℕ Global)) (counted : length old ≡ length symbols) (before after : Vec ℕ Global) (was : before ≡ get_or old n before) (more : after.items ≡ before.items ++ number ∷ []) where
  pub start_put : AddsStart symbols i number (lists_of old) (lists_of (slice_set old n after))
  start_put = record {
    counted = lists_length (slice_set old n after) ∙ set_length old n after ∙ sym (lists_length old);
    each = λ x s b a at_s at_b at_a.
        let items : Vec ℕ Global → List ℕ = λ v. v.items in
        let v = some_of_map items (slice_get old x) b (sym (slice_get-map items old x) ∙ at_b) in
        let w = some_of_map items (slice_get (slice_set old n after) x) a (sym (slice_get-map items (slice_set old n after) x) ∙ at_a) in
        elim (places_apart x n) [
          | inl less ↦ elsewhere x s b a at_s v w (λ e. omega arith)
          | inr other ↦ elim other [ inl greater ↦ elsewhere x s b a at_s v w (λ e. omega arith) | inr same ↦ here x s b a at_s v w same ]
        ];
  }
    where
      within : n < length old
      within = let l = slice_get_within symbols n (Nonterminal i.production.nonterminal) found in omega arith

      here : (x : ℕ) (s : Symbol) (b a : List ℕ) → slice_get symbols x ≡ Some s → ((v : Vec ℕ Global) × (slice_get old x ≡ Some v) × (v.items ≡ b)) → ((w : Vec ℕ Global) × (slice_get (slice_set old n after) x ≡ Some w) × (w.items ≡ a)) → x ≡ n → AddsThose (λ k. (k ≡ number) × IsStartFrom s i) b a
      here x s b a at_s v w e =
          let is : s ≡ Nonterminal i.production.nonterminal = same_some s (Nonterminal i.production.nonterminal) (sym at_s ∙ ap (slice_get symbols) e ∙ found) in
          let first : v.0 ≡ before = same_some v.0 before (sym v.1 ∙ ap (slice_get old) e ∙ slice_get_at old n before within was) in
          let second : w.0 ≡ after = same_some w.0 after (sym w.1 ∙ ap (slice_get (slice_set old n after)) e ∙ set_here old n after within) in
          let grown : a ≡ b ++ number ∷ [] = sym w.2 ∙ ap (λ (z : Vec ℕ Global). z.items) second ∙ more ∙ ap (λ (l : List ℕ). l ++ number ∷ []) (ap (λ (z : Vec ℕ Global). z.items) (sym first) ∙ v.2) in
          pushed number (IsStartFrom s i) b a (front, is) grown

      elsewhere : (x : ℕ) (s : Symbol) (b a : List ℕ) → slice_get symbols x ≡ Some s → ((v : Vec ℕ Global) × (slice_get old x ≡ Some v) × (v.items ≡ b)) → ((w : Vec ℕ Global) × (slice_get (slice_set old n after) x ≡ Some w) × (w.items ≡ a)) → (x ≡ n → ⊥) → AddsThose (λ k. (k ≡ number) × IsStartFrom s i) b a
      elsewhere x s b a at_s v w apart =
          let vectors : v.0 ≡ w.0 = same_some v.0 w.0 (sym v.1 ∙ sym (set_elsewhere old n x after apart) ∙ w.1) in
          let same : b ≡ a = sym v.2 ∙ ap (λ (z : Vec ℕ Global). z.items) vectors ∙ w.2 in
          subst (AddsThose (λ k. (k ≡ number) × IsStartFrom s i) b) same (those_none (λ k. (k ≡ number) × IsStartFrom s i) b (λ k e. absurd (apart (one_place symbols (symbols_differ symbols ascend) x n s at_s (found ∙ ap Some (sym e.1.1))))))

-- one more item
pub expansions_more : (symbols : List Symbol) (done : List (Dotted Nil)) (i : Dotted Nil) (old new : List (List ℕ)) → AreAllExpansions symbols done old → AddsStart symbols i (length done) old new → AreAllExpansions symbols (done ++ i ∷ []) new
expansions_more symbols done i old new before added = record {
  counted = added.counted ∙ before.counted;
  each = λ x s after at_s at_after k.
      let l = slice_get_within new x after at_after in
      let same = added.counted in
      let was = filled old x (omega arith) in
      let step = added.each x s was.0 after at_s was.1 at_after k in
      let known = before.each x s was.0 at_s was.1 k in (
        λ c. elim (step.0 c) [
          | inl b ↦ let j = known.0 b in (j.0, slice_get-longer done (i ∷ []) k j.0 j.1, j.2, j.3)
          | inr e ↦ (i, ap (slice_get (done ++ i ∷ [])) e.0 ∙ slice_get-push_at done i, e.1.0, e.1.1)
        ],
        λ j. elim (push_cases done i k j.0 j.1) [
          | inl there ↦ step.1 (inl (known.1 (j.0, there, j.2, j.3)))
          | inr end ↦ step.1 (inr (end.0, (ap (λ (z : Dotted Nil). z.index) end.1 ∙ j.2, j.3 ∙ ap (λ (z : Dotted Nil). Nonterminal z.production.nonterminal) (sym end.1))))
        ],
      );
}
