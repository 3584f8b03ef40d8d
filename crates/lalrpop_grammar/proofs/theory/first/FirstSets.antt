-- If no production adds anything to sets, and the sets are right, they give FIRST of each list and
-- say whether it is nullable. The proof is by induction on forests.
use Rattle.std.proofs.Common.{◌≡◌, ◌↔◌, inl, inr, List, [], ◌∷◌, sym, subst, refl, ap}
use mathlib.Core.List.{head-eq_of_cons-eq, nil≢cons, cons≢nil}
use Rattle.lalrpop_grammar.proofs.Types.{NonterminalString, Production, Symbol, TerminalString}
use Rattle.lalrpop_grammar.specs.declared.repr.Symbol.TheVariants.{Nonterminal, Terminal}
use Rattle.lalrpop_grammar.specs.Words.{Derives, as_it_is, IsFirst, IsNullable, NullableBy, FirstBy, AreFirstSets}
use Rattle.lalrpop_grammar.proofs.theory.grammars.SymbolLists.{same_terminal, not_both}
use Rattle.lalrpop_grammar.proofs.theory.grammars.Forests.{Forest, empty, leaf, node, derives_forest, nil_parts, nullable-cons, first-cons}

module _ (g : List Production) (null : NonterminalString → Type 0) (first : NonterminalString → TerminalString → Type 0) (sets : AreFirstSets g null first) where
  -- a list that derives the empty list is nullable by the sets
  forest_null : {l m : List Symbol} → Forest g l m → m ≡ [] → NullableBy null l
  forest_null empty e = tt
  forest_null (leaf x f) e = absurd (cons≢nil e)
  forest_null (node p {m = m} {n = n} h d f) e =
      let parts = nil_parts m n (sym e) in
      (sets.null_closed p h (forest_null d parts.0), forest_null f parts.1)

  -- a list that derives a list with t at its front has t in FIRST by the sets
  forest_first : {l m : List Symbol} → Forest g l m → (t : TerminalString) (rest : List Symbol) → m ≡ Terminal t ∷ rest → FirstBy null first l t
  forest_first empty t rest e = nil≢cons e
  forest_first (leaf (Terminal x) f) t rest e = same_terminal (sym (head-eq_of_cons-eq e))
  forest_first (leaf (Nonterminal a) f) t rest e = absurd (not_both (head-eq_of_cons-eq e))
  forest_first (node p {m = []} {n = n} h d f) t rest e = inr (sets.null_closed p h (forest_null d refl), forest_first f t rest e)
  forest_first (node p {m = x ∷ m} {n = n} h d f) t rest e = inl (sets.first_closed p t h (forest_first d t m (ap (λ y. y ∷ m) (head-eq_of_cons-eq e))))

  -- a list is nullable by the sets exactly if it is nullable
  pub nullable_by : (l : List Symbol) → NullableBy null l ↔ IsNullable g l
  nullable_by l = (to l, λ d. forest_null (derives_forest d) refl)
    where
      to : (l : List Symbol) → NullableBy null l → IsNullable g l
      to [] h = as_it_is
      to (Terminal t ∷ l) h = absurd h
      to (Nonterminal a ∷ l) h = (nullable-cons (Nonterminal a) l).1 (sets.null_right a h.0, to l h.1)

  -- a terminal is in FIRST of a list by the sets exactly if it is in FIRST of the list
  pub first_by : (l : List Symbol) (t : TerminalString) → FirstBy null first l t ↔ IsFirst g l t
  first_by l t = (to l, λ h. forest_first (derives_forest h.1) t h.0 refl)
    where
      to : (l : List Symbol) → FirstBy null first l t → IsFirst g l t
      to [] h = absurd h
      to (Terminal x ∷ l) h = (l, subst (λ y. Derives g (Terminal x ∷ l) (Terminal y ∷ l)) (sym h) as_it_is)
      to (Nonterminal a ∷ l) h = (first-cons (Nonterminal a) l t).1 (elim h [
        | inl k ↦ inl (sets.first_right a t k)
        | inr k ↦ inr (sets.null_right a k.0, to l k.1)
      ])
