-- If `==` is exact, it is decided whether a kernel is in a list.
use Rattle.std.proofs.Common.{◌≡◌, ◌≢◌, ℕ, ◌⊎◌, inl, inr, List, [], ◌∷◌, ◌++◌, refl, sym, ◌∙◌, ap, subst, Bool, true, false}
use Rattle.std.specs.Prelude.{Contains}
use Rattle.std.proofs.lemmas.Bool.{cases_eq}
use mathlib.Core.Bool.{true≢false}
use Rattle.lalrpop_collections.specs.Words.{Exactly, AddsOnce}
use Rattle.lalrpop_states.specs.Words.{Dotted}
use Rattle.lalrpop_grammar.specs.contracts.repr.exact.ProductionExact.TheImpl as production_exactly
use Rattle.lalrpop_grammar.specs.contracts.repr.ProductionEq.TheImpl as production_laws
use Rattle.lalrpop_grammar.specs.contracts.repr.ProductionPartialEq.TheImpl as production_eq
use Rattle.lalrpop_numbers.proofs.Types.{Production}
use Rattle.lalrpop_numbers.specs.declared.numbers.numbered.Numbered.{Numbered}
use Rattle.lalrpop_collections.proofs.theory.lists.Members.{Contains-none, contains_head, contains_tail, contains-cons}

abbrev pub Decided : Type 0 → Type 0
Decided X = (x y : X) → (x ≡ y) ⊎ (x ≢ y)

decided_at : {X : Type 0} (E : X → X → Bool) → Exactly E → ((x : X) → E x x ≡ true) → (x y : X) (b : Bool) → E x y ≡ b → (x ≡ y) ⊎ (x ≢ y)
decided_at E exact itself x y true e = inl (exact x y e)
decided_at E exact itself x y false e = inr (λ s. true≢false (sym (itself x) ∙ ap (E x) s ∙ e))

pub decided : {X : Type 0} (E : X → X → Bool) → Exactly E → ((x : X) → E x x ≡ true) → Decided X
decided E exact itself x y = decided_at E exact itself x y (E x y) refl

module _ {X : Type 0} (same : Decided X) where
  pub decided_list : Decided (List X)
  decided_list [] [] = inl refl
  decided_list [] (b ∷ bs) = inr (λ e. cc)
  decided_list (a ∷ rest) [] = inr (λ e. cc)
  decided_list (a ∷ rest) (b ∷ bs) = elim (same a b) [
    | inr other ↦ inr (λ e. other cc)
    | inl h ↦ elim (decided_list rest bs) [
      | inr other ↦ inr (λ e. other cc)
      | inl t ↦ inl (ap (λ (x : X). x ∷ rest) h ∙ ap (λ (xs : List X). b ∷ xs) t)
    ]
  ]

decided_production : Decided Production
decided_production = decided production_eq.ghosts.eq production_exactly.Laws.exact-law (λ p. production_laws.Laws.laws-law.refl p)

module _ {L : Type 0} (same : Decided L) where
  decided_item : Decided (Dotted L)
  decided_item a b =
      let make : Production → ℕ → L → Dotted L = λ p n l. record { production = p; index = n; lookahead = l } in
      elim (decided_production a.production b.production) [
        | inr other ↦ inr (λ e. other (ap (λ (i : Dotted L). i.production) e))
        | inl p ↦ elim (cases_eq a.index b.index) [
          | inr other ↦ inr (λ e. other (ap (λ (i : Dotted L). i.index) e))
          | inl n ↦ elim (same a.lookahead b.lookahead) [
            | inr other ↦ inr (λ e. other (ap (λ (i : Dotted L). i.lookahead) e))
            | inl l ↦ inl (ap (λ (q : Production). make q a.index a.lookahead) p ∙ ap (λ (m : ℕ). make b.production m a.lookahead) n ∙ ap (λ (x : L). make b.production b.index x) l)
          ]
        ]
      ]

  pub decided_kernel : Decided (List (Dotted L))
  decided_kernel = decided_list decided_item

module _ {L : Type 0} (same : Decided L) where
  pub decided_numbered : Decided (Numbered L)
  decided_numbered a b =
      let make : ℕ → L → Numbered L = λ n l. record { number = n; lookahead = l } in
      elim (cases_eq a.number b.number) [
        | inr other ↦ inr (λ e. other (ap (λ (i : Numbered L). i.number) e))
        | inl n ↦ elim (same a.lookahead b.lookahead) [
          | inr other ↦ inr (λ e. other (ap (λ (i : Numbered L). i.lookahead) e))
          | inl l ↦ inl (ap (λ (m : ℕ). make m a.lookahead) n ∙ ap (λ (x : L). make b.number x) l)
        ]
      ]

module _ {X : Type 0} (same : Decided X) where
  pub contained : (xs : List X) (x : X) → Contains xs x ⊎ ¬ Contains xs x
  contained [] x = inr (λ c. Contains-none x c)
  contained (y ∷ xs) x = elim (same y x) [
    | inl e ↦ inl (subst (Contains (y ∷ xs)) e (contains_head y xs))
    | inr other ↦ elim (contained xs x) [
      | inl c ↦ inl (contains_tail y xs x c)
      | inr out ↦ inr (λ c. elim (contains-cons y xs x c) [ inl e ↦ other e | inr later ↦ out later ])
    ]
  ]

  -- a value is added at the end, or the list stays as it is
  pub added_or_not : (old new : List X) (x : X) → AddsOnce old new x → (new ≡ old) ⊎ (new ≡ old ++ x ∷ [])
  added_or_not old new x a = elim (contained old x) [ inl c ↦ inl (a.known c) | inr out ↦ inr (a.fresh out) ]
