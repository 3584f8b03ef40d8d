-- The tokens that may follow a nonterminal, by the rest after it.
use Rattle.std.proofs.Common.{◌≡◌, ◌↔◌, ◌⊎◌, ◌||◌, inl, inr, Bool, true, false, ℕ, ◌<◌, List, length, Some, refl, ap, sym, ◌∙◌, subst, arith}
use Rattle.std.specs.Prelude.{Contains, IsTrue, slice_get}
use Rattle.std.proofs.lemmas.Bool.{or_cases}
use Rattle.std.proofs.lemmas.Option.{slice_get_within}
use Rattle.lalrpop_base.specs.Words.{Bits, has, has-join, join, HasKnownTerminals, IsFirst, IsFirstSetBefore, IsNullable, Rules, IsSuffix, Begins}
use Rattle.lalrpop_construction.proofs.Types.{Production, Symbol, TerminalString}
use Rattle.lalrpop_construction.specs.closures.EpsilonMoves.{IsGiven}
use Rattle.lalrpop_numbers.specs.declared.numbers.suffixes.Suffix.{Suffix}
use Rattle.lalrpop_construction.proofs.theory.closures.EpsilonMoves.{First-holds}
use Rattle.lalrpop_collections.proofs.theory.lists.Places.{same_some}

module _ (g : Rules) (symbols : List Symbol) (rest : Suffix) (is : IsSuffix g symbols rest) where
  -- a bit of the rest is that of a terminal in FIRST of the symbols
  first_bit : (bit : ℕ) (t : TerminalString) → slice_get g.terminals bit ≡ Some t → IsTrue (has rest.first bit) ↔ IsFirst g.productions symbols t
  first_bit bit t at = (
    λ h. let f = (is.first bit).0 h in subst (λ (s : TerminalString). IsFirst g.productions symbols s) (same_some f.0 t (sym f.1 ∙ at)) f.2,
    λ f. (is.first bit).1 (t, at, f),
  )

  -- a bit of the rest is less than the number of terminals
  first_below : (bit : ℕ) → IsTrue (has rest.first bit) → bit < length g.terminals
  first_below bit h = let f = (is.first bit).0 h in slice_get_within g.terminals bit f.0 f.1

  -- if the symbols are nullable, the tokens are those of the rest and those that follow the symbols
  pub before_joined : IsTrue rest.nullable → (follow set : Bits) → set ≡ join rest.first follow → IsFirstSetBefore g symbols follow set
  before_joined nullable follow set e = record {
    begins = λ bit t at. (
      λ h. elim ((joined_bit bit).0 h) [ inl f ↦ inl ((first_bit bit t at).0 f) | inr k ↦ inr ((is.nullable).0 nullable, k) ],
      λ h. elim h [ inl f ↦ (joined_bit bit).1 (inl ((first_bit bit t at).1 f)) | inr k ↦ (joined_bit bit).1 (inr k.1) ],
    );
    others = λ bit past. (
      λ h. elim ((joined_bit bit).0 h) [ inl f ↦ absurd (let l = first_below bit f in omega (arith, l, past)) | inr k ↦ ((is.nullable).0 nullable, k) ],
      λ k. (joined_bit bit).1 (inr k.1),
    );
  }
    where
      second : (a : Bool) → (a || true) ≡ true
      second true = refl
      second false = refl

      is_join : (bit : ℕ) → has set bit ≡ (has rest.first bit || has follow bit)
      is_join bit = ap (λ (s : Bits). has s bit) e ∙ has-join rest.first follow bit

      joined_bit : (bit : ℕ) → IsTrue (has set bit) ↔ (IsTrue (has rest.first bit) ⊎ IsTrue (has follow bit))
      joined_bit bit = (
        λ h. or_cases (has rest.first bit) (has follow bit) (sym (is_join bit) ∙ h),
        λ h. elim h [ inl f ↦ is_join bit ∙ ap (λ (b : Bool). b || has follow bit) f | inr k ↦ is_join bit ∙ ap (λ (b : Bool). has rest.first bit || b) k ∙ second (has rest.first bit) ],
      )

  -- if the symbols are not nullable, the tokens are those of the rest alone
  pub before_alone : (IsTrue rest.nullable → ⊥) → (follow : Bits) → IsFirstSetBefore g symbols follow rest.first
  before_alone not follow = record {
    begins = λ bit t at. (
      λ h. inl ((first_bit bit t at).0 h),
      λ h. elim h [ inl f ↦ (first_bit bit t at).1 f | inr k ↦ absurd (not ((is.nullable).1 k.0)) ],
    );
    others = λ bit past. (
      λ h. absurd (let l = first_below bit h in omega (arith, l, past)),
      λ k. absurd (not ((is.nullable).1 k.0)),
    );
  }

  -- the tokens that may follow a nonterminal before the symbols are those of the rest and, if the
  -- symbols are nullable, those that follow the symbols
  pub rest_gives : ((p : Production) → Contains g.productions p → HasKnownTerminals g.terminals p.symbols) → HasKnownTerminals g.terminals symbols → (follow set : Bits) →
      (IsTrue rest.nullable × (set ≡ join rest.first follow)) ⊎ ((IsTrue rest.nullable → ⊥) × (set ≡ rest.first)) → IsGiven (λ (s : Bits). s) Begins (λ (r : Rules) (xs : List Symbol). IsNullable r.productions xs) g symbols follow set
  rest_gives known symbols_known follow set which = record {
    fits = λ fits bit h. elim (from bit h) [
      | inl f ↦ let l = first_below bit f in omega (arith, l)
      | inr k ↦ fits bit k
    ];
    holds = First-holds g known symbols symbols_known follow set (elim which [
      | inl j ↦ before_joined j.0 follow set j.1
      | inr a ↦ subst (IsFirstSetBefore g symbols follow) (sym a.1) (before_alone a.0 follow)
    ]);
  }
    where
      from : (bit : ℕ) → IsTrue (has set bit) → IsTrue (has rest.first bit) ⊎ IsTrue (has follow bit)
      from bit h = elim which [
        | inl j ↦ or_cases (has rest.first bit) (has follow bit) (sym (has-join rest.first follow bit) ∙ sym (ap (λ (s : Bits). has s bit) j.1) ∙ h)
        | inr a ↦ inl (sym (ap (λ (s : Bits). has s bit) a.1) ∙ h)
      ]
