-- The tokens that reductions hold, with one more reduction.
use Rattle.std.proofs.Common.{◌≡◌, ◌∙◌, ◌↔◌, inl, inr, ℕ, true, List, [], ◌∷◌, ◌++◌, sym, ap, subst}
use Rattle.std.specs.Prelude.{IsTrue}
use Rattle.std.proofs.lemmas.Bool.{true≢false}
use Rattle.std.proofs.lemmas.List.Elements.{Contains-append_left, Contains-push_cases, Contains-push}
use Rattle.lalrpop_collections.specs.Words.{Bits, has, has-no_bits, join, no_bits}
use Rattle.lalrpop_states.specs.conflicts.HeldShifts.{IsHeldBit}
use Rattle.lalrpop_states.specs.conflicts.StateConflicts.{StateReduction}
use Rattle.lalrpop_collections.proofs.theory.lists.Members.{Contains-none}
use Rattle.lalrpop_collections.proofs.theory.sets.BitSets.{join_cases, join_left, join_right}

-- without reductions no bit is held
pub held_none : (bits : Bits) → bits ≡ no_bits → (bit : ℕ) → IsTrue (has bits bit) ↔ IsHeldBit [] bit
held_none bits empty bit = (λ h. absurd (true≢false (sym h ∙ ap (λ (s : Bits). has s bit) empty ∙ has-no_bits bit)), λ h. absurd (Contains-none h.0 h.1))

-- one more reduction adds its tokens
pub held_more : (rs : List StateReduction) (r : StateReduction) (old : Bits) → ((bit : ℕ) → IsTrue (has old bit) ↔ IsHeldBit rs bit) → (bit : ℕ) → IsTrue (has (join old r.0) bit) ↔ IsHeldBit (rs ++ r ∷ []) bit
held_more rs r old before bit = (
  λ h. elim (join_cases old r.0 bit h) [
    | inl there ↦ let f = (before bit).0 there in (f.0, Contains-append_left rs (r ∷ []) f.0 f.1, f.2)
    | inr came ↦ (r, Contains-push rs r, came)
  ],
  λ h. elim (Contains-push_cases rs r h.0 h.1) [
    | inl c ↦ join_left old r.0 bit ((before bit).1 (h.0, c, h.2))
    | inr same ↦ join_right old r.0 bit (subst (λ (q : StateReduction). has q.0 bit ≡ true) (sym same) h.2)
  ],
)
