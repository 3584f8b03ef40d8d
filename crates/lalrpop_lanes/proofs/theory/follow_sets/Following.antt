-- The tokens that can follow the nonterminal in an item, as a set.
use Rattle.std.proofs.Common.{◌≡◌, ℕ, ◌<◌, ◌≤◌, ◌⊎◌, inl, inr, ◌↔◌, List, length, sym, ◌∙◌, ap, subst, arith, Bool, true, false, not, ◌&&◌, ◌||◌, eq-eqb, eqb-true}
use Rattle.std.specs.Prelude.{◌==◌}
use mathlib.Core.Bool.{true≢false}
use Rattle.std.proofs.lemmas.Bool.{cases_Bool}
use Rattle.std.proofs.lemmas.Option.{slice_get_within}
use Rattle.lalrpop_base.specs.Words.{Bits, has, no_bits, with_bit, has-with_bit, has-no_bits, both, IsFirstSet, IsFirst, IsNullable, Dotted, Rules, Visits}
use Rattle.lalrpop_lanes.proofs.Types.{NonterminalString, StateIndex, Symbol}
use Rattle.lalrpop_lanes.specs.Words.{Gains, Nothing, IsHere, IsEnd, IsEndBit, IsParent, IsFollowBit, IsPassedOn, IsPlaceIf, symbols_after_next, AddsTokens}
use Rattle.lalrpop_states.specs.declared.lr1_core.place.Place.{Place}
use Rattle.lalrpop_collections.specs.declared.collections.walk.Walk.{Walk}
use Rattle.lalrpop_lanes.specs.declared.lane_table.table.LaneTable.{LaneTable}
use Rattle.lalrpop_lanes.proofs.theory.lanes.Gains.{Gains-none, Gains-tokens, Gains-same}
use Rattle.lalrpop_collections.proofs.theory.lists.Places.{filled}
use Rattle.lalrpop_collections.proofs.theory.collections.Walks.{Visits-same, Visits-none}

-- ---- Eof alone
pub only_bit : (n bit : ℕ) → has (with_bit no_bits n) bit ≡ true ↔ (bit ≡ n)
only_bit n bit = (
  λ h. elim (cases_Bool (bit == n)) [
    | inl e ↦ eqb-true bit n e
    | inr e ↦ absurd (true≢false (sym h ∙ has-with_bit no_bits n bit ∙ ap (λ b. b || has no_bits bit) e ∙ has-no_bits bit))
  ],
  λ e. has-with_bit no_bits n bit ∙ ap (λ b. b || has no_bits bit) (eq-eqb bit n e),
)

pub end_gained : (g : Rules) (start name : NonterminalString) (state : StateIndex) (k : ℕ) (set : Bits) (old new : LaneTable) → name ≡ start → set ≡ with_bit no_bits (length g.terminals) → AddsTokens state k set old new → Gains k (IsEnd start name state.0) (IsEndBit g start name state.0) Nothing old new
end_gained g start name state k set old new is only added =
    Gains-same k (λ row. state.0 ≡ row) (IsEnd start name state.0) (λ row bit. (state.0 ≡ row) × (has set bit ≡ true)) (IsEndBit g start name state.0) Nothing Nothing
    (λ row. (λ e. record { here = e; fact = is }, λ h. h.here))
    (λ row bit. (
      λ h. record { here = h.0; fact = (is, (only_bit (length g.terminals) bit).0 (subst (λ (s : Bits). has s bit ≡ true) only h.1)) },
      λ h. (h.here, subst (λ (s : Bits). has s bit ≡ true) (sym only) ((only_bit (length g.terminals) bit).1 (h.fact.1))),
    ))
    (λ l r. (λ h. h, λ h. h)) old new (Gains-tokens state k set old new added)

pub no_end : (g : Rules) (start name : NonterminalString) (state k : ℕ) (table : LaneTable) → (name ≡ start → ⊥) → Gains k (IsEnd start name state) (IsEndBit g start name state) Nothing table table
no_end g start name state k table other = Gains-none k (IsEnd start name state) (IsEndBit g start name state) Nothing table (λ row h. other h.fact) (λ row bit h. other h.fact.0) (λ l r h. h)

-- ---- tokens that follow
module _ (g : Rules) {L : Type 0} (name : NonterminalString) (item : Dotted L) where
  pub no_follow : (state k : ℕ) (table : LaneTable) → (IsParent name item → ⊥) → Gains k (IsHere state (IsParent name item)) (λ row bit. IsHere state (IsFollowBit g name item bit) row) Nothing table table
  no_follow state k table other = Gains-none k (IsHere state (IsParent name item)) (λ row bit. IsHere state (IsFollowBit g name item bit) row) Nothing table (λ row h. other h.fact) (λ row bit h. other h.fact.parent) (λ l r h. h)

  pub no_passed : (state : ℕ) (walk : Walk Place) → (IsParent name item → ⊥) → Visits (IsPassedOn g name state item) walk walk
  no_passed state walk other = Visits-none (IsPassedOn g name state item) walk (λ k h. other h.parent)

  module _ (parent : IsParent name item) (rest : List Symbol) (same : rest ≡ symbols_after_next item) (first left : Bits) (is : IsFirstSet g rest first) where
    -- the terminals of the set are those that can follow
    follow_bits : ((bit : ℕ) → has left bit ≡ (has first bit && not (bit == length g.terminals))) → (bit : ℕ) → has left bit ≡ true ↔ IsFollowBit g name item bit
    follow_bits taken bit = (
      λ h.
          let b = both (has first bit) (not (bit == length g.terminals)) (sym (taken bit) ∙ h) in
          let most = is.fits bit b.0 in
          let within : bit < length g.terminals = elim (cases_Bool (bit == length g.terminals)) [
            | inl e ↦ absurd (true≢false (sym b.1 ∙ ap not e))
            | inr e ↦ below most (λ s. absurd (true≢false (sym (eq-eqb bit (length g.terminals) s) ∙ e)))
          ] in
          let t = filled g.terminals bit within in
          record { parent = parent; terminal = t.0; number = t.1; first = subst (λ (l : List Symbol). IsFirst g.productions l t.0) same ((is.begins bit t.0 t.1).0 b.0) },
      λ f.
          let there : has first bit ≡ true = (is.begins bit f.terminal f.number).1 (subst (λ (l : List Symbol). IsFirst g.productions l f.terminal) (sym same) f.first) in
          let within = slice_get_within g.terminals bit f.terminal f.number in
          taken bit ∙ ap (λ b. b && not (bit == length g.terminals)) there ∙ ap not (apart within),
    )
      where
        below : bit ≤ length g.terminals → (bit ≡ length g.terminals → ⊥) → bit < length g.terminals
        below most other = elim (lt_or_eq most) [ inl l ↦ l | inr e ↦ absurd (other e) ]
          where
            lt_or_eq : bit ≤ length g.terminals → (bit < length g.terminals) ⊎ (bit ≡ length g.terminals)
            lt_or_eq m = grind arith

        apart : bit < length g.terminals → (bit == length g.terminals) ≡ false
        apart l = elim (cases_Bool (bit == length g.terminals)) [ inl e ↦ absurd (let s = eqb-true bit (length g.terminals) e in omega arith) | inr e ↦ e ]

    pub follow_gained : (state : StateIndex) (k : ℕ) (old new : LaneTable) → ((bit : ℕ) → has left bit ≡ (has first bit && not (bit == length g.terminals))) → AddsTokens state k left old new → Gains k (IsHere state.0 (IsParent name item)) (λ row bit. IsHere state.0 (IsFollowBit g name item bit) row) Nothing old new
    follow_gained state k old new taken added =
        Gains-same k (λ row. state.0 ≡ row) (IsHere state.0 (IsParent name item)) (λ row bit. (state.0 ≡ row) × (has left bit ≡ true)) (λ row bit. IsHere state.0 (IsFollowBit g name item bit) row) Nothing Nothing
        (λ row. (λ e. record { here = e; fact = parent }, λ h. h.here))
        (λ row bit. (λ h. record { here = h.0; fact = (follow_bits taken bit).0 h.1 }, λ h. (h.here, (follow_bits taken bit).1 h.fact)))
        (λ l r. (λ h. h, λ h. h)) old new (Gains-tokens state k left old new added)

    pub follow_passed : (nullable : Bool) (state : ℕ) (old new : Walk Place) → nullable ≡ has first (length g.terminals) → Visits (IsPlaceIf nullable state item) old new → Visits (IsPassedOn g name state item) old new
    follow_passed nullable state old new told v = Visits-same (IsPlaceIf nullable state item) (IsPassedOn g name state item)
        (λ k h. record { parent = parent; nullable = subst (IsNullable g.productions) same (is.ends.0 (sym told ∙ h.so)); is = h.is })
        (λ k h. record { so = told ∙ is.ends.1 (subst (IsNullable g.productions) (sym same) h.nullable); is = h.is }) old new v
