-- A state of the code has no conflict exactly if its contents have none.
use Rattle.std.proofs.Common.{◌≡◌, ℕ, suc, ◌<◌, true, List, [], ◌∷◌, ◌++◌, refl, sym, ◌∙◌, ap, subst, Some, option_map}
use Rattle.std.specs.Prelude.{Contains, slice_get}
use Rattle.std.specs.Borrow.{Bor}
use Rattle.std.specs.List.{flat_map}
use Rattle.std.proofs.lemmas.Option.{slice_get-map}
use Rattle.lalrpop_base.specs.Words.{Bits, has, contents_of, holds_token, no_contents, reduction_of, AllDiffer, state_conflicts}
use Rattle.lalrpop_construction.specs.Words.{FitReductions}
use Rattle.lalrpop_grammar.specs.conflicts.Conflicts.{HasNoConflict as HoldsNoConflict}
use Rattle.lalrpop_states.specs.conflicts.StateConflicts.{IsConflictFree}
use Rattle.lalrpop_grammar.specs.states.States.{Reduction}
use Rattle.lalrpop_construction.proofs.Types.{Production, State, TerminalString, Token}
use Rattle.lalrpop_grammar.specs.declared.lookahead.token.Token.TheVariants.{Terminal as TokenOf}
use Rattle.lalrpop_grammar.specs.declared.repr.Symbol.TheVariants.{Terminal}
use Rattle.lalrpop_states.proofs.theory.conflicts.ConflictLemmas.{none_exactly}
use Rattle.lalrpop_collections.proofs.theory.lists.Lists.{some_of_map, contains_of_map, contains_map, place_contains}
use Rattle.lalrpop_construction.proofs.theory.grammars.ItemTokens.{token_with}
use Rattle.lalrpop_states.proofs.theory.grammars.KnownTerminals.{held_bit, bit_held}
use Rattle.lalrpop_collections.proofs.theory.lists.Members.{place}
use Rattle.lalrpop_collections.proofs.theory.lists.Places.{same_some}
use Rattle.lalrpop_construction.proofs.theory.construction.StateEdges.{leads_transition, transition_leads}

abbrev CodeReduction : Type 0
CodeReduction = Bits × Bor Production

-- a number without a state has no conflict
pub nowhere_conflict : HoldsNoConflict no_contents
nowhere_conflict = record { shifts = λ x n r e. cc; reductions = λ i j r q t l at. cc }

module _ (terminals : List TerminalString) (s : State Bits) where
  shift_free : IsConflictFree terminals s → (x : TerminalString) (n : ℕ) (r : Reduction) → (contents_of (holds_token terminals) s).shift x ≡ Some n → Contains (contents_of (holds_token terminals) s).reductions r → r.holds (TokenOf x) ≡ true → ⊥
  shift_free none x n r e c h =
      let edge = leads_transition (holds_token terminals) s (Terminal x) n e in
      let k = place s.shifts.entries (x, edge.0) edge.2 in
      let q = contains_of_map (reduction_of (holds_token terminals)) s.reductions.items r c in
      let j = place s.reductions.items q.0 q.1 in
      let bit = held_bit terminals (q.0).0 (TokenOf x) (subst (λ (y : Reduction). y.holds (TokenOf x) ≡ true) (sym q.2) h) in
      none.shifts k.0 j.0 bit.0 x edge.0 q.0 k.2 bit.1 j.2 bit.2

  stands : (k : ℕ) (r : Reduction) → slice_get (contents_of (holds_token terminals) s).reductions k ≡ Some r → (q : CodeReduction) × (slice_get s.reductions.items k ≡ Some q) × (reduction_of (holds_token terminals) q ≡ r)
  stands k r at = some_of_map (reduction_of (holds_token terminals)) (slice_get s.reductions.items k) r (sym (slice_get-map (reduction_of (holds_token terminals)) s.reductions.items k) ∙ at)

  reduction_free : IsConflictFree terminals s → (i j : ℕ) (r q : Reduction) (t : Token) → i < j → slice_get (contents_of (holds_token terminals) s).reductions i ≡ Some r → slice_get (contents_of (holds_token terminals) s).reductions j ≡ Some q → r.holds t ≡ true → q.holds t ≡ true → ⊥
  reduction_free none i j r q t l at_i at_j h k =
      let a = stands i r at_i in
      let b = stands j q at_j in
      let first = held_bit terminals (a.0).0 t (subst (λ (y : Reduction). y.holds t ≡ true) (sym a.2) h) in
      let second = held_bit terminals (b.0).0 t (subst (λ (y : Reduction). y.holds t ≡ true) (sym b.2) k) in
      let same : second.0 ≡ first.0 = same_some second.0 first.0 (sym second.1 ∙ first.1) in
      none.reductions i j first.0 a.0 b.0 l a.1 b.1 first.2 (subst (λ (n : ℕ). has (b.0).0 n ≡ true) same second.2)

  pub free_contents : IsConflictFree terminals s → HoldsNoConflict (contents_of (holds_token terminals) s)
  free_contents none = record { shifts = shift_free none; reductions = reduction_free none }

  pub contents_free : AllDiffer terminals → FitReductions terminals s → HoldsNoConflict (contents_of (holds_token terminals) s) → IsConflictFree terminals s
  contents_free differ fits none = record {
    shifts = λ k j bit t target r at_k at at_j h.
        let found = transition_leads (holds_token terminals) s (Terminal t) target (place_contains s.shifts.entries k (t, target) at_k) in
        none.shifts t (found.0).0 (reduction_of (holds_token terminals) r) found.1 (contains_map (reduction_of (holds_token terminals)) s.reductions.items r (place_contains s.reductions.items j r at_j)) (bit_held terminals r.0 (TokenOf t) bit at h);
    reductions = λ i j bit r q l at_i at_j h k.
        let t = token_with terminals differ bit (fits r (place_contains s.reductions.items i r at_i) bit h) in
        none.reductions i j (reduction_of (holds_token terminals) r) (reduction_of (holds_token terminals) q) t.0 l
        (slice_get-map (reduction_of (holds_token terminals)) s.reductions.items i ∙ ap (option_map (reduction_of (holds_token terminals))) at_i)
        (slice_get-map (reduction_of (holds_token terminals)) s.reductions.items j ∙ ap (option_map (reduction_of (holds_token terminals))) at_j)
        (bit_held terminals r.0 t.0 bit t.1 h) (bit_held terminals q.0 t.0 bit t.1 k);
  }

-- no conflict is listed if no state has one
pub none_listed : (terminals : List TerminalString) (states : List (State Bits)) → ((n : ℕ) (s : State Bits) → slice_get states n ≡ Some s → IsConflictFree terminals s) → flat_map (state_conflicts terminals) states ≡ []
none_listed terminals [] none = refl
none_listed terminals (s ∷ states) none =
    let first : state_conflicts terminals s ≡ [] = (none_exactly terminals s).1 (none 0 s refl) in
    ap (λ cs. cs ++ flat_map (state_conflicts terminals) states) first ∙ none_listed terminals states (λ n t at. none (suc n) t at)
