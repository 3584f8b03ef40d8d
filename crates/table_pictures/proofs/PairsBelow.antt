-- The edges of states, as pairs, begin and end at numbers of these states.
use Rattle.std.proofs.Common.{◌≡◌, ℕ, ◌<◌, inl, inr, Bool, true, false, ◌&&◌, cond, nat_lt, List, [], ◌∷◌, refl, subst}
use Rattle.std.specs.Prelude.{Contains}
use Rattle.std.specs.List.{flat_map}
use Rattle.std.proofs.lemmas.Bool.{ltb-true}
use Rattle.std.proofs.lemmas.List.Elements.{Contains-append_cases}
use Rattle.lalrpop_base.specs.Words.{Bits}
use Rattle.lalrpop_states.specs.declared.lr1_core.state.State.{State}
use Rattle.lalrpop_states.specs.declared.lr1_core.state.StateIndex.{StateIndex}
use Rattle.lalrpop_collections.proofs.theory.lists.Members.{Contains-none, contains-cons, of_flat}
use Rattle.table_pictures.specs.EdgePairs.{edge_pair, state_pairs, target_pairs}
use Rattle.table_pictures.specs.Paths.{AreEdgesBelow}
use Rattle.table_pictures.proofs.PathRounds.{and_first, and_second}

pair_at : (c : Bool) (limit from to a b : ℕ) → (nat_lt from limit && nat_lt to limit) ≡ c → Contains {X = ℕ × ℕ} (cond c ((from, to) ∷ []) []) (a, b) → (a < limit) × (b < limit)
pair_at true limit from to a b is h = elim (contains-cons (from, to) [] (a, b) h) [
  | inl same ↦ subst (λ (p : ℕ × ℕ). (p.0 < limit) × (p.1 < limit)) same (ltb-true from limit (and_first (nat_lt from limit) (nat_lt to limit) is), ltb-true to limit (and_second (nat_lt from limit) (nat_lt to limit) is))
  | inr later ↦ absurd (Contains-none (a, b) later)
]
pair_at false limit from to a b is h = absurd (Contains-none (a, b) h)

targets_below : {K : Type 0} (limit from : ℕ) (targets : List (K × StateIndex)) → AreEdgesBelow limit (target_pairs limit from targets)
targets_below {K} limit from targets a b c =
    let r = of_flat (λ (e : K × StateIndex). edge_pair limit from e.1) targets (a, b) c in
    pair_at (nat_lt from limit && nat_lt r.0.1.0 limit) limit from r.0.1.0 a b refl r.2

pub pairs_below : (limit : ℕ) (states : List (State Bits)) → AreEdgesBelow limit (flat_map (state_pairs limit) states)
pairs_below limit states a b c =
    let r = of_flat (state_pairs limit) states (a, b) c in
    elim (Contains-append_cases (target_pairs limit r.0.index.0 r.0.shifts.entries) (target_pairs limit r.0.index.0 r.0.gotos.entries) (a, b) r.2) [
      | inl shift ↦ targets_below limit r.0.index.0 r.0.shifts.entries a b shift
      | inr goto ↦ targets_below limit r.0.index.0 r.0.gotos.entries a b goto
    ]
