-- The errors under early stop, with sets of tokens as lookaheads.
use Rattle.std.proofs.Common.{◌≡◌, ◌≢◌, ℕ, ◌<◌, ◌≤◌, ◌⊎◌, inl, inr, List, [], length, ◌∙◌, subst, arith}
use Rattle.std.specs.List.{flat_map}
use Rattle.std.proofs.lemmas.Bool.{cases_lt}
use Rattle.lalrpop_base.specs.Words.{Bits, AllDiffer, state_conflicts, IsLR1, rules_of, productions, IsWellFormed}
use Rattle.lalrpop_construction.proofs.Types.{Conflict, Grammar, NonterminalString, State}
use Rattle.lalrpop_states.specs.closures.Closure.{itself}
use Rattle.lalrpop_construction.specs.Words.{AreCanonicalStates}
use Rattle.lalrpop_base.specs.Words.{AreOwn, Begins, IsClosureOf, IsClosureBy}
use Rattle.lalrpop_construction.specs.Words.{ArePartlyBuilt, AreEnough, GoesOnBeforeLast, AreMadeFor, StopsAfter, Settings, canonical_of}
use Rattle.lalrpop_construction.proofs.theory.canonical.CanonicalContents.{are_canonical}
use Rattle.lalrpop_construction.proofs.theory.conflicts.GrownConflicts.{All-listed, States-of}
use Rattle.lalrpop_construction.proofs.theory.early_stop.StoppedConflicts.{conflict_not_lr1}
use Rattle.lalrpop_construction.proofs.theory.early_stop.StoppedStates.{kernel_at_start, some_canonical_states}
use Rattle.lalrpop_construction.proofs.theory.closures.TokenTables.{Passes, Lists, built_of_by, closed, states_of}

-- the canonical construction, with early stop
abbrev pub stopping : Grammar → NonterminalString → ℕ → Settings Bits
stopping g start stop_after = record { construction = canonical_of g start; stop_after = stop_after }

module _ (g : Grammar) (start : NonterminalString) (well : IsWellFormed g) (own : AreOwn g) (differ : AllDiffer g.terminals) (stop_after : ℕ) where
  module _ (states : List (State Bits)) (conflicts : List (Conflict Bits)) (m : AreMadeFor itself Begins Passes Lists (stopping g start stop_after) states conflicts) (some : conflicts ≢ []) where
    built : ArePartlyBuilt (rules_of g) (kernel_at_start g start) states
    built = record {
      kernels = m.built.kernels;
      fewer = m.built.fewer;
      differ = m.built.differ;
      start = m.built.start;
      each = λ n state at. built_of_by (IsClosureBy itself Begins Passes (rules_of g)) (IsClosureOf (rules_of g)) (closed (rules_of g)) m.built.kernels n state (m.built.each n state at);
      led = m.built.led;
    }

    listed : conflicts ≡ flat_map (state_conflicts g.terminals) states
    listed = All-listed state_conflicts g.terminals m.listed

    pub not_lr1 : ¬ IsLR1 (productions g) start
    not_lr1 = conflict_not_lr1 g start well own differ states built (λ none. some (listed ∙ none))

    goes_on : GoesOnBeforeLast g.terminals stop_after states
    goes_on positive = let f = m.goes_on positive in subst (λ (cs : List (Conflict Bits)). length cs < stop_after) (All-listed state_conflicts g.terminals f.all) f.fewer

    all : ¬ AreEnough stop_after (length conflicts) → AreCanonicalStates (rules_of g) start states
    all few = are_canonical g start well own differ states (states_of (canonical_of g start) states (States-of itself Begins Passes Lists (canonical_of g start) states (m.whole few)))

    enough_or_all : (0 < stop_after) ⊎ (stop_after ≤ 0) → (length conflicts < stop_after) ⊎ (stop_after ≤ length conflicts) → AreEnough stop_after (length conflicts) ⊎ AreCanonicalStates (rules_of g) start states
    enough_or_all (inl positive) (inr enough) = inl (positive, enough)
    enough_or_all (inl positive) (inl few) = inr (all (λ h. let a = h.1 in omega arith))
    enough_or_all (inr none) d = inr (all (λ h. let a = h.0 in omega arith))

    pub stops : StopsAfter (rules_of g) start stop_after states conflicts
    stops = record {
      states_are = some_canonical_states g start well own states built differ;
      made = (kernel_at_start g start, built);
      conflicts_are = record { all = listed; some = some };
      goes_on = goes_on;
      either = enough_or_all (cases_lt 0 stop_after) (cases_lt (length conflicts) stop_after);
    }
