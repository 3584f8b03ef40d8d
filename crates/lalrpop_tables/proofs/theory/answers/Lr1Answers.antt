-- The results of a construction of LR(1) tables, from the results of its parts.
use Rattle.std.proofs.Common.{◌≡◌, ℕ, ◌<◌, inl, inr, List, length, refl}
use Rattle.std.specs.Prelude.{IfOk, IfErr, MatchResult}
use Rattle.std.specs.declared.result.Result.{Result}
use Rattle.std.specs.declared.result.Result.TheVariants.{Ok, Err}
use Rattle.lalrpop_base.specs.Words.{Bits, contents, AreCoherent, AreFaithful, IsLALR1, IsOnNoRightSide, productions, rules_of}
use Rattle.lalrpop_tables.proofs.Types.{BuildError, Grammar, NonterminalString, State}
use Rattle.lalrpop_states.specs.declared.lr1_core.state.BuildError.TheVariants.{Conflicts, Memory}
use Rattle.lalrpop_states.specs.declared.lr1_core.state.TableConstructionError.{TableConstructionError}
use Rattle.lalrpop_grammar.proofs.theory.states.RightStates.{faithful_lr1}
use Rattle.lalrpop_tables.specs.Words.{AreCollapsedTables, FailsByCollapse}
use Rattle.lalrpop_base.specs.Words.{AreRenumbered}
use Rattle.lalrpop_tables.specs.Words.{AreLalrTables}
use Rattle.lalrpop_base.specs.Words.{TellsNotLALR1}
use Rattle.lalrpop_tables.specs.Words.{HasCoherentStates, FailsAsLalr, AreTablesBy, AreTablesOf, AreBuiltTablesOf}
use Rattle.lalrpop_lane_states.specs.Words.{AreLaneTables, AreCopiedTables}
use Rattle.lalrpop_construction.specs.Words.{AreCanonicalTables, FailsByConflicts}
use Rattle.lalrpop_tables.specs.Words.{HasConflictsOf, FailsOn}
use Rattle.lalrpop_construction.specs.Words.{AreTables, canonical_of}
use Rattle.lalrpop_construction.specs.declared.options.Method.{Method}
use Rattle.lalrpop_construction.specs.declared.options.Method.TheVariants.{Lane, Canonical}
use Rattle.lalrpop_tables.proofs.theory.collapse.CollapseLalr.{lalr_lr1}
use Rattle.lalrpop_tables.proofs.theory.renumbering.RenumberedTables.{Ordered-renumbered, Faithful-renumbered, Tables-renumbered, Lanes-renumbered, Either-renumbered, Merged-renumbered, Some-renumbered}
use Rattle.lalrpop_tables.proofs.theory.renumbering.RenumberedValid.{Valid-renumbered}

module _ (g : Grammar) (start : NonterminalString) (tables : List (State Bits)) where
  -- ---- each way of making tables
  pub Lane-answer : (copies : ℕ) → AreCopiedTables (rules_of g) start copies tables → AreFaithful (productions g) start (contents g.terminals tables) → (IsOnNoRightSide (productions g) start → IsLALR1 (productions g) start → AreLaneTables (rules_of g) start tables) → AreBuiltTablesOf ⊥ Lane copies g start tables
  Lane-answer copies copied faithful lanes = record {
    coherent = copied.closed.coherent;
    some = copied.closed.some;
    lr1 = faithful_lr1 (productions g) start (contents g.terminals tables) faithful;
    faithful = faithful;
    valid = λ _ e. cc;
    canonical = λ _ e. cc;
    built = λ _ e. cc;
    lalr1 = λ c. absurd c;
    merged = λ c. absurd c;
    either = λ _. inl copied;
    lanes = λ _. lanes;
  }

  -- canonical tables are a result by either method; by the lane method only if there are no lane
  -- tables of an LALR(1) grammar
  pub Fallback-answer : (method : Method) (copies : ℕ) → (method ≡ Lane → IsOnNoRightSide (productions g) start → IsLALR1 (productions g) start → AreLaneTables (rules_of g) start tables) → AreCanonicalTables g start tables → AreBuiltTablesOf ⊥ method copies g start tables
  Fallback-answer method copies lanes t = record {
    coherent = t.coherent;
    some = t.some;
    lr1 = t.lr1;
    faithful = t.faithful;
    valid = λ n _. t.valid;
    canonical = λ n _. t.canonical;
    built = λ n _. t.built;
    lalr1 = λ c. absurd c;
    merged = λ c. absurd c;
    either = λ _. inr t.built;
    lanes = lanes;
  }

  pub Merged-answer : (collapsed : Type 0) → collapsed → (method : Method) → method ≡ Canonical → (copies : ℕ) (before : List (State Bits)) → AreTables (canonical_of g start) before → AreCollapsedTables g.terminals before tables → AreCoherent tables → 0 < length tables → AreLalrTables g start tables → AreBuiltTablesOf collapsed method copies g start tables
  Merged-answer collapsed is method by copies before canonical merged coherent some lalr = record {
    coherent = coherent;
    some = some;
    lr1 = lalr_lr1 (productions g) start lalr.lalr;
    faithful = lalr.faithful;
    valid = λ n _. absurd (n is);
    canonical = λ n _. absurd (n is);
    built = λ n _. absurd (n is);
    lalr1 = λ _. lalr.lalr;
    merged = λ _. record { before = before; canonical = canonical; merged = merged };
    either = λ e. cc;
    lanes = λ e. cc;
  }

  -- ---- the same under an equivalent condition
  pub Tables-where : {Built Copies Lanes Merged : List (State Bits) → Type 0} (c d : Type 0) (method : Method) → (c → d) → (d → c) → AreTablesBy Built Copies Lanes Merged c method g start tables → AreTablesBy Built Copies Lanes Merged d method g start tables
  Tables-where c d method to from t = record {
    coherent = t.coherent;
    some = t.some;
    lr1 = t.lr1;
    faithful = t.faithful;
    valid = λ n. t.valid (λ x. n (to x));
    canonical = λ n. t.canonical (λ x. n (to x));
    built = λ n. t.built (λ x. n (to x));
    lalr1 = λ x. t.lalr1 (from x);
    merged = λ x. t.merged (from x);
    either = t.either;
    lanes = t.lanes;
  }

-- ---- under other numbers
pub Answer-renumbered : (collapsed : Type 0) (method : Method) (copies : ℕ) (g : Grammar) (start : NonterminalString) (built tables : List (State Bits)) → AreRenumbered g.terminals built tables → AreBuiltTablesOf collapsed method copies g start built → AreTablesOf collapsed method copies g start tables
Answer-renumbered collapsed method copies g start built tables r t = record {
  coherent = r.coherent;
  some = Some-renumbered g.terminals built tables r t.some;
  lr1 = t.lr1;
  faithful = Faithful-renumbered g.terminals built tables r (productions g) start t.faithful;
  valid = λ n m. Valid-renumbered (rules_of g) start built tables r (t.valid n m);
  canonical = λ n m. Ordered-renumbered g start built tables r (t.canonical n m);
  built = λ n m. Tables-renumbered (canonical_of g start) built tables (t.built n m) r;
  lalr1 = t.lalr1;
  merged = λ c. Merged-renumbered g start built tables (t.merged c) r;
  either = λ m. Either-renumbered g start copies built tables (t.either m) r;
  lanes = λ m alone lalr. Lanes-renumbered (rules_of g) start built tables (t.lanes m alone lalr) r;
}

-- ---- errors
-- an error of the canonical construction is one without a collapse
pub Canonical-fails : (g : Grammar) (start : NonterminalString) (stop_after : ℕ) (error : BuildError Bits) → FailsByConflicts stop_after g start error → FailsOn ⊥ stop_after g start error
Canonical-fails g start stop_after (Conflicts error) f = record {
  not_lr1 = λ _. f.not_lr1;
  not_lalr1 = λ c. absurd c;
  canonical = λ _. f.canonical;
  built = λ _. f.built;
  all = λ _. f.all;
  conflicts = λ _. f.conflicts;
  stopped = λ _. f.stopped;
  merged = λ c. absurd c;
}
Canonical-fails g start stop_after Memory f = tt

module _ (g : Grammar) (start : NonterminalString) (stop_after : ℕ) where
  -- an error of the canonical construction, or of the collapse of what it makes
  merged_error : (collapsed : Type 0) → collapsed → (error : TableConstructionError Bits) → FailsAsLalr g start stop_after (Conflicts error) → ¬ IsLALR1 (productions g) start → HasConflictsOf collapsed stop_after g start error
  merged_error collapsed is error merged not_lalr1 = record {
    not_lr1 = λ n. absurd (n is);
    not_lalr1 = λ _. not_lalr1;
    canonical = λ n. absurd (n is);
    built = λ n. absurd (n is);
    all = λ n. absurd (n is);
    conflicts = λ n. absurd (n is);
    stopped = λ n. absurd (n is);
    merged = λ _. merged;
  }

  pub Merged-failure : (collapsed : Type 0) → collapsed → (before : List (State Bits)) → AreTables (canonical_of g start) before → (error : BuildError Bits) → FailsByCollapse g.terminals before error → TellsNotLALR1 (productions g) start error → FailsOn collapsed stop_after g start error
  Merged-failure collapsed is before canonical (Conflicts error) merged not_lalr1 = merged_error collapsed is error (inr (record { before = before; canonical = canonical; merged = merged })) not_lalr1
  Merged-failure collapsed is before canonical Memory merged not_lalr1 = tt

  pub Failure-where : (c d : Type 0) → (c → d) → (d → c) → (error : BuildError Bits) → FailsOn c stop_after g start error → FailsOn d stop_after g start error
  Failure-where c d to from (Conflicts error) f = record {
    not_lr1 = λ n. f.not_lr1 (λ x. n (to x));
    not_lalr1 = λ x. f.not_lalr1 (from x);
    canonical = λ n. f.canonical (λ x. n (to x));
    built = λ n. f.built (λ x. n (to x));
    all = λ n. f.all (λ x. n (to x));
    conflicts = λ n. f.conflicts (λ x. n (to x));
    stopped = λ n. f.stopped (λ x. n (to x));
    merged = λ x. f.merged (from x);
  }
  Failure-where c d to from Memory f = tt

  pub Failure-collapsed : (collapsed : Type 0) → collapsed → (error : BuildError Bits) → FailsOn ⊥ stop_after g start error → FailsOn collapsed stop_after g start error
  Failure-collapsed collapsed is (Conflicts error) f = merged_error collapsed is error (inl (f.stopped (λ c. c))) (λ lalr. f.not_lr1 (λ c. c) (lalr_lr1 (productions g) start lalr))
  Failure-collapsed collapsed is Memory f = tt

-- an error without a collapse is one by either method
pub Failure_by_method : (g : Grammar) (start : NonterminalString) (stop_after : ℕ) (method : Method) (error : BuildError Bits) → FailsOn ⊥ stop_after g start error → FailsOn (method ≡ Canonical) stop_after g start error
Failure_by_method g start stop_after Canonical error f = Failure-collapsed g start stop_after (Canonical ≡ Canonical) refl error f
Failure_by_method g start stop_after Lane error f = Failure-where g start stop_after ⊥ (Lane ≡ Canonical) (λ x. absurd x) (λ e. cc) error f

-- ---- the result of a part
module _ {T : Type 0} (items : T → List (State Bits)) (g : Grammar) (start : NonterminalString) (stop_after : ℕ) (method : Method) (by : method ≡ Canonical) (copies : ℕ) (before : List (State Bits)) (t : AreBuiltTablesOf ⊥ method copies g start before) where
  -- the result of the collapse of canonical states is one of the construction
  pub Collapse-answers : (r : Result T (BuildError Bits)) → MatchResult r (λ x. AreCollapsedTables g.terminals before (items x)) (FailsByCollapse g.terminals before) → MatchResult r (λ x. AreCoherent (items x)) HasCoherentStates → IfOk r (λ x. 0 < length (items x)) → MatchResult r (λ x. AreLalrTables g start (items x)) (TellsNotLALR1 (productions g) start) →
      IfOk r (λ x. AreBuiltTablesOf (method ≡ Canonical) method copies g start (items x))
  Collapse-answers (Ok x) merged coherent some lalr = Merged-answer g start (items x) (method ≡ Canonical) by method by copies before (t.built (λ c. c) by) merged coherent some lalr
  Collapse-answers (Err e) merged coherent some lalr = tt

  pub Collapse-fails : (r : Result T (BuildError Bits)) → MatchResult r (λ x. AreCollapsedTables g.terminals before (items x)) (FailsByCollapse g.terminals before) → MatchResult r (λ x. AreLalrTables g start (items x)) (TellsNotLALR1 (productions g) start) →
      IfErr r (FailsOn (method ≡ Canonical) stop_after g start)
  Collapse-fails (Ok x) merged lalr = tt
  Collapse-fails (Err e) merged lalr = Merged-failure g start stop_after (method ≡ Canonical) by before (t.built (λ c. c) by) e merged lalr
