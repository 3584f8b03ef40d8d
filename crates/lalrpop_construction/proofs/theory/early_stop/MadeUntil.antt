-- The loop that makes states until enough conflicts are listed, and its states and conflicts as a
-- result.
use Rattle.std.proofs.Common.{◌≡◌, ℕ, ◌+◌, ◌-◌, ◌<◌, inl, inr, List, [], ◌∷◌, ◌++◌, length, take, refl, sym, ◌∙◌, ap, subst, arith, length-append}
use Rattle.std.proofs.Math.Seq.{take-append_seam}
use Rattle.std.proofs.lemmas.Bool.{cases_lt}
use Rattle.lalrpop_base.specs.Words.{Bits, Dotted, Kernels, Rules, FailWith, ListsAll, more}
use Rattle.lalrpop_construction.specs.Words.{Building, ArePartlyBuiltBy, AreEnough, ListFewer, AreMadeUntilBy}
use Rattle.lalrpop_construction.specs.Words.{AreMadeFor, StopsFor, Settings, AreStatesFor, AreTablesFor, FailsFor}
use Rattle.lalrpop_construction.proofs.Types.{BuildError, Conflict, State, Symbol, TerminalString, Token}
use Rattle.lalrpop_states.specs.declared.lr1_core.state.BuildError.TheVariants.{Conflicts, Memory}
use Rattle.lalrpop_states.specs.conflicts.AllConflicts.{none}
use Rattle.lalrpop_construction.proofs.theory.construction.Building.{Building-all}
use Rattle.lalrpop_construction.proofs.theory.conflicts.GrownConflicts.{States-of}

-- ---- lists in two parts
but_last : {X : Type 0} (xs all : List X) (x : X) → all ≡ xs ++ x ∷ [] → take (length all - 1) all ≡ xs
but_last xs all x e =
    let longer : length all ≡ length xs + 1 = ap length e ∙ length-append xs (x ∷ []) in
    let front : length all - 1 ≡ length xs = omega arith in
    ap (λ k. take k all) front ∙ ap (take (length xs)) e ∙ take-append_seam xs (x ∷ [])

-- ---- the loop
pub nothing_listed : {L : Type 0} (lists : State L → List TerminalString → List (Conflict L) → Type 0) (terminals : List TerminalString) (states : List (State L)) (conflicts : List (Conflict L)) → states ≡ [] → conflicts ≡ [] → ListsAll lists terminals states conflicts
nothing_listed {L} lists terminals states conflicts e f = subst (λ (xs : List (State L)). ListsAll lists terminals xs conflicts) (sym e) (subst (λ (cs : List (Conflict L)). ListsAll lists terminals [] cs) (sym f) none)

pub nothing_is_few : {X : Type 0} (stop_after : ℕ) (conflicts : List X) → conflicts ≡ [] → ¬ AreEnough stop_after (length conflicts)
nothing_is_few stop_after conflicts e h = let l : length conflicts ≡ 0 = ap length e in let a = h.0 in let b = h.1 in omega arith

pub enough_for : {a b n m : ℕ} → a ≡ b → n ≡ m → AreEnough a n → AreEnough b m
enough_for {a} {b} {n} {m} p q e = subst (λ (k : ℕ). AreEnough b k) q (subst (λ (k : ℕ). AreEnough k n) p e)

module _ {L : Type 0} (meaning : L → Bits) (C : List (Dotted L) → List (Dotted L) → Type 0) (lists : State L → List TerminalString → List (Conflict L) → Type 0) (g : Rules) (first : List (Dotted L)) (stop_after : ℕ) where
  partly : (kernels : Kernels (List (Dotted L))) (states : List (State L)) → Building meaning C g first kernels states → ArePartlyBuiltBy C first states
  partly kernels states b = record {
    kernels = kernels.list;
    fewer = let h = b.handed in let f = b.fewer in omega arith;
    differ = b.differ;
    start = b.start;
    each = b.each;
    led = λ n later within. b.led n later (let h = b.handed in let f = b.fewer in omega arith);
  }

  below : (n : ℕ) → 0 < stop_after → ¬ AreEnough stop_after n → n < stop_after
  below n positive few = elim (cases_lt n stop_after) [ inl less ↦ less | inr enough ↦ absurd (few (positive, enough)) ]

  -- the loop stops because there are enough conflicts
  pub Made-enough : (kernels : Kernels (List (Dotted L))) (states grown : List (State L)) (state : State L) (old new : List (Conflict L)) → Building meaning C g first kernels grown → grown ≡ states ++ state ∷ [] → ListsAll lists g.terminals states old → ListsAll lists g.terminals grown new →
      ¬ AreEnough stop_after (length old) → AreEnough stop_after (length new) → AreMadeUntilBy C lists g.terminals first stop_after grown new
  Made-enough kernels states grown state old new b e o n few enough = record {
    built = partly kernels grown b;
    listed = n;
    goes_on = λ positive. record {
      listed = old;
      all = subst (λ (xs : List (State L)). ListsAll lists g.terminals xs old) (sym (but_last states grown state e)) o;
      fewer = below (length old) positive few;
    };
    whole = λ not_enough. absurd (not_enough enough);
  }

  -- the states before the last one have no more conflicts than all states
  listed_before : {states : List (State L)} {conflicts : List (Conflict L)} → ListsAll lists g.terminals states conflicts → length conflicts < stop_after → ListFewer lists g.terminals (take (length states - 1) states) stop_after
  listed_before none l = record { listed = []; all = none; fewer = omega arith }
  listed_before (more {before} {all} {old} {new} state here h e s n) l =
      let longer : length new ≡ length old + length here = ap length n ∙ length-append old here in
      record {
        listed = old;
        all = subst (λ (xs : List (State L)). ListsAll lists g.terminals xs old) (sym (but_last before all state s)) h;
        fewer = omega arith;
      }

  -- the loop stops because no kernel is left
  pub Made-all : (kernels : Kernels (List (Dotted L))) (states : List (State L)) (conflicts : List (Conflict L)) → Building meaning C g first kernels states → kernels.handed ≡ length kernels.list → ListsAll lists g.terminals states conflicts → ¬ AreEnough stop_after (length conflicts) →
      AreMadeUntilBy C lists g.terminals first stop_after states conflicts
  Made-all kernels states conflicts b all listed few = record {
    built = partly kernels states b;
    listed = listed;
    goes_on = λ positive. listed_before listed (below (length conflicts) positive few);
    whole = λ _. Building-all meaning C g first kernels states b all;
  }

-- ---- the result
module _ {L : Type 0} (meaning : L → Bits) (begins : Rules → List Symbol → Token → Type 0) (passes : Rules → List Symbol → Type 0) (lists : State L → List TerminalString → List (Conflict L) → Type 0) (s : Settings L) (states : List (State L)) (conflicts : List (Conflict L)) (m : AreMadeFor meaning begins passes lists s states conflicts) where
  whole : ¬ AreEnough s.stop_after (length conflicts) → AreStatesFor meaning begins passes lists s.construction states
  whole few = States-of meaning begins passes lists s.construction states (m.whole few)

  pub made_tables : (tables : List (State L)) → tables ≡ states → conflicts ≡ [] → AreTablesFor meaning begins passes lists s.construction tables
  made_tables tables e free =
      let few : ¬ AreEnough s.stop_after (length conflicts) = λ h. (let l : length conflicts ≡ 0 = ap length free in let a = h.0 in let b = h.1 in omega arith) in
      subst (AreTablesFor meaning begins passes lists s.construction) (sym e) (record { made = whole few; free = subst (λ (cs : List (Conflict L)). ListsAll lists s.construction.rules.terminals states cs) free m.listed })

  pub made_failure : s.stop_after ≡ 0 → (error : BuildError L) → FailWith states conflicts error → FailsFor meaning begins passes lists s.construction error
  made_failure z (Conflicts error) f =
      let few : ¬ AreEnough s.stop_after (length conflicts) = λ h. (let a = h.0 in omega arith) in (
        subst (AreStatesFor meaning begins passes lists s.construction) (sym f.0) (whole few),
        subst (λ (xs : List (State L)). ListsAll lists s.construction.rules.terminals xs error.conflicts.items) (sym f.0) (subst (λ (cs : List (Conflict L)). ListsAll lists s.construction.rules.terminals states cs) (sym f.1) m.listed),
        λ free. f.2 (sym f.1 ∙ free),
      )
  made_failure z Memory f = tt

  pub made_stopped : (error : BuildError L) → FailWith states conflicts error → StopsFor meaning begins passes lists s error
  made_stopped (Conflicts error) f = (
    subst (λ (xs : List (State L)). AreMadeFor meaning begins passes lists s xs error.conflicts.items) (sym f.0) (subst (AreMadeFor meaning begins passes lists s states) (sym f.1) m),
    λ free. f.2 (sym f.1 ∙ free),
  )
  made_stopped Memory f = tt

-- an error has all states and conflicts if there is no early stop
pub Stops-fail : {L : Type 0} (meaning : L → Bits) (begins : Rules → List Symbol → Token → Type 0) (passes : Rules → List Symbol → Type 0) (lists : State L → List TerminalString → List (Conflict L) → Type 0) (s : Settings L) (error : BuildError L) → s.stop_after ≡ 0 → StopsFor meaning begins passes lists s error → FailsFor meaning begins passes lists s.construction error
Stops-fail meaning begins passes lists s (Conflicts error) unset f = made_failure meaning begins passes lists s error.states.items error.conflicts.items f.0 unset (Conflicts error) (refl, refl, f.1)
Stops-fail meaning begins passes lists s Memory unset f = tt
