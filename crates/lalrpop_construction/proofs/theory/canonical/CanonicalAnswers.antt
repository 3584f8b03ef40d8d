-- The results of the construction with sets of tokens, if Eof follows the start symbol: the tables
-- of the canonical method, or the canonical conflicts.
use Rattle.std.proofs.Common.{◌≡◌, ◌∙◌, ℕ, List, true}
use Rattle.lalrpop_base.specs.Words.{Bits, AllDiffer, rules_of, IsWellFormed, contents, productions, AreOwn, Begins, AreAllConflicts, IsClosureOf}
use Rattle.lalrpop_construction.specs.Words.{AreCanonicalStates, tokens_of}
use Rattle.lalrpop_construction.proofs.Types.{BuildError, Conflict, Grammar, NonterminalString, State}
use Rattle.lalrpop_states.specs.declared.lr1_core.state.BuildError.TheVariants.{Conflicts, Memory}
use Rattle.lalrpop_states.specs.closures.Closure.{itself}
use Rattle.lalrpop_construction.specs.Words.{AreCanonicalTables, FailsByConflicts, LacksTables}
use Rattle.lalrpop_construction.specs.Words.{StopsFor, AreTables, AreTablesFor, AreStatesOf, FailsBy, canonical_of}
use Rattle.lalrpop_construction.proofs.theory.canonical.CanonicalConflicts.{canonical_failure}
use Rattle.lalrpop_construction.proofs.theory.canonical.CanonicalContents.{are_canonical}
use Rattle.lalrpop_construction.proofs.theory.canonical.Deciding.{tables_canonical, tables_valid, tables_faithful, whole_partly}
use Rattle.lalrpop_grammar.proofs.theory.states.RightStates.{faithful_lr1}
use Rattle.lalrpop_construction.proofs.theory.canonical.OrderedCanonical.{Ordered-canonical}
use Rattle.lalrpop_construction.proofs.theory.early_stop.MadeUntil.{Stops-fail}
use Rattle.lalrpop_construction.proofs.theory.early_stop.StoppedAnswers.{stopping, stops, not_lr1}
use Rattle.lalrpop_construction.proofs.theory.early_stop.StoppedConflicts.{conflict_not_lr1}
use Rattle.lalrpop_construction.proofs.theory.early_stop.StoppedStates.{kernel_at_start}
use Rattle.lalrpop_construction.proofs.theory.closures.TokenTables.{Passes, Lists, Tables-of, Fails-of}

module _ (g : Grammar) (start : NonterminalString) (well : IsWellFormed g) (own : AreOwn g) (differ : AllDiffer g.terminals) where
  pub Canonical-tables : (tables : List (State Bits)) → AreTables (canonical_of g start) tables → AreCanonicalTables g start tables
  Canonical-tables tables made =
      let faithful = tables_faithful g start well own differ tables made in
      record {
        coherent = made.made.coherent;
        some = made.made.some;
        lr1 = faithful_lr1 (productions g) start (contents g.terminals tables) faithful;
        faithful = faithful;
        valid = tables_valid g start well own differ tables made;
        canonical = Ordered-canonical g start tables made.made (tables_canonical g start well own differ tables made);
        built = made;
      }

  -- states of the canonical construction with all their conflicts, of which there are some, are
  -- those of a grammar without tables
  pub Canonical-lacks : (states : List (State Bits)) (conflicts : List (Conflict Bits)) → AreStatesOf (canonical_of g start) states → AreAllConflicts g.terminals states conflicts → LacksTables g start states conflicts
  Canonical-lacks states conflicts made all =
      let canonical : AreCanonicalStates (rules_of g) start states = are_canonical g start well own differ states made in
      record {
        not_lr1 = conflict_not_lr1 g start well own differ states (whole_partly (IsClosureOf (rules_of g)) (kernel_at_start g start) states made.built) (λ none. all.some (all.all ∙ none));
        canonical = canonical;
        built = made;
        all = all;
        conflicts = canonical_failure g start states conflicts (λ n p dot t. tokens_of g.terminals states n p dot t ≡ true) well differ made (λ n s at. (made.built.each n s at).built.ascend) canonical.canonical canonical.ascend all;
      }

  pub Set-tables : (tables : List (State Bits)) → AreTablesFor itself Begins Passes Lists (canonical_of g start) tables → AreCanonicalTables g start tables
  Set-tables tables t = Canonical-tables tables (Tables-of (canonical_of g start) tables t)

  pub Set-fails : (stop_after : ℕ) (error : BuildError Bits) → StopsFor itself Begins Passes Lists (stopping g start stop_after) error → FailsByConflicts stop_after g start error
  Set-fails stop_after (Conflicts error) f =
      let states = error.states.items in
      let conflicts = error.conflicts.items in
      let all : stop_after ≡ 0 → FailsBy (canonical_of g start) (Conflicts error) = λ none. Fails-of (canonical_of g start) (Conflicts error) (Stops-fail itself Begins Passes Lists (stopping g start stop_after) (Conflicts error) none f) in
      let lacks : stop_after ≡ 0 → LacksTables g start states conflicts = λ none. Canonical-lacks states conflicts (all none).0 (all none).1 in
      record {
        not_lr1 = not_lr1 g start well own differ stop_after states conflicts f.0 f.1;
        canonical = λ none. (lacks none).canonical;
        built = λ none. (lacks none).built;
        all = λ none. (lacks none).all;
        conflicts = λ none. (lacks none).conflicts;
        stopped = stops g start well own differ stop_after states conflicts f.0 f.1;
      }
  Set-fails stop_after Memory f = tt
