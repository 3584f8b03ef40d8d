-- Tables and errors of a grammar are also those of another grammar with the same canonical
-- construction.
use Rattle.std.proofs.Common.{◌≡◌, ℕ, List, sym, subst, Some}
use Rattle.lalrpop_base.specs.Words.{Bits, AreCanonicalConflicts, contents, AreFaithful, state_after, IsLR1}
use Rattle.lalrpop_grammar.specs.contracts.repr.ProductionOrd.TheImpl as production_ord
use Rattle.lalrpop_grammar.specs.contracts.repr.TerminalStringOrd.TheImpl as terminal_ord
use Rattle.lalrpop_construction.proofs.Types.{BuildError, Conflict, Grammar, NonterminalString, State}
use Rattle.lalrpop_states.specs.declared.lr1_core.state.BuildError.TheVariants.{Conflicts, Memory}
use Rattle.lalrpop_construction.specs.Words.{AreCanonicalStates, AreOrderedCanonical, FitReductions, AreConflictsOfFailure, ShiftsLead, listed_of, conflicts_of}
use Rattle.lalrpop_base.specs.Words.{AreAllConflicts}
use Rattle.lalrpop_construction.specs.Words.{AreCanonicalTables, FailsByConflicts}
use Rattle.lalrpop_construction.specs.Words.{AreSomeCanonicalStates, StopsAfter, Construction, AreStatesOf, AreTables, canonical_of}

module _ (g h : Grammar) (start other : NonterminalString) (same : canonical_of g start ≡ canonical_of h other) where
  Same-ordered : (tables : List (State Bits)) → AreOrderedCanonical g start tables → AreOrderedCanonical h other tables
  Same-ordered tables o = record {
    canonical = subst (λ (c : Construction Bits). AreCanonicalStates c.rules c.start tables) same o.canonical;
    coherent = o.coherent;
    some = o.some;
    ascend = o.ascend;
    fit = λ n s at. subst (λ (c : Construction Bits). FitReductions c.rules.terminals s) same (o.fit n s at);
  }

  pub Same-tables : (tables : List (State Bits)) → AreCanonicalTables g start tables → AreCanonicalTables h other tables
  Same-tables tables t = record {
    coherent = t.coherent;
    some = t.some;
    lr1 = subst (λ (c : Construction Bits). IsLR1 c.rules.productions c.start) same t.lr1;
    faithful = subst (λ (c : Construction Bits). AreFaithful c.rules.productions c.start (contents c.rules.terminals tables)) same t.faithful;
    valid = subst (λ (c : Construction Bits). AreSomeCanonicalStates c.rules c.start tables) same t.valid;
    canonical = Same-ordered tables t.canonical;
    built = subst (λ (c : Construction Bits). AreTables c tables) same t.built;
  }

  Same-conflicts : (states : List (State Bits)) (conflicts : List (Conflict Bits)) → AreConflictsOfFailure g start states conflicts → AreConflictsOfFailure h other states conflicts
  Same-conflicts states conflicts f = record {
    canonical = record {
      each = λ u n. subst (λ (c : Construction Bits). state_after (contents c.rules.terminals states) u ≡ Some n → AreCanonicalConflicts terminal_ord.ghosts.cmp production_ord.ghosts.cmp c.rules.productions c.start u (conflicts_of c.rules.terminals (listed_of n conflicts))) same (f.canonical.each u n);
      only = f.canonical.only;
      ascend = f.canonical.ascend;
      lead = subst (λ (c : Construction Bits). ShiftsLead c.rules.terminals states conflicts) same f.canonical.lead;
    };
    some = f.some;
  }

  pub Same-fails : (stop_after : ℕ) (error : BuildError Bits) → FailsByConflicts stop_after g start error → FailsByConflicts stop_after h other error
  Same-fails stop_after (Conflicts error) f = record {
    not_lr1 = λ lr1. f.not_lr1 (subst (λ (c : Construction Bits). IsLR1 c.rules.productions c.start) (sym same) lr1);
    canonical = λ none. subst (λ (c : Construction Bits). AreCanonicalStates c.rules c.start error.states.items) same (f.canonical none);
    built = λ none. subst (λ (c : Construction Bits). AreStatesOf c error.states.items) same (f.built none);
    all = λ none. subst (λ (c : Construction Bits). AreAllConflicts c.rules.terminals error.states.items error.conflicts.items) same (f.all none);
    conflicts = λ none. Same-conflicts error.states.items error.conflicts.items (f.conflicts none);
    stopped = subst (λ (c : Construction Bits). StopsAfter c.rules c.start stop_after error.states.items error.conflicts.items) same f.stopped;
  }
  Same-fails stop_after Memory f = tt
