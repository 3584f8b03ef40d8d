-- A grammar that is not marked for a collapse is not collapsed. So what is said of its tables holds
-- without that condition.
use Rattle.std.proofs.Common.{◌≡◌, ℕ, List, false, sym, subst, ◌∙◌}
use mathlib.Core.Bool.{true≢false}
use Rattle.lalrpop_base.specs.Words.{Bits}
use Rattle.lalrpop_states.specs.declared.lr1_core.state.BuildError.TheVariants.{Conflicts}
use Rattle.lalrpop_states.specs.declared.lr1_core.state.State.{State}
use Rattle.lalrpop_states.specs.declared.lr1_core.state.TableConstructionError.{TableConstructionError}
use Rattle.lalrpop_grammar.specs.declared.repr.NonterminalString.{NonterminalString}
use Rattle.lalrpop_grammar.specs.declared.repr.grammar.Grammar.{Grammar}
use Rattle.lalrpop_tables.specs.Words.{Collapses, AreTablesOf, HasConflictsOf}
use Rattle.lalrpop_construction.specs.declared.options.Options.{Options}
use Rattle.lalrpop_tables.proofs.theory.answers.Lr1Answers.{Tables-where, Failure-where}

module _ (g : Grammar) (options : Options) (plain : g.algorithm.lalr ≡ false) (start : NonterminalString) where
  not_collapsed : ¬ Collapses g options
  not_collapsed c = true≢false (sym c.asked ∙ plain)

  pub plain_tables : (tables : List (State Bits)) → AreTablesOf (Collapses g options) options.method options.max_copies g start tables → AreTablesOf ⊥ options.method options.max_copies g start tables
  plain_tables tables t = Tables-where g start tables (Collapses g options) ⊥ options.method not_collapsed (λ x. absurd x) t

  pub plain_conflicts : options.stop_after ≡ 0 → (error : TableConstructionError Bits) → HasConflictsOf (Collapses g options) options.stop_after g start error → HasConflictsOf ⊥ 0 g start error
  plain_conflicts whole error f = subst (λ (n : ℕ). HasConflictsOf ⊥ n g start error) whole (Failure-where g start options.stop_after (Collapses g options) ⊥ not_collapsed (λ x. absurd x) (Conflicts error) f)
