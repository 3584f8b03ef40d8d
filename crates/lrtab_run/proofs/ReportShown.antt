-- What the report of a construction shows.
use Rattle.std.proofs.Common.{◌≡◌, ℕ, List, Some, Result, Ok, Err, is_ok, cond, inl, inr, false}
use Rattle.std.specs.Prelude.{IfOk, IfErr}
use Rattle.std.proofs.lemmas.Option.{none-some}
use Rattle.std.specs.declared.vec.Vec.{Vec}
use Rattle.lalrpop_base.specs.Words.{Bits}
use Rattle.lalrpop_states.specs.declared.lr1_core.state.BuildError.{BuildError}
use Rattle.lalrpop_states.specs.declared.lr1_core.state.BuildError.TheVariants.{Conflicts, Memory}
use Rattle.lalrpop_states.specs.declared.lr1_core.state.State.{State}
use Rattle.lalrpop_grammar.specs.declared.repr.NonterminalString.{NonterminalString}
use Rattle.lalrpop_grammar.specs.declared.repr.grammar.Grammar.{Grammar}
use Rattle.lalrpop_tables.specs.Words.{Collapses, AreTablesOf, FailsOn}
use Rattle.lalrpop_construction.specs.declared.options.Options.{Options}
use Rattle.lalrpop_lr1.specs.Words.{report_text}
use Rattle.lrtab_run.specs.Words.{Report}
use Rattle.lrtab_run.specs.Shown.{IsTaskShown}
use Rattle.lalrpop_tables.proofs.theory.answers.NotCollapsed.{plain_tables, plain_conflicts}

inside : {X : Type 0} (x y : X) → Some x ≡ Some y → y ≡ x
inside x y e = cc

-- the text of a report comes with the status of its outcome
pub report_shown : {A : Type 0} (options : Options) (g : Grammar) (start : NonterminalString) → g.algorithm.lalr ≡ false → options.stop_after ≡ 0 → (outcome : Result (Vec (State Bits) A) (BuildError Bits)) →
    IfOk outcome (λ tables. AreTablesOf (Collapses g options) options.method options.max_copies g start tables.items) → IfErr outcome (FailsOn (Collapses g options) options.stop_after g start) →
    (status : ℕ) (text : List ℕ) → report_text (λ (set : Bits). set) g.terminals outcome ≡ Some text → status ≡ cond (is_ok outcome) 0 1 → IsTaskShown options.method options.max_copies g start Report status text
report_shown options g start plain whole (Ok states) tables fails status text same ended = inl (record { states = states.items; tables = plain_tables g options plain start states.items tables; ended = ended; shown = inside _ text same })
report_shown options g start plain whole (Err (Conflicts error)) tables fails status text same ended = inr (record { error = error; no_tables = plain_conflicts g options plain start whole error fails; ended = ended; shown = inside _ text same })
report_shown options g start plain whole (Err Memory) tables fails status text same ended = absurd (none-some text same)
