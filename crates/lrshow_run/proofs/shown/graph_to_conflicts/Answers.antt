use Rattle.std.proofs.Common.{List, ◌≡◌, ◌∙◌, ap, arith, length, subst}
use Rattle.std.proofs.lemmas.Result.{IfOk-weaker}
use Rattle.lalrpop_base.specs.Words.{Bits}
use Rattle.lalrpop_states.specs.declared.lr1_core.state.Conflict.{Conflict}
use Rattle.lalrpop_states.specs.declared.lr1_core.state.State.{State}
use Rattle.table_pictures.specs.ConflictStates.{is_conflict_state}
use Rattle.table_pictures.specs.EdgePairs.{edge_pairs}
use Rattle.table_pictures.specs.Paths.{AreOnShortest}
use Rattle.table_pictures.specs.declared.edges.ShownStates.TheVariants.{Only}
use Rattle.lrshow_run.specs.Shown.{no_conflicts}
use Rattle.lrshow_run.proofs.shown.graph_to_conflicts.Goals as goal

pub returns : goal.returns
returns c =
    let flags = c.in_ok-states_to_conflicts.field-0 in
    let same : c.len.result ≡ length c.args.built.now.conflicts.items = omega (arith, c.len.ensures, c.args.built.now.conflicts.ok) in
    let found = subst (λ (ks : List (Conflict Bits)). AreOnShortest (edge_pairs c.deref.result.now) 0 (is_conflict_state (length c.deref.result.now) ks) flags.items) c.deref-2.ensures.value c.in_ok-states_to_conflicts.ensures.exactly in
    IfOk-weaker c.drawn.result _ _ (λ s out. record {
      chosen = Only flags;
      right = subst (λ (l : List (State Bits)). AreOnShortest (edge_pairs l) 0 (is_conflict_state (length l) c.args.built.now.conflicts.items) flags.items) c.deref.ensures.value found;
      shown = record { ended = out.ended; whole = out.whole ∙ c.in_ok-text.ensures; remarked = out.remarked ∙ c.in_ok-remark.ensures ∙ ap no_conflicts same };
    }) c.drawn.ensures
