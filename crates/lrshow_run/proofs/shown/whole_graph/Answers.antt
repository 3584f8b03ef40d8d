use Rattle.std.proofs.Common.{◌∙◌, ap, refl}
use Rattle.std.proofs.lemmas.Result.{IfOk-weaker}
use Rattle.table_pictures.specs.Graphs.{edge_count}
use Rattle.table_pictures.specs.declared.edges.ShownStates.TheVariants.{All as AllStates}
use Rattle.lrshow_run.specs.Shown.{how_to_cut}
use Rattle.lrshow_run.proofs.shown.whole_graph.Goals as goal

pub returns : goal.returns
returns c = IfOk-weaker c.drawn.result _ _ (λ s out. record {
  chosen = AllStates;
  right = refl;
  shown = record { ended = out.ended; whole = out.whole ∙ c.in_ok-text.ensures; remarked = out.remarked ∙ c.in_ok-remark.ensures ∙ ap how_to_cut (c.edge_count.ensures ∙ ap edge_count c.deref.ensures.value) };
}) c.drawn.ensures
