use Rattle.std.proofs.Common.{List, reverse, ap, subst, sym, ◌∙◌}
use Rattle.lalrpop_base.specs.Words.{Tree, beside, no_trees, trees_of}
use Rattle.lalrpop_parser.proofs.theory.runs.MachineRuns.{raised}
use Rattle.parse_nodes.specs.Nodes.{AreNodes}
use Rattle.parse_nodes.specs.declared.builder.NodeBuilder.{NodeBuilder}
use Rattle.parse_nodes.specs.declared.node.ParseNode.{ParseNode}
use Rattle.parse_nodes.proofs.Builds.{steps_build}
use Rattle.any_start_parser.specs.Augmented.{IsOnlyOf}
use Rattle.any_start_parser.proofs.Parses.{if_refused_then}
use Rattle.any_start_parser.proofs.nodes.parse_nodes_from_any.Goals as goal

pub returns-in_err-parse_events_from_any-clause-refused : goal.returns-in_err-parse_events_from_any-clause-refused
returns-in_err-parse_events_from_any-clause-refused g c =
    let empty = ap (λ (b : NodeBuilder). b.nodes.items) c.new-below.ensures.handler ∙ c.new-builder.ensures in
    raised _ c.in_err-parse_events_from_any.field-0.0
    (if_refused_then (λ refusal is. (c.new-below.result, c.parse_events_from_any.new.below, empty, c.new-below.ensures.production, is)) c.in_err-parse_events_from_any.field-0.0 c.in_err-parse_events_from_any.ensures.refused)
    c.from_residual.result c.from_residual.ensures.1

pub returns-clause-built : goal.returns-clause-built
returns-clause-built g c =
    let table = c.args.table.now in
    let u = c.new-below.result in
    let v = c.parse_events_from_any.new.below in
    let empty = ap (λ (b : NodeBuilder). b.nodes.items) c.new-below.ensures.handler ∙ c.new-builder.ensures in
    let listed = c.into_nodes.ensures ∙ ap (λ (b : NodeBuilder). b.nodes.items) c.into_handler.ensures in
    let p = c.in_ok-parse_events_from_any.ensures.parsed in
    record {
      bits = p.run.bits;
      drained = p.run.drained;
      list = p.run.list;
      named = p.run.named;
      built = λ states is old new start f aug faithful only.
          let own = subst (λ n. IsOnlyOf table.productions f n) (sym c.new-below.ensures.production) only in
          let q = p.old states is old new start f aug faithful own in
          let row = steps_build table.terminals table.productions states p.run.list q.run.steps q.last u.handler v.handler empty q.run.handled in
          let one = subst (λ (ts : List Tree). AreNodes table.terminals table.productions v.handler.nodes.items 0 (trees_of (reverse ts))) q.alone row in (
            q.tree,
            subst (λ (ns : List ParseNode). AreNodes table.terminals table.productions ns 0 (beside q.tree no_trees)) (sym listed) one,
            q.parse,
          );
    }
