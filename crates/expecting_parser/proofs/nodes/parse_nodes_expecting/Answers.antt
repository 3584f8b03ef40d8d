use Rattle.std.proofs.Common.{List, subst, sym}
use Rattle.lalrpop_base.specs.Words.{beside, no_trees}
use Rattle.lalrpop_parser.proofs.theory.runs.MachineRuns.{raised}
use Rattle.parse_nodes.specs.Nodes.{AreNodes}
use Rattle.parse_nodes.specs.declared.node.ParseNode.{ParseNode}
use Rattle.parse_nodes.proofs.Builds.{parse_builds}
use Rattle.expecting_parser.proofs.Reported.{if_refused_with}
use Rattle.expecting_parser.proofs.nodes.parse_nodes_expecting.Goals as goal

pub returns-in_err-parse_expecting-clause-refused : goal.returns-in_err-parse_expecting-clause-refused
returns-in_err-parse_expecting-clause-refused g c =
    raised _ c.in_err-parse_expecting.field-0.0
    (if_refused_with (λ refusal expected is. (c.new-builder.result, c.parse_expecting.new.handler, c.new-builder.ensures, is)) c.in_err-parse_expecting.field-0.0 c.in_err-parse_expecting.ensures.refused)
    c.from_residual.result c.from_residual.ensures.1

pub returns-clause-built : goal.returns-clause-built
returns-clause-built g c =
    let table = c.args.table.now in
    let p = c.in_ok-parse_expecting.ensures.parsed in
    record {
      bits = p.bits;
      drained = p.drained;
      list = p.list;
      named = p.named;
      built = λ states is.
          let q = p.parsed states is in
          let nodes = parse_builds table.terminals table.productions states p.list q.run.steps q.last c.new-builder.result q.before c.new-builder.ensures q.run.handled q.tree c.parse_expecting.new.handler q.final in (
            q.tree,
            q.outcome,
            subst (λ (ns : List ParseNode). AreNodes table.terminals table.productions ns 0 (beside q.tree no_trees)) (sym c.into_nodes.ensures) nodes,
            q.parse,
          );
    }
