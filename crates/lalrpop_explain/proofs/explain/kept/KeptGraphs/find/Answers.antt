use Rattle.std.proofs.Common.{◌<◌, length, sym, arith}
use Rattle.lalrpop_explain.proofs.theory.explained.KeptGraphs.{kept_among, kept_for, no_path_for}
use Rattle.lalrpop_explain.proofs.explain.kept.KeptGraphs.find.Goals as goal

pub returns-then-is_kept_for-clause-found : goal.returns-then-is_kept_for-clause-found
returns-then-is_kept_for-clause-found c = λ g states kept.
    let graphs = c.args.self.now.graphs in
    let less : c.in_ok-place.field-0.now < length graphs.items = omega (arith, c.if-place-len.false, c.len.ensures, graphs.ok) in
    let holds = c.if-is_kept_for.true in
    let is = kept_among g states c.args.self.now c.index-kept.result.now (c.in_ok-place.field-0.now, less, sym c.index-kept.ensures) kept in
    kept_for g states c.index-kept.result.now c.args.state c.args.item.now (c.is_kept_for.ensures.state holds) (c.is_kept_for.ensures.production holds) (c.is_kept_for.ensures.index holds) is

pub returns-then-is_kept_for-clause-paths : goal.returns-then-is_kept_for-clause-paths
returns-then-is_kept_for-clause-paths c = λ g states kept none.
    let graphs = c.args.self.now.graphs in
    let less : c.in_ok-place.field-0.now < length graphs.items = omega (arith, c.if-place-len.false, c.len.ensures, graphs.ok) in
    let holds = c.if-is_kept_for.true in
    let is = kept_among g states c.args.self.now c.index-kept.result.now (c.in_ok-place.field-0.now, less, sym c.index-kept.ensures) kept in
    no_path_for g states c.index-kept.result.now c.args.item.now (c.is_kept_for.ensures.production holds) (c.is_kept_for.ensures.index holds) is none
