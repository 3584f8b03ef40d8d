use Rattle.std.proofs.Common.{◌≡◌, ◌+◌, ◌∙◌, length, arith}
use Rattle.lalrpop_grammar.proofs.theory.first.FirstGraphs.{Graph-none}
use Rattle.lalrpop_grammar.proofs.first.graph.empty_graph.Goals as goal

pub returns : goal.returns
returns c =
    let all : c.loop-name._name ≡ length c.args.names.now + 1 = let past = c.loop-name-test.false in let most = c.loop-name.auto._name-end in let count = c.count-count.ensures in omega arith in
    Graph-none _ _ _ (record { sets = c.loop-name.invariant.sets ∙ all; edges = c.loop-name.invariant.edges ∙ all; flags = c.loop-name.invariant.flags ∙ all }) c.loop-name.invariant.none c.loop-name.invariant.empty c.loop-name.invariant.never
