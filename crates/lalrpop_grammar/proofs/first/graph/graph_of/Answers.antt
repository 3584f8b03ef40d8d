use Rattle.std.proofs.Common.{◌≡◌, ◌++◌, ◌+◌, [], ◌∷◌, sym, ap, subst, ◌∙◌, take}
use Rattle.std.specs.Prelude.{Contains}
use Rattle.std.proofs.lemmas.List.{take_more}
use Rattle.std.proofs.lemmas.List.Elements.{Contains-get_or}
use Rattle.lalrpop_grammar.specs.Words.{Rest}
use Rattle.lalrpop_grammar.proofs.theory.first.FirstGraphs.{Graph-more}
use Rattle.lalrpop_grammar.proofs.first.graph.graph_of.Goals as goal

pub add_rest-requires-clause-within : goal.add_rest-requires-clause-within
add_rest-requires-clause-within c = c.requires c.rest-item.result.0 c.rest-item.result.1 (subst (λ (r : Rest). Contains c.args.rests.now r) (sym c.rest-item.is) (Contains-get_or c.args.rests.now c.loop-rest.rest-index c.rest-item.result c.loop-rest-test.true))

pub add_rest-requires-clause-sized : goal.add_rest-requires-clause-sized
add_rest-requires-clause-sized c = c.loop-rest.invariant.sized

pub loop-rest-preserved : goal.loop-rest-preserved
loop-rest-preserved c =
    let more : take (c.loop-rest.rest-index + 1) c.args.rests.now ≡ take c.loop-rest.rest-index c.args.rests.now ++ c.rest-item.result ∷ [] = take_more c.args.rests.now c.loop-rest.rest-index c.rest-item.result c.loop-rest-test.true ∙ ap (λ (x : Rest). take c.loop-rest.rest-index c.args.rests.now ++ x ∷ []) (sym c.rest-item.is) in
    rw more (Graph-more _ _ _ _ _ _ c.loop-rest.invariant c.in_ok-add_rest.ensures)
