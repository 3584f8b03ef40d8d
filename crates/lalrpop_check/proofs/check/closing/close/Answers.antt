use Rattle.std.proofs.Common.{◌≡◌, [], refl, rules, arith}
use Rattle.std.proofs.lemmas.Grind.{common_steps}
use Rattle.std.proofs.lemmas.List.{nil_from_length}
use Rattle.lalrpop_base.specs.Words.{Dotted}
use Rattle.lalrpop_grammar.proofs.theory.grammars.Grammars.{productions_own}
use Rattle.lalrpop_check.proofs.Types.{Nil}
use Rattle.lalrpop_collections.specs.declared.collections.walk.Walk.{Walk}
use Rattle.lalrpop_check.proofs.theory.check.CheckClosing.{Closing-start, Closing-step, Closing-smaller, Closing-end}
use Rattle.lalrpop_check.proofs.check.closing.close.Goals as goal

pub loop-item-init : goal.loop-item-init
loop-item-init c = Closing-start c.args.grammar.now c.args.walk.visited.keys c.args.walk refl c.requires.waiting

pub loop-item-smaller : goal.loop-item-smaller
loop-item-smaller c =
    let popped : Walk (Dotted Nil) = record { visited = c.loop-item.walk.visited; waiting = c.pop_front.new.self } in
    Closing-smaller c.args.grammar.now c.args.walk.visited.keys c.in-Some.item c.loop-item.walk popped c.visit_expansions.new.walk refl c.in-Some.ensures.items c.loop-item.invariant c.in_ok-visit_expansions.ensures c.requires.well_formed

pub loop-item-preserved : goal.loop-item-preserved
loop-item-preserved c =
    let popped : Walk (Dotted Nil) = record { visited = c.loop-item.walk.visited; waiting = c.pop_front.new.self } in
    Closing-step c.args.grammar.now c.args.walk.visited.keys c.in-Some.item c.loop-item.walk popped c.visit_expansions.new.walk refl c.in-Some.ensures.items c.loop-item.invariant c.in_ok-visit_expansions.ensures c.requires.well_formed

pub returns : goal.returns
returns c =
    let none : c.loop-item.walk.waiting.items ≡ [] = first_of (search rules, grind (arith, common_steps), grind (arith, common_steps, nil_from_length c.loop-item.walk.waiting.items)) in
    Closing-end c.args.grammar.now c.args.walk.visited.keys (productions_own c.args.grammar.now c.requires.well_formed c.len-names.ensures.ordered) c.loop-item.walk none c.loop-item.invariant
