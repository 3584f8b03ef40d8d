use Rattle.std.proofs.Common.{◌≡◌, [], List, refl, rules, arith, subst}
use Rattle.std.proofs.lemmas.Grind.{common_steps}
use Rattle.std.proofs.lemmas.List.{nil_from_length}
use Rattle.lalrpop_collections.specs.Words.{Visits}
use Rattle.lalrpop_collections.specs.declared.collections.walk.Walk.{Walk}
use Rattle.lalrpop_collections.proofs.theory.collections.Walks.{All-wait, visited_such}
use Rattle.lalrpop_grammar.specs.Words.{productions_of}
use Rattle.lalrpop_grammar.proofs.theory.grammars.Grammars.{productions_own}
use Rattle.lalrpop_useful.specs.Words.{IsOnRightSide}
use Rattle.lalrpop_useful.proofs.Types.{NonterminalString, Production}
use Rattle.lalrpop_useful.proofs.theory.useful.Reachable.{Reaching-start, Reaching-step, Reaching-smaller, Reaching-end}
use Rattle.lalrpop_useful.proofs.reachable.reachable.Goals as goal

pub loop-name-init : goal.loop-name-init
loop-name-init c =
    let g = c.args.grammar.now in
    let start = c.args.start.now in
    let v = c.in_ok-visit.ensures in
    Reaching-start g start _ (All-wait (λ a. start ≡ a) _ _ c.new-walk.ensures.visited c.new-walk.ensures.waiting v) (visited_such (λ a. start ≡ a) _ _ c.new-walk.ensures.visited c.new-walk.ensures.waiting v) (v.there start refl)

pub loop-name-smaller : goal.loop-name-smaller
loop-name-smaller c =
    let g = c.args.grammar.now in
    let popped : Walk NonterminalString = record { visited = c.loop-name.walk.visited; waiting = c.pop_front.new.self } in
    let v : Visits (IsOnRightSide (productions_of g c.in-Some.name)) popped c.visit_right_sides.new.walk = subst (λ (ps : List Production). Visits (IsOnRightSide ps) popped c.visit_right_sides.new.walk) c.productions_for.ensures c.in_ok-visit_right_sides.ensures in
    Reaching-smaller g c.args.start.now c.requires c.in-Some.name c.loop-name.walk popped c.visit_right_sides.new.walk refl c.in-Some.ensures.items c.loop-name.invariant v

pub loop-name-preserved : goal.loop-name-preserved
loop-name-preserved c =
    let g = c.args.grammar.now in
    let popped : Walk NonterminalString = record { visited = c.loop-name.walk.visited; waiting = c.pop_front.new.self } in
    let v : Visits (IsOnRightSide (productions_of g c.in-Some.name)) popped c.visit_right_sides.new.walk = subst (λ (ps : List Production). Visits (IsOnRightSide ps) popped c.visit_right_sides.new.walk) c.productions_for.ensures c.in_ok-visit_right_sides.ensures in
    Reaching-step g c.args.start.now c.requires c.in-Some.name c.loop-name.walk popped c.visit_right_sides.new.walk refl c.in-Some.ensures.items c.loop-name.invariant v

pub returns : goal.returns
returns c =
    let none : c.loop-name.walk.waiting.items ≡ [] = first_of (search rules, grind (arith, common_steps), grind (arith, common_steps, nil_from_length c.loop-name.walk.waiting.items)) in
    record { reachable = Reaching-end c.args.grammar.now c.args.start.now (productions_own c.args.grammar.now c.requires c.len-names.ensures.ordered) c.loop-name.walk none c.loop-name.invariant }
