use Rattle.std.proofs.Common.{◌≡◌, [], rules, arith}
use Rattle.std.proofs.lemmas.Grind.{common_steps}
use Rattle.std.proofs.lemmas.List.{nil_from_length}
use Rattle.lalrpop_grammar.proofs.theory.grammars.Grammars.{productions_own}
use Rattle.lalrpop_collections.proofs.theory.lists.Members.{contains_head}
use Rattle.lalrpop_check.proofs.theory.check.CheckCarrying.{Carrying-start, Carrying-step, Carrying-smaller, Carrying-end, known_place}
use Rattle.lalrpop_check.proofs.check.carrying.carried.Goals as goal

pub loop-place-init : goal.loop-place-init
loop-place-init c =
    let g = c.args.grammar.now in
    let own = productions_own g c.requires.well_formed c.len-names.ensures.ordered in
    Carrying-start g c.args.start.now c.args.states.now c.requires.well_formed own c.requires.closed c.in_ok-eof.eof _ _ _ _ c.in_ok-eof.ensures c.new-table.ensures.empty c.new-queue.ensures.items c.in_ok-send_productions.ensures

pub send_on-requires-clause-known : goal.send_on-requires-clause-known
send_on-requires-clause-known c =
    let g = c.args.grammar.now in
    let own = productions_own g c.requires.well_formed c.len-names.ensures.ordered in
    let before = rw c.in-Some.ensures.items at c.loop-place.invariant in
    known_place g c.args.start.now c.args.states.now c.requires.well_formed own c.requires.closed _ _ before c.in-Some.place (contains_head c.in-Some.place c.pop_front.new.self.items)

pub loop-place-smaller : goal.loop-place-smaller
loop-place-smaller c =
    let g = c.args.grammar.now in
    let own = productions_own g c.requires.well_formed c.len-names.ensures.ordered in
    let before = rw c.in-Some.ensures.items at c.loop-place.invariant in
    let known = known_place g c.args.start.now c.args.states.now c.requires.well_formed own c.requires.closed _ _ before c.in-Some.place (contains_head c.in-Some.place c.pop_front.new.self.items) in
    rw c.in-Some.ensures.items (Carrying-smaller g c.args.start.now c.args.states.now c.requires.well_formed own c.requires.closed c.in-Some.place _ _ _ _ before known c.in_ok-send_on.ensures)

pub loop-place-preserved : goal.loop-place-preserved
loop-place-preserved c =
    let g = c.args.grammar.now in
    let own = productions_own g c.requires.well_formed c.len-names.ensures.ordered in
    let before = rw c.in-Some.ensures.items at c.loop-place.invariant in
    let known = known_place g c.args.start.now c.args.states.now c.requires.well_formed own c.requires.closed _ _ before c.in-Some.place (contains_head c.in-Some.place c.pop_front.new.self.items) in
    Carrying-step g c.args.start.now c.args.states.now c.requires.well_formed own c.requires.closed c.in-Some.place _ _ _ _ before known c.in_ok-send_on.ensures

pub returns : goal.returns
returns c =
    let g = c.args.grammar.now in
    let own = productions_own g c.requires.well_formed c.len-names.ensures.ordered in
    let none : c.loop-place.queue.items ≡ [] = first_of (search rules, grind (arith, common_steps), grind (arith, common_steps, nil_from_length c.loop-place.queue.items)) in
    Carrying-end g c.args.start.now c.args.states.now c.requires.well_formed own c.requires.closed _ _ none c.loop-place.invariant
