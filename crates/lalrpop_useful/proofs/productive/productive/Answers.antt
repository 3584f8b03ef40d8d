use Rattle.std.proofs.Common.{◌≡◌, [], List, refl, rules, arith, ap, ◌∙◌, map}
use Rattle.std.specs.Borrow.{Bor}
use Rattle.std.proofs.lemmas.Grind.{common_steps}
use Rattle.std.proofs.lemmas.List.{nil_from_length}
use Rattle.lalrpop_collections.specs.declared.collections.walk.Walk.{Walk}
use Rattle.lalrpop_grammar.specs.Words.{productions}
use Rattle.lalrpop_grammar.proofs.theory.grammars.Grammars.{productions_among, productions_own}
use Rattle.lalrpop_useful.proofs.Types.{NonterminalString, Production}
use Rattle.lalrpop_useful.proofs.theory.useful.Productive.{Growing-start, Growing-step, Growing-smaller, Growing-end}
use Rattle.lalrpop_useful.proofs.productive.productive.Goals as goal

abbrev seen : List (Bor Production) → List Production
seen ps = map (λ (p : Bor Production). p.now) ps

pub loop-name-init : goal.loop-name-init
loop-name-init c = Growing-start (productions c.args.grammar.now) _ _ _ (ap seen c.deref-2.ensures.value ∙ c.in_ok-all.ensures) c.new-walk.ensures.visited c.new-walk.ensures.waiting c.in_ok-try_all.ensures

pub loop-name-smaller : goal.loop-name-smaller
loop-name-smaller c =
    let g = c.args.grammar.now in
    let popped : Walk NonterminalString = record { visited = c.loop-name.walk.visited; waiting = c.pop_front.new.self } in
    Growing-smaller g c.in_ok-users.users _ (ap seen c.deref.ensures.value ∙ c.in_ok-all.ensures) c.in_ok-users.ensures (productions_own g c.requires c.len-names.ensures.ordered) (productions_among g) c.in-Some.name c.loop-name.walk popped c.try_users.new.walk refl c.in-Some.ensures.items c.loop-name.invariant c.in_ok-try_users.ensures

pub loop-name-preserved : goal.loop-name-preserved
loop-name-preserved c =
    let g = c.args.grammar.now in
    let popped : Walk NonterminalString = record { visited = c.loop-name.walk.visited; waiting = c.pop_front.new.self } in
    Growing-step g c.in_ok-users.users _ (ap seen c.deref.ensures.value ∙ c.in_ok-all.ensures) c.in_ok-users.ensures (productions_own g c.requires c.len-names.ensures.ordered) (productions_among g) c.in-Some.name c.loop-name.walk popped c.try_users.new.walk refl c.in-Some.ensures.items c.loop-name.invariant c.in_ok-try_users.ensures

pub returns : goal.returns
returns c =
    let none : c.loop-name.walk.waiting.items ≡ [] = first_of (search rules, grind (arith, common_steps), grind (arith, common_steps, nil_from_length c.loop-name.walk.waiting.items)) in
    record { productive = Growing-end (productions c.args.grammar.now) c.loop-name.walk none c.loop-name.invariant }
