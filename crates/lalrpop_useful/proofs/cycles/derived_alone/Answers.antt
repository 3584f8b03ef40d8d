use Rattle.std.proofs.Common.{◌≡◌, [], List, refl, rules, arith, ap, subst}
use Rattle.std.proofs.lemmas.Grind.{common_steps}
use Rattle.std.proofs.lemmas.List.{nil_from_length}
use Rattle.lalrpop_collections.specs.Words.{Visits}
use Rattle.lalrpop_collections.specs.declared.collections.walk.Walk.{Walk}
use Rattle.lalrpop_grammar.specs.Words.{Rules, productions, productions_of}
use Rattle.lalrpop_grammar.proofs.theory.grammars.Grammars.{productions_own}
use Rattle.lalrpop_useful.proofs.Types.{NonterminalString, Production}
use Rattle.lalrpop_useful.specs.Words.{IsAloneOn}
use Rattle.lalrpop_useful.proofs.theory.useful.Reachable.{Names}
use Rattle.lalrpop_useful.proofs.theory.useful.Cycles.{Deriving-start, Deriving-step, Deriving-smaller, Deriving-end}
use Rattle.lalrpop_useful.proofs.cycles.derived_alone.Goals as goal

-- of the rules of the grammar, and of the productions of a name
of_rules : (rules : Rules) (g ps qs : List Production) (a b : Names) → rules.productions ≡ g → ps ≡ qs → Visits (IsAloneOn rules.productions ps) a b → Visits (IsAloneOn g qs) a b
of_rules rules g ps qs a b e f v = subst (λ (rs : List Production). Visits (IsAloneOn g rs) a b) f (subst (λ (h : List Production). Visits (IsAloneOn h ps) a b) e v)

pub loop-next-init : goal.loop-next-init
loop-next-init c =
    let g = c.args.grammar.now in
    let same : c.args.sets.now.productions ≡ productions g = ap (λ (r : Rules). r.productions) c.requires.sets in
    Deriving-start g c.args.name.now c.requires.well_formed _ _ c.new-walk.ensures.visited c.new-walk.ensures.waiting
    (of_rules c.args.sets.now (productions g) _ (productions_of g c.args.name.now) _ _ same c.productions_for.ensures c.in_ok-visit_right_sides.ensures)

pub loop-next-smaller : goal.loop-next-smaller
loop-next-smaller c =
    let g = c.args.grammar.now in
    let same : c.args.sets.now.productions ≡ productions g = ap (λ (r : Rules). r.productions) c.requires.sets in
    let popped : Walk NonterminalString = record { visited = c.loop-next.walk.visited; waiting = c.pop_front.new.self } in
    Deriving-smaller g c.args.name.now c.requires.well_formed c.in-Some.next c.loop-next.walk popped c.visit_right_sides-in-Some.new.walk refl c.in-Some.ensures.items c.loop-next.invariant
    (of_rules c.args.sets.now (productions g) _ (productions_of g c.in-Some.next) _ _ same c.productions_for-in-Some.ensures c.in_ok-visit_right_sides-2.ensures)

pub loop-next-preserved : goal.loop-next-preserved
loop-next-preserved c =
    let g = c.args.grammar.now in
    let same : c.args.sets.now.productions ≡ productions g = ap (λ (r : Rules). r.productions) c.requires.sets in
    let popped : Walk NonterminalString = record { visited = c.loop-next.walk.visited; waiting = c.pop_front.new.self } in
    Deriving-step g c.args.name.now c.requires.well_formed c.in-Some.next c.loop-next.walk popped c.visit_right_sides-in-Some.new.walk refl c.in-Some.ensures.items c.loop-next.invariant
    (of_rules c.args.sets.now (productions g) _ (productions_of g c.in-Some.next) _ _ same c.productions_for-in-Some.ensures c.in_ok-visit_right_sides-2.ensures)

pub returns : goal.returns
returns c =
    let none : c.loop-next.walk.waiting.items ≡ [] = first_of (search rules, grind (arith, common_steps), grind (arith, common_steps, nil_from_length c.loop-next.walk.waiting.items)) in
    Deriving-end c.args.grammar.now c.args.name.now (productions_own c.args.grammar.now c.requires.well_formed c.len-names.ensures.ordered) c.loop-next.walk none c.loop-next.invariant
