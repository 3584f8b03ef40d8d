use Rattle.std.proofs.Common.{◌≡◌, List, ap, subst}
use Rattle.lalrpop_collections.specs.Words.{Visits}
use Rattle.lalrpop_collections.proofs.theory.collections.Walks.{visited_such}
use Rattle.lalrpop_grammar.specs.Words.{Rules, productions, productions_of}
use Rattle.lalrpop_useful.proofs.Types.{Production}
use Rattle.lalrpop_useful.specs.Words.{IsAloneOn}
use Rattle.lalrpop_useful.proofs.cycles.known.next_alone.Goals as goal

pub returns : goal.returns
returns c b =
    let g = productions c.args.grammar.now in
    let qs : List Production = productions_of c.args.grammar.now c.args.name.now in
    let same : c.args.sets.now.productions ≡ g = ap (λ (r : Rules). r.productions) c.requires in
    let of_rules : Visits (IsAloneOn g c.productions_for.result.now) c.new-walk.result c.visit_right_sides.new.walk = subst (λ (rules : List Production). Visits (IsAloneOn rules c.productions_for.result.now) c.new-walk.result c.visit_right_sides.new.walk) same c.in_ok-visit_right_sides.ensures in
    let v : Visits (IsAloneOn g qs) c.new-walk.result c.visit_right_sides.new.walk = subst (λ (ps : List Production). Visits (IsAloneOn g ps) c.new-walk.result c.visit_right_sides.new.walk) c.productions_for.ensures of_rules in
    (visited_such (IsAloneOn g qs) c.new-walk.result c.visit_right_sides.new.walk c.new-walk.ensures.visited c.new-walk.ensures.waiting v b, v.there b)
