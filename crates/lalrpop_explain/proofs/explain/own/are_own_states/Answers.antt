use Rattle.lalrpop_explain.proofs.theory.explained.OwnErrors.{items_of_own, own_of_items}
use Rattle.lalrpop_explain.proofs.explain.own.are_own_states.Goals as goal

pub returns : goal.returns
returns c =
    let g = c.args.grammar.now in
    let states = c.args.states.now in
    record { own = (λ yes. own_of_items g states c.requires (c.have_own_items.ensures.own.0 yes), λ own. c.have_own_items.ensures.own.1 (items_of_own g states own)) }
