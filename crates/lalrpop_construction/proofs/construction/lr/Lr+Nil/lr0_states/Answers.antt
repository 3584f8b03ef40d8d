use Rattle.std.proofs.Common.{ap, subst, sym}
use Rattle.lalrpop_construction.proofs.Types.{Nil}
use Rattle.lalrpop_construction.specs.Words.{AreStatesFor, Construction, Settings}
use Rattle.lalrpop_construction.proofs.theory.canonical.Lr0States.{nothing, never, stopped, Lists, States-lr0}
use Rattle.lalrpop_construction.proofs.construction.lr.Lr+Nil.lr0_states.Goals as goal

pub returns-clause-states : goal.returns-clause-states
returns-clause-states c =
    let states = c.in_ok-states.states.items in
    let same = sym (ap (λ (s : Settings Nil). s.construction) c.self.view_is) in
    rw (← c.self.view_is) (States-lr0 c.self.inside.grammar.now c.self.inside.start c.self.inside.lookahead c.self.invariant.well_formed c.self.invariant.own states (subst (λ (k : Construction Nil). AreStatesFor nothing never stopped Lists k states) same c.in_ok-states.ensures.states))
