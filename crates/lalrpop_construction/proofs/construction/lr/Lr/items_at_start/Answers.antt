use Rattle.std.proofs.lemmas.Result.{IfOk-weaker}
use Rattle.lalrpop_construction.proofs.theory.closures.EpsilonMoves.{Begun-all}
use Rattle.lalrpop_construction.proofs.construction.lr.Lr.items_at_start.Goals as goal

pub returns : goal.returns
returns g c =
    rw (← c.self.view_is) (IfOk-weaker c.items_at_start.result _ _ (λ items e. Begun-all c.self.inside.grammar.now c.self.invariant.well_formed c.self.invariant.own c.args.nonterminal.now c.args.lookahead.now items.items e) c.items_at_start.ensures)
