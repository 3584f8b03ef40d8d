use Rattle.std.proofs.Common.{◌∙◌, ap, subst, sym}
use Rattle.lalrpop_base.specs.Words.{rules_of, AreItemsBy, AreNumbered, items_by}
use Rattle.lalrpop_construction.proofs.theory.construction.Shifting.{Start-items}
use Rattle.lalrpop_construction.proofs.construction.lr.Lr.start_kernel.Goals as goal

pub returns-clause-known : goal.returns-clause-known
returns-clause-known g c = subst (AreNumbered c.args.numbers.now.items.items) (sym c.new.ensures) c.in_ok-items.ensures.known

pub returns-clause-items : goal.returns-clause-items
returns-clause-items g c =
    let kernel = ap (items_by c.args.numbers.now.items.items) c.new.ensures ∙ c.in_ok-items.ensures.items in
    rw (← c.self.view_is) (subst (AreItemsBy g.L.Lookahead.meaning (rules_of c.self.inside.grammar.now)) (sym kernel) (Start-items g.L.Lookahead.meaning c.self.inside.grammar.now c.self.inside.start c.self.inside.lookahead c.self.invariant.well_formed c.self.invariant.fits))
