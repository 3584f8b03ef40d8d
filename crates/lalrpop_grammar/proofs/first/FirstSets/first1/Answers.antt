use Rattle.std.proofs.Common.{◌≡◌, sym, ◌∙◌, ap}
use Rattle.lalrpop_grammar.specs.Words.{Rules}
use Rattle.lalrpop_grammar.proofs.theory.first.FirstMeaning.{Before-nullable, Before-otherwise, Before-fits}
use Rattle.lalrpop_grammar.proofs.first.FirstSets.first1.Goals as goal
use Rattle.lalrpop_grammar.proofs.first.FirstSets.first1.Goals.{then-take_eof+in_ok-union_with, else-take_eof}

pub returns-clause-first : goal.returns-clause-first
returns-clause-first c =
    let terminals : c.self.inside.grammar.now.terminals ≡ c.args.self.now.terminals = ap (λ (g : Rules). g.terminals) c.self.view_is in
    let was = rw terminals at c.take_eof.ensures.was in
    let left = rw terminals at c.take_eof.ensures.left in
    elim c.if-take_eof.branch [
      | then-take_eof+in_ok-union_with w ↦ rw w.set-is (Before-nullable _ _ _ _ _ _ c.in_ok-set.ensures.first (sym was ∙ w.if-take_eof.true) left w.in_ok-union_with.ensures.joined)
      | else-take_eof w ↦ rw w.set-is (Before-otherwise _ _ _ _ _ c.in_ok-set.ensures.first (sym was ∙ w.if-take_eof.false) left)
    ]

pub returns-clause-fits : goal.returns-clause-fits
returns-clause-fits c = Before-fits _ _ _ _ (returns-clause-first c)
