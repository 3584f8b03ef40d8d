use Rattle.std.proofs.Common.{List, ap, sym, ◌∙◌}
use Rattle.std.specs.Prelude.{find}
use Rattle.lalrpop_grammar.specs.Words.{productions}
use Rattle.lalrpop_grammar.specs.declared.repr.Production.{Production}
use Rattle.grammar_diagnostics.specs.Warnings.{has_use}
use Rattle.grammar_diagnostics.proofs.Uses.{use_here, use_later}
use Rattle.grammar_diagnostics.proofs.tests.first_use.Goals as goal

pub loop-name-preserved : goal.loop-name-preserved
loop-name-preserved c =
    let a = c.args.name.now in
    use_later a (c.in-Some._name.now, c.in-Some.entry.now) _ _ (productions c.args.grammar.now) c.in-Some.ensures.steps c.loop-name.invariant
    (ap (λ (ps : List Production). find (has_use a) ps) (sym c.deref.ensures.value) ∙ sym c.in-None-first_of.ensures)

pub returns-in-Some-first_of : goal.returns-in-Some-first_of
returns-in-Some-first_of c =
    let a = c.args.name.now in
    use_here a (c.in-Some._name.now, c.in-Some.entry.now) _ _ (productions c.args.grammar.now) c.in-Some.ensures.steps c.loop-name.invariant c.in-Some-first_of.production.now
    (ap (λ (ps : List Production). find (has_use a) ps) (sym c.deref.ensures.value) ∙ sym c.in-Some-first_of.ensures)
