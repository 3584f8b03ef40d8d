use Rattle.std.proofs.Common.{◌≡◌, ◌∙◌, sym, true, false}
use Rattle.std.proofs.lemmas.Result.{IfOk-weaker}
use Rattle.lalrpop_tables.specs.Words.{Collapses}
use Rattle.lalrpop_tables.proofs.theory.answers.Lr1Answers.{Tables-where}
use Rattle.lalrpop_tables.proofs.lr1.build_unnumbered_states.Goals as goal

pub returns-clause-tables : goal.returns-clause-tables
returns-clause-tables c =
    let g = c.args.grammar.now in
    let options = c.args.options.now in
    IfOk-weaker c.build_lr1_states.result _ _ (λ tables t. Tables-where g c.args.start tables.items ⊥ (Collapses g options) options.method (λ x. absurd x) (λ x. let e : false ≡ true = sym c.if-grammar.false ∙ x.asked in cc) t) c.build_lr1_states.ensures.tables
