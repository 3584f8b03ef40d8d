use Rattle.std.proofs.Common.{◌≡◌, true, length, sym, ◌∙◌, ap, subst, List}
use Rattle.std.specs.Prelude.{IfErr}
use Rattle.lalrpop_inline.proofs.Types.{Symbol}
use Rattle.lalrpop_inline.specs.Words.{mentions, choices, Made, IsPastLast}
use Rattle.lalrpop_inline.proofs.theory.inlining.InlineSteps.{replaced_by_choices}
use Rattle.lalrpop_inline.proofs.inline.replace.replace.Goals as goal

pub returns-in_ok-all-clause-err : goal.returns-in_ok-all-clause-err
returns-in_ok-all-clause-err c =
    let b = c.args.name.now in
    let alternatives = c.args.alternatives.now in
    let p = c.args.production in
    let mentioned : mentions b p.symbols ≡ true = ap (λ (l : List Symbol). mentions b l) (sym c.as_slice.ensures) ∙ sym c.mentions.ensures ∙ c.if-mentions.true in
    let all : c.in_ok-all.all.items ≡ choices b alternatives p.symbols = c.in_ok-all.ensures ∙ ap (λ (l : List Symbol). choices b alternatives l) c.as_slice-then-mentions.ensures in
    let P : Made → Type 0 = λ m. IfErr c.add_choices.result (λ e. IsPastLast (length m.defns) e) in
    subst P (replaced_by_choices b alternatives p c.in_ok-all.all.items c.args.defns.now.items mentioned all) c.add_choices.ensures.err
