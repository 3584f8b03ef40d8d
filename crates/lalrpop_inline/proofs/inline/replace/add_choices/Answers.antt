use Rattle.std.proofs.Common.{rules, ◌≡◌, ◌∷◌, arith}
use Rattle.std.proofs.lemmas.Grind.{common_steps}
use Rattle.lalrpop_inline.proofs.theory.inlining.InlineSteps.{choice_past}
use Rattle.lalrpop_inline.proofs.inline.replace.add_choices.Goals as goal

pub returns-in_err-add_choice-clause-err : goal.returns-in_err-add_choice-clause-err
returns-in_err-add_choice-clause-err c =
    let next : c.loop-parts.parts-iterator.rest.items ≡ c.in-Some.parts ∷ c.next.new.self.rest.items = grind (arith, common_steps) in
    let past = choice_past c.args.outer.now c.in-Some.parts c.next.new.self.rest.items c.loop-parts.parts-iterator.rest.items c.loop-parts.made.items c.loop-parts.defns.items _ c.in_err-add_choice.field-0.0 next c.loop-parts.invariant c.in_err-add_choice.ensures.err in
    search (rules, past)
