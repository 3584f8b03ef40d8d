use Rattle.std.proofs.Common.{rules, ◌≡◌, ◌∷◌, arith}
use Rattle.std.proofs.lemmas.Grind.{common_steps}
use Rattle.lalrpop_inline.proofs.theory.inlining.InlineSteps.{production_past}
use Rattle.lalrpop_inline.proofs.inline.replace.replace_all.Goals as goal

pub returns-in_err-replace-clause-err : goal.returns-in_err-replace-clause-err
returns-in_err-replace-clause-err c =
    let next : c.loop-production.production-iterator.rest.items ≡ c.in-Some.production ∷ c.next.new.self.rest.items = grind (arith, common_steps) in
    let past = production_past c.args.name.now c.args.alternatives.now c.in-Some.production c.next.new.self.rest.items c.loop-production.production-iterator.rest.items c.loop-production.made.items c.loop-production.defns.items _ c.in_err-replace.field-0.0 next c.loop-production.invariant c.in_err-replace.ensures.err in
    search (rules, past)
