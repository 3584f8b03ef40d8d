use Rattle.std.proofs.Common.{◌≡◌, ◌++◌, ◌∷◌, [], List, rules, arith, subst, sym}
use Rattle.std.proofs.lemmas.Grind.{common_steps}
use Rattle.grammar_diagnostics.specs.declared.cycle.Step.{Step}
use Rattle.grammar_diagnostics.specs.CyclePaths.{AreSteps, HasStepAt}
use Rattle.grammar_diagnostics.proofs.CycleSteps.{step_kept, steps_more}
use Rattle.grammar_diagnostics.proofs.cycle.add_step.Goals as goal

pub returns-clause-steps : goal.returns-clause-steps
returns-clause-steps c =
    let s : Step = record { name = c.args.name; from = c.args.place; depth = c.args.depth } in
    let pushed : c.push.new.self.items ≡ c.args.steps.now.items ++ s ∷ [] = first_of (search rules, grind (arith, common_steps)) in
    let P : List Step → Type 0 = AreSteps c.args.grammar.now c.args.first.now in
    subst P (sym pushed) (steps_more c.args.grammar.now c.args.first.now c.args.steps.now.items c.args.parent.now s c.requires.steps c.requires.parent c.requires.leads)

pub returns-clause-parent : goal.returns-clause-parent
returns-clause-parent c =
    let s : Step = record { name = c.args.name; from = c.args.place; depth = c.args.depth } in
    let pushed : c.push.new.self.items ≡ c.args.steps.now.items ++ s ∷ [] = first_of (search rules, grind (arith, common_steps)) in
    subst (λ (steps : List Step). HasStepAt steps c.args.place c.args.parent.now) (sym pushed) (step_kept c.args.steps.now.items s c.args.place c.args.parent.now c.requires.parent)
