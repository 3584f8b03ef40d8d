use Rattle.std.proofs.Common.{◌≡◌, ◌∷◌, [], ap, rules, arith}
use Rattle.std.proofs.lemmas.Grind.{common_steps}
use Rattle.grammar_diagnostics.specs.CyclePaths.{names_now}
use Rattle.grammar_diagnostics.proofs.CycleSteps.{from_before, from_within, path_end, path_more, path_start, path_within}
use Rattle.grammar_diagnostics.proofs.cycle.path_to.Goals as goal

pub loop-at-init : goal.loop-at-init
loop-at-init c =
    let whole : c.push_front-2.new.self.items ≡ c.args.name ∷ c.args.first ∷ [] = first_of (search rules, grind (arith, common_steps)) in
    path_start c.args.grammar.now c.args.first.now c.args.steps.now c.args.place c.args.name.now _ c.requires.last c.requires.leads (ap names_now whole)

pub step_at-step-requires : goal.step_at-step-requires
step_at-step-requires c = path_within c.args.grammar.now c.args.first.now c.args.steps.now c.loop-at.at _ c.loop-at.invariant

pub step_at-before-requires : goal.step_at-before-requires
step_at-before-requires c = from_within c.args.grammar.now c.args.first.now c.args.steps.now c.loop-at.at c.step_at-step.result c.requires.steps c.step_at-step.ensures c.loop-at-test.true

pub loop-at-preserved : goal.loop-at-preserved
loop-at-preserved c =
    let pushed : c.push_front-in-loop-at.new.self.items ≡ c.step_at-before.result.name ∷ c.loop-at.path.items = first_of (search rules, grind (arith, common_steps)) in
    path_more c.args.grammar.now c.args.first.now c.args.steps.now c.loop-at.at c.step_at-step.result c.step_at-before.result (names_now c.loop-at.path.items) _ c.requires.steps c.step_at-step.ensures c.step_at-before.ensures c.loop-at-test.true c.loop-at.invariant (ap names_now pushed)

pub loop-at-smaller : goal.loop-at-smaller
loop-at-smaller c = from_before c.args.grammar.now c.args.first.now c.args.steps.now c.loop-at.at c.step_at-step.result c.requires.steps c.step_at-step.ensures c.loop-at-test.true

pub returns : goal.returns
returns c = path_end c.args.grammar.now c.args.first.now c.args.steps.now c.loop-at.at _ c.requires.steps (λ h. omega (arith, h, c.loop-at-test.false)) c.loop-at.invariant
