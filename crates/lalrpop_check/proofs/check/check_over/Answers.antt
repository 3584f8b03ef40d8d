use Rattle.std.proofs.Common.{◌∙◌, refl}
use Rattle.lalrpop_check.proofs.theory.check.CheckTables.{Right-closed}
use Rattle.lalrpop_check.proofs.theory.check.CheckAll.{Pass-all, All-right, Checked, Faithful}
use Rattle.lalrpop_check.proofs.check.check_over.Goals as goal

pub returns-then-branch-clause-exact : goal.returns-then-branch-clause-exact
returns-then-branch-clause-exact c = (λ h. c.in_ok-pass_by_number.ensures c.if-branch.true, λ pass. refl)

pub returns-then-branch-clause-checked : goal.returns-then-branch-clause-checked
returns-then-branch-clause-checked c = λ h. Checked c.args.grammar.now c.args.start c.args.states.now (c.in_ok-pass_by_number.ensures c.if-branch.true)

pub returns-then-branch-clause-faithful : goal.returns-then-branch-clause-faithful
returns-then-branch-clause-faithful c = λ h. Faithful c.args.grammar.now c.args.start c.args.states.now (c.in_ok-pass_by_number.ensures c.if-branch.true)

pub are_right_states-requires-clause-counted : goal.are_right_states-requires-clause-counted
are_right_states-requires-clause-counted c = rw c.deref.ensures.value c.in_ok-listed.ensures.counted

pub hold_carried-requires-clause-firsts : goal.hold_carried-requires-clause-firsts
hold_carried-requires-clause-firsts c = c.first_sets.ensures ∙ c.requires.rules

pub hold_carried-requires-clause-closed : goal.hold_carried-requires-clause-closed
hold_carried-requires-clause-closed c =
    let right = rw c.deref.ensures.value at (c.in_ok-are_right_states.ensures.0 c.if-not-branch.false) in
    Right-closed c.args.grammar.now c.args.start c.args.states.now c.requires.coherent _ c.in_ok-listed.ensures _ c.in_ok-targets.ensures right c.requires.some

pub returns-then-not-branch-clause-exact : goal.returns-then-not-branch-clause-exact
returns-then-not-branch-clause-exact c = (
  λ h. cc,
  λ pass.
      let right = All-right c.args.grammar.now c.args.start c.args.states.now c.requires.coherent _ c.in_ok-listed.ensures _ c.in_ok-targets.ensures pass in
      let yes = c.in_ok-are_right_states.ensures.1 (rw c.deref.ensures.value right) in
      cc,
)

pub returns-clause-exact : goal.returns-clause-exact
returns-clause-exact c =
    let right = rw c.deref.ensures.value at (c.in_ok-are_right_states.ensures.0 c.if-not-branch.false) in (
      λ h. Pass-all c.args.grammar.now c.args.start c.args.states.now c.requires.coherent _ c.in_ok-listed.ensures _ c.in_ok-targets.ensures c.requires.some right (c.in_ok-held.ensures.0 h),
      λ pass. c.in_ok-held.ensures.1 pass.carried,
    )

pub returns-clause-checked : goal.returns-clause-checked
returns-clause-checked c =
    let right = rw c.deref.ensures.value at (c.in_ok-are_right_states.ensures.0 c.if-not-branch.false) in
    λ h. Checked c.args.grammar.now c.args.start c.args.states.now (Pass-all c.args.grammar.now c.args.start c.args.states.now c.requires.coherent _ c.in_ok-listed.ensures _ c.in_ok-targets.ensures c.requires.some right (c.in_ok-held.ensures.0 h))

pub returns-clause-faithful : goal.returns-clause-faithful
returns-clause-faithful c =
    let right = rw c.deref.ensures.value at (c.in_ok-are_right_states.ensures.0 c.if-not-branch.false) in
    λ h. Faithful c.args.grammar.now c.args.start c.args.states.now (Pass-all c.args.grammar.now c.args.start c.args.states.now c.requires.coherent _ c.in_ok-listed.ensures _ c.in_ok-targets.ensures c.requires.some right (c.in_ok-held.ensures.0 h))
