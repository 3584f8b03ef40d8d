use Rattle.lalrpop_check.proofs.check.states.is_right_state.Goals as goal

pub returns-then-not-branch : goal.returns-then-not-branch
returns-then-not-branch c = (λ h. cc, λ right. let yes = c.in_ok-is_right_first.ensures.1 right.first in cc)

pub returns-then-not-branch-2 : goal.returns-then-not-branch-2
returns-then-not-branch-2 c = (λ h. cc, λ right. let yes = c.in_ok-is_right_target.ensures.1 (rw c.deref.ensures.value right.target) in cc)

pub returns-then-not-branch-3 : goal.returns-then-not-branch-3
returns-then-not-branch-3 c = (λ h. cc, λ right. let yes = c.in_ok-has_right_actions.ensures.1 (right.items, right.once) in cc)

pub returns : goal.returns
returns c = (
  λ h. record {
    first = c.in_ok-is_right_first.ensures.0 c.if-not-branch.false;
    target = rw (← c.deref.ensures.value) (c.in_ok-is_right_target.ensures.0 c.if-not-branch-2.false);
    items = (c.in_ok-has_right_actions.ensures.0 c.if-not-branch-3.false).0;
    once = (c.in_ok-has_right_actions.ensures.0 c.if-not-branch-3.false).1;
    free = c.in_ok-free.ensures.0 h;
  },
  λ right. c.in_ok-free.ensures.1 right.free,
)
