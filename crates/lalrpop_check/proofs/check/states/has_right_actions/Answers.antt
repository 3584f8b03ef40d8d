use Rattle.lalrpop_check.proofs.check.states.has_right_actions.Goals as goal

pub returns-in_default : goal.returns-in_default
returns-in_default c =
    let twice = rw (c.in_default.is, c.deref.ensures.value) at c.in_ok-reductions.ensures in
    (λ h. cc, λ right. absurd (twice right.1))

pub are_right_items-requires : goal.are_right_items-requires
are_right_items-requires c = (rw (c.in-Some.is, c.deref.ensures.value) at c.in_ok-reductions.ensures).1

pub returns : goal.returns
returns c =
    let once = (rw (c.in-Some.is, c.deref.ensures.value) at c.in_ok-reductions.ensures).0 in
    (λ h. (c.are_right_items.ensures.0 h, once), λ right. c.are_right_items.ensures.1 right.0)
