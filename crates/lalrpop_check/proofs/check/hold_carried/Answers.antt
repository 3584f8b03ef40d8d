use Rattle.lalrpop_check.proofs.theory.check.CheckCarried.{Carried-held, Held-carried}
use Rattle.lalrpop_check.proofs.check.hold_carried.Goals as goal

pub returns : goal.returns
returns c =
    let g = c.args.grammar.now in
    let are = c.in_ok-table.ensures in (
      λ h. Carried-held g c.args.start.now c.args.states.now c.requires.closed _ are (c.in_ok-held.ensures.0 h),
      λ h. c.in_ok-held.ensures.1 (Held-carried g c.args.start.now c.args.states.now c.requires.closed _ are c.all-terminals.ensures.distinct h),
    )
