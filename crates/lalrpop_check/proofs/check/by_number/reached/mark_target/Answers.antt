use Rattle.std.proofs.Common.{◌<◌, length, arith, refl}
use Rattle.lalrpop_check.proofs.theory.check.NumberedSteps.{Target-marked, Target-none}
use Rattle.lalrpop_check.proofs.check.by_number.reached.mark_target.Goals as goal

pub returns-then-target-len : goal.returns-then-target-len
returns-then-target-len c = Target-none c.args.target c.args.marks.now.items c.args.found.now.items

pub returns-then-index : goal.returns-then-index
returns-then-index c = Target-none c.args.target c.args.marks.now.items c.args.found.now.items

pub returns : goal.returns
returns c =
    let counted = c.len.ensures in
    let small = c.if-target-len.false in
    let within : c.args.target < length c.args.marks.now.items = omega (arith, small, counted) in
    Target-marked c.args.target c.args.marks.now.items c.args.found.now.items _ c.push.new.self.items within refl c.in_ok-push.ensures.items
