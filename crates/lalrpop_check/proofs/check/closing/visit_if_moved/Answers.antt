use Rattle.std.proofs.Common.{◌≡◌, ◌<◌, ap, arith}
use Rattle.lalrpop_base.specs.Words.{Bits, Dotted}
use Rattle.lalrpop_check.proofs.theory.check.CheckClosing.{Moved-one, Moved-unmoved}
use Rattle.lalrpop_check.proofs.check.closing.visit_if_moved.Goals as goal

pub returns-in_ok-visit : goal.returns-in_ok-visit
returns-in_ok-visit c =
    let dot : c.item.inside.index ≡ c.args.item.now.index = ap (λ (d : Dotted Bits). d.index) c.item.view_is in
    let test = c.if-item-gt0.true in
    let moved : 0 < c.args.item.now.index = omega arith in
    Moved-one c.args.item.now c.to_lr0.result _ _ c.to_lr0.ensures.production c.to_lr0.ensures.index moved c.in_ok-visit.ensures

pub returns-else-item-gt0 : goal.returns-else-item-gt0
returns-else-item-gt0 c =
    let dot : c.item.inside.index ≡ c.args.item.now.index = ap (λ (d : Dotted Bits). d.index) c.item.view_is in
    let test = c.if-item-gt0.false in
    Moved-unmoved c.args.item.now _ (omega arith)
