use Rattle.std.proofs.Common.{◌∙◌, ap, arith, length}
use Rattle.lalrpop_collections.proofs.theory.lists.LeadingBytes.{ordered_by_length}
use Rattle.lalrpop_collections.proofs.text.Text.order_led.Goals as goal

pub returns-then-others-le8 : goal.returns-then-others-le8
returns-then-others-le8 c =
    (rw (c.as_str-own.ensures, c.as_str-others.ensures) at c.cmp.ensures)
    ∙ ordered_by_length c.args.self.now c.args.other.now c.requires.own c.requires.others c.requires.same
    (omega (arith, ap length c.as_str-own.ensures, c.if-own-le8.true)) (omega (arith, ap length c.as_str-others.ensures, c.if-others-le8.true))
