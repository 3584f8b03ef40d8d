use Rattle.std.proofs.Common.{◌≡◌, ◌∙◌, ap, sym, arith, length}
use Rattle.lalrpop_collections.specs.lists.LeadingBytes.{leading_number}
use Rattle.lalrpop_collections.proofs.theory.lists.LeadingBytes.{equal_by_length}
use Rattle.lalrpop_collections.proofs.text.TextPartialEq.eq.Goals as goal

pub returns-then-own-le8 : goal.returns-then-own-le8
returns-then-own-le8 c =
    let same : leading_number c.args.self.now ≡ leading_number c.args.other.now = sym c.leading_number.ensures.number ∙ c.if-leading_number.false ∙ c.leading_number-2.ensures.number in
    rw (c.as_str-own.ensures, c.as_str-others.ensures) (equal_by_length c.args.self.now c.args.other.now c.leading_number.ensures.bytes c.leading_number-2.ensures.bytes same
    (omega (arith, ap length c.as_str-own.ensures, c.if-own-le8.true)))
