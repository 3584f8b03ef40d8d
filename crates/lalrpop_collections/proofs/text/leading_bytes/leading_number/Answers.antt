use Rattle.std.proofs.Common.{◌∙◌, arith}
use Rattle.lalrpop_collections.specs.lists.LeadingBytes.{leading_number}
use Rattle.lalrpop_collections.proofs.text.leading_bytes.leading_number.Goals as goal

pub returns-clause-number : goal.returns-clause-number
unfolding leading_number
returns-clause-number c =
    c.from_be_bytes.ensures
    ∙ omega (arith, c.byte_at.ensures.byte, c.byte_at-2.ensures.byte, c.byte_at-3.ensures.byte, c.byte_at-4.ensures.byte, c.byte_at-5.ensures.byte, c.byte_at-6.ensures.byte, c.byte_at-7.ensures.byte, c.byte_at-8.ensures.byte)

pub returns-clause-bytes : goal.returns-clause-bytes
returns-clause-bytes c = λ k. (c.type_inv.bytes k).fits
