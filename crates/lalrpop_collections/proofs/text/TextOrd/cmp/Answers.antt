use Rattle.std.proofs.Common.{◌∙◌, ap, ℕ}
use Rattle.std.specs.Ordering.{nat_cmp}
use Rattle.lalrpop_collections.specs.lists.LeadingBytes.{leading_number}
use Rattle.lalrpop_collections.proofs.theory.lists.LeadingBytes.{ordered_by_number}
use Rattle.lalrpop_collections.proofs.text.TextOrd.cmp.Goals as goal

pub returns-in_default : goal.returns-in_default
returns-in_default c = ordered_by_number c.args.self.now c.args.other.now c.leading_number.ensures.bytes c.leading_number-2.ensures.bytes c.cmp.result
    (c.cmp.ensures ∙ ap (λ (n : ℕ). nat_cmp n c.leading_number-2.result) c.leading_number.ensures.number ∙ ap (nat_cmp (leading_number c.args.self.now)) c.leading_number-2.ensures.number)
    c.in_default.not-Equal
