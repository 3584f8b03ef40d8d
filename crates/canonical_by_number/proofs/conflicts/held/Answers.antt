use Rattle.std.proofs.Common.{◌∙◌, Bool, ap, cond, sym}
use Rattle.lalrpop_base.specs.Words.{Bits, has}
use Rattle.canonical_by_number.proofs.TokenSets.{set_is}
use Rattle.canonical_by_number.proofs.conflicts.held.Goals as goal

pub returns-then-contains_bit-clause-held : goal.returns-then-contains_bit-clause-held
returns-then-contains_bit-clause-held c =
    let set = set_is c.args.sets.now c.args.tokens c.set.result.now c.set.ensures in
    ap (λ (b : Bool). cond b 1 0) (c.if-contains_bit.ensures.has ∙ ap (λ (s : Bits). has s c.args.bit) (sym set))

pub returns-clause-held : goal.returns-clause-held
returns-clause-held c =
    let set = set_is c.args.sets.now c.args.tokens c.set.result.now c.set.ensures in
    ap (λ (b : Bool). cond b 1 0) (c.if-contains_bit.ensures.has ∙ ap (λ (s : Bits). has s c.args.bit) (sym set))
