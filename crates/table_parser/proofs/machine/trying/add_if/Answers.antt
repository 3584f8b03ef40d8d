use Rattle.std.proofs.Common.{◌&&◌, ◌||◌, ◌==◌, ap, sym, ◌∙◌}
use Rattle.lalrpop_base.specs.Words.{Bits, has, has-with_bit}
use Rattle.table_parser.proofs.machine.trying.add_if.Goals as goal

pub returns-in_ok-insert_bit : goal.returns-in_ok-insert_bit
returns-in_ok-insert_bit c k =
    ap (λ (s : Bits). has s k) c.in_ok-insert_bit.ensures.inserted
    ∙ has-with_bit c.args.tokens.now c.args.bit k
    ∙ ap (λ b. (b && (k == c.args.bit)) || has c.args.tokens.now k) (sym c.if-may.true)
