use Rattle.std.proofs.Common.{length, ap, arith}
use Rattle.grammar_text.proofs.Texts.{without_cr-le}
use Rattle.grammar_text.proofs.lines.placed_line.Goals as goal

pub overflow_add-span : goal.overflow_add-span
overflow_add-span c = omega (arith, without_cr-le c.args.line.now, ap length c.before_cr-shown.ensures)
