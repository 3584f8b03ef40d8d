use Rattle.std.proofs.Common.{◌≡◌, take}
use Rattle.lalrpop_inline.specs.Words.{laid_out}
use Rattle.lalrpop_inline.proofs.inline.choices.laid_out.Given as goal

abbrev pub invariant-loop-part : goal.invariant-loop-part
invariant-loop-part l = l.symbols ≡ laid_out (take l.part-index l.parts)
