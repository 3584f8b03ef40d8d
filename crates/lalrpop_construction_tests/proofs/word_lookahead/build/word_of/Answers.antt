use Rattle.std.proofs.Common.{◌≡◌, List, refl, subst, arith, Some}
use Rattle.std.specs.Prelude.{slice_get}
use Rattle.std.proofs.lemmas.Option.{slice_get_read}
use Rattle.lalrpop_grammar.specs.declared.repr.TerminalString.{TerminalString}
use Rattle.lalrpop_construction_tests.proofs.WordMoves.{Word-none, Word-more}
use Rattle.lalrpop_construction_tests.proofs.word_lookahead.build.word_of.Goals as goal

pub loop-bit-init : goal.loop-bit-init
loop-bit-init c = Word-none c.args.set.now _ refl

pub with_terminal-requires-clause-place : goal.with_terminal-requires-clause-place
with_terminal-requires-clause-place c =
    subst (λ (xs : List TerminalString). slice_get xs c.loop-bit.bit ≡ Some c.terminal-item.result) c.all-terminal-items.ensures.value (slice_get_read _ _ _ _ refl c.loop-bit-test.true c.terminal-item.is)

pub loop-bit-preserved : goal.loop-bit-preserved
loop-bit-preserved c = Word-more c.args.set.now c.loop-bit.bit c.loop-bit.word c.in_ok-word.word (omega (arith, c.if-bit-ge64.false)) c.loop-bit.invariant _ refl c.in_ok-word.ensures
