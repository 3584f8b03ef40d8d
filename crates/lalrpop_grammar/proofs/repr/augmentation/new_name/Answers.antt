use Rattle.std.proofs.Common.{◌≡◌, true}
use Rattle.lalrpop_grammar.specs.Words.{IsUnused}
use Rattle.lalrpop_grammar.proofs.theory.grammars.NewStart.{Tried-falls, Tried-more}
use Rattle.lalrpop_grammar.proofs.repr.augmentation.new_name.Goals as goal

pub loop-alloc-smaller : goal.loop-alloc-smaller
loop-alloc-smaller c = Tried-falls c.args.grammar.now c.loop-alloc.name c.in_ok-name-2.name used c.in_ok-name-2.ensures
  where
    used : IsUnused c.args.grammar.now c.loop-alloc.name → ⊥
    used free = let yes : c.is_unused.result ≡ true = c.is_unused.ensures.1 free in cc c.loop-alloc-test.true

pub loop-alloc-preserved : goal.loop-alloc-preserved
loop-alloc-preserved c = Tried-more c.args.grammar.now c.args.start.now c.loop-alloc.name c.in_ok-name-2.name c.loop-alloc.invariant used c.in_ok-name-2.ensures
  where
    used : IsUnused c.args.grammar.now c.loop-alloc.name → ⊥
    used free = let yes : c.is_unused.result ≡ true = c.is_unused.ensures.1 free in cc c.loop-alloc-test.true
