use Rattle.std.proofs.Common.{◌≡◌, List, take, arith, subst, sym}
use Rattle.std.specs.Prelude.{Contains}
use Rattle.std.proofs.lemmas.List.{take_all}
use Rattle.lalrpop_inline.proofs.Types.{Production}
use Rattle.lalrpop_collections.proofs.theory.lists.Lists.{contains-nil}
use Rattle.lalrpop_inline.proofs.theory.inlining.InlineUsers.{production_added, keeps_twice}
use Rattle.lalrpop_inline.proofs.inline.users.add_to_mentioned.Goals as goal

pub loop-production-init : goal.loop-production-init
loop-production-init c = record { added = λ a p marked there m. absurd (contains-nil there); kept = λ a b there. there }

pub loop-production-preserved : goal.loop-production-preserved
loop-production-preserved c = record {
  added = production_added c.args.grammar.now c.args.productions.now c.loop-production.production-index c.production-item.result c.as_slice.result.now c.args.user.now c.loop-production.users c.add_to_symbols.new.users
      (omega arith) c.production-item.is c.as_slice.ensures c.loop-production.invariant.added c.in_ok-add_to_symbols.ensures.kept c.in_ok-add_to_symbols.ensures.added;
  kept = keeps_twice c.args.users.now c.loop-production.users c.add_to_symbols.new.users c.loop-production.invariant.kept c.in_ok-add_to_symbols.ensures.kept;
}

pub returns-clause-added : goal.returns-clause-added
returns-clause-added c =
    let every : take c.loop-production.production-index c.args.productions.now ≡ c.args.productions.now = take_all c.loop-production.production-index c.args.productions.now (omega (arith, c.loop-production-test.false)) in
    λ a p marked there m. c.loop-production.invariant.added a p marked (subst (λ (l : List Production). Contains l p) (sym every) there) m
