use Rattle.std.proofs.Common.{rules, ◌≡◌, refl, sym, subst, List}
use Rattle.lalrpop_grammar.specs.Words.{IsOnNoRightSide}
use Rattle.lalrpop_grammar.proofs.Types.{NonterminalData, NonterminalString}
use Rattle.lalrpop_grammar.proofs.theory.grammars.NewStart.{listed, sides_cons, sides_head, sides_tail}
use Rattle.lalrpop_collections.proofs.theory.lists.Lists.{contains-nil}
use Rattle.lalrpop_grammar.proofs.repr.augmentation.is_on_no_right_side.Goals as goal

pub loop-name-init : goal.loop-name-init
loop-name-init c =
    let all : c.into_iter-name-iterator.result ≡ c.args.grammar.now.nonterminals.entries = search rules in
    rw all (λ h. h, λ h. h)

pub returns-then-not-is_in_no_production : goal.returns-then-not-is_in_no_production
returns-then-not-is_in_no_production c = (
  λ h. cc,
  λ all.
      let side = sides_head c.args.name.now _ _ _ _ c.in-Some.ensures.steps (c.loop-name.invariant.1 all) in
      c.if-not-is_in_no_production.ensures.1 (subst (λ ps. IsOnNoRightSide ps c.args.name.now) (sym c.deref.ensures.value) side),
)

pub loop-name-preserved : goal.loop-name-preserved
loop-name-preserved c = (
  λ rest. c.loop-name.invariant.0 (sides_cons c.args.name.now _ _ _ _ c.in-Some.ensures.steps (subst (λ ps. IsOnNoRightSide ps c.args.name.now) c.deref.ensures.value (c.if-not-is_in_no_production.ensures.0 refl)) rest),
  λ all. sides_tail c.args.name.now _ _ _ _ c.in-Some.ensures.steps (c.loop-name.invariant.1 all),
)

pub returns : goal.returns
returns c = (
  λ h. c.loop-name.invariant.0 (subst (λ (es : List (NonterminalString × NonterminalData)). IsOnNoRightSide (listed es) c.args.name.now) (sym c.in-None.ensures.steps.0) (λ p k d. absurd (contains-nil k))),
  λ all. refl,
)
