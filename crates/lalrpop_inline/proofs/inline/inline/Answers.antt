use Rattle.std.proofs.Common.{rules, List, drop, arith, refl, sym, ◌∙◌, subst}
use Rattle.lalrpop_inline.proofs.Types.{NonterminalString}
use Rattle.lalrpop_inline.specs.Words.{IsMarked, IsInlineOrder, view_of, inlined_by, IsRefusalOf}
use Rattle.lalrpop_inline.proofs.theory.inlining.InlineStages.{first_stage, one_inlined, inlined_past, all_inlined, refusal_past, inlined_well_formed, inlined_unmentioned, inlined_lists, inlined_kept, inlined_laid_out}
use Rattle.lalrpop_inline.proofs.theory.inlining.InlineUsers.{first_mentioned, stage_on, mentioned_on, next_covered, stage_ordered}
use Rattle.lalrpop_inline.specs.Words.{IsComeBackTo}
use Rattle.lalrpop_inline.proofs.theory.inlining.InlineMeetings.{past_named}
use Rattle.lalrpop_inline.proofs.inline.inline.Goals as goal

pub loop-name-init : goal.loop-name-init
loop-name-init c =
    let order : List NonterminalString = c.deref-name-items.result.now in
    let is : IsInlineOrder c.args.grammar order = subst (IsInlineOrder c.args.grammar) (sym c.deref-name-items.ensures.value) c.in_ok-order.ensures.order in
    record {
      view = refl;
      terminals = refl;
      algorithm = refl;
      stage = first_stage c.args.grammar order c.len-names.ensures.ordered c.requires is;
      mentioned = first_mentioned c.args.grammar order c.len-names.ensures.ordered c.requires is;
    }

pub inline_nonterminal-requires : goal.inline_nonterminal-requires
inline_nonterminal-requires c =
    let order : List NonterminalString = c.deref-name-items.result.now in
    let g = c.args.grammar in
    record {
      ordered = stage_ordered (IsMarked g) g.terminals (drop c.loop-name.name-index order) c.loop-name.inlined c.loop-name.invariant.stage;
      covered = next_covered (IsMarked g) g.terminals order c.loop-name.name-index c.name-item.result (omega arith) c.name-item.is g c.in_ok-users.users c.in_ok-users.ensures c.loop-name.inlined c.loop-name.invariant.stage c.loop-name.invariant.mentioned;
    }

pub loop-name-preserved : goal.loop-name-preserved
loop-name-preserved c =
    let order : List NonterminalString = c.deref-name-items.result.now in
    let g = c.args.grammar in
    let i = c.loop-name.name-index in
    let name = c.name-item.result in
    let v = view_of c.loop-name.inlined in
    let step = c.in_ok-inlined.ensures.view in
    record {
      view = one_inlined order i name v _ _ (omega arith) c.name-item.is c.loop-name.invariant.view step;
      terminals = c.in_ok-inlined.ensures.terminals ∙ c.loop-name.invariant.terminals;
      algorithm = c.in_ok-inlined.ensures.algorithm ∙ c.loop-name.invariant.algorithm;
      stage = stage_on (IsMarked g) g.terminals order i name (omega arith) c.name-item.is v _ step c.loop-name.invariant.stage;
      mentioned = mentioned_on (IsMarked g) g.terminals order i name (omega arith) c.name-item.is g v _ step c.loop-name.invariant.stage c.loop-name.invariant.mentioned;
    }

pub returns-in_err-inlined-clause-refused : goal.returns-in_err-inlined-clause-refused
returns-in_err-inlined-clause-refused c =
    let order : List NonterminalString = c.deref-name-items.result.now in
    let is : IsInlineOrder c.args.grammar order = subst (IsInlineOrder c.args.grammar) (sym c.deref-name-items.ensures.value) c.in_ok-order.ensures.order in
    let step : IsRefusalOf c.args.grammar c.in_err-inlined.field-0.0 =
    refusal_past c.args.grammar order c.in_err-inlined.field-0.0 is
    (inlined_past order c.loop-name.name-index c.name-item.result (view_of c.loop-name.inlined) (inlined_by order (view_of c.args.grammar)) c.in_err-inlined.field-0.0 (omega arith) c.name-item.is c.loop-name.invariant.view c.in_err-inlined.ensures.err) in
    search (rules, step)

pub returns-clause-inlined : goal.returns-clause-inlined
returns-clause-inlined c =
    let order : List NonterminalString = c.deref-name-items.result.now in
    record {
      order = order;
      in_order = subst (IsInlineOrder c.args.grammar) (sym c.deref-name-items.ensures.value) c.in_ok-order.ensures.order;
      view = all_inlined order c.loop-name.name-index (view_of c.loop-name.inlined) (inlined_by order (view_of c.args.grammar)) (omega (arith, c.loop-name-test.false)) c.loop-name.invariant.view;
      terminals = c.loop-name.invariant.terminals;
      algorithm = c.loop-name.invariant.algorithm;
    }

pub returns-clause-well_formed : goal.returns-clause-well_formed
returns-clause-well_formed c =
    let order : List NonterminalString = c.deref-name-items.result.now in
    inlined_well_formed c.args.grammar c.loop-name.inlined order c.len-names.ensures.ordered c.requires (subst (IsInlineOrder c.args.grammar) (sym c.deref-name-items.ensures.value) c.in_ok-order.ensures.order)
    (all_inlined order c.loop-name.name-index (view_of c.loop-name.inlined) (inlined_by order (view_of c.args.grammar)) (omega (arith, c.loop-name-test.false)) c.loop-name.invariant.view) c.loop-name.invariant.terminals

pub returns-clause-unmentioned : goal.returns-clause-unmentioned
returns-clause-unmentioned c =
    let order : List NonterminalString = c.deref-name-items.result.now in
    inlined_unmentioned c.args.grammar c.loop-name.inlined order c.len-names.ensures.ordered c.requires (subst (IsInlineOrder c.args.grammar) (sym c.deref-name-items.ensures.value) c.in_ok-order.ensures.order)
    (all_inlined order c.loop-name.name-index (view_of c.loop-name.inlined) (inlined_by order (view_of c.args.grammar)) (omega (arith, c.loop-name-test.false)) c.loop-name.invariant.view) c.loop-name.invariant.terminals

pub returns-clause-terminal_lists : goal.returns-clause-terminal_lists
returns-clause-terminal_lists c =
    let order : List NonterminalString = c.deref-name-items.result.now in
    inlined_lists c.args.grammar c.loop-name.inlined order c.len-names.ensures.ordered c.requires (subst (IsInlineOrder c.args.grammar) (sym c.deref-name-items.ensures.value) c.in_ok-order.ensures.order)
    (all_inlined order c.loop-name.name-index (view_of c.loop-name.inlined) (inlined_by order (view_of c.args.grammar)) (omega (arith, c.loop-name-test.false)) c.loop-name.invariant.view) c.loop-name.invariant.terminals

pub returns-clause-kept : goal.returns-clause-kept
returns-clause-kept c =
    let order : List NonterminalString = c.deref-name-items.result.now in
    inlined_kept c.args.grammar c.loop-name.inlined order c.len-names.ensures.ordered c.requires (subst (IsInlineOrder c.args.grammar) (sym c.deref-name-items.ensures.value) c.in_ok-order.ensures.order)
    (all_inlined order c.loop-name.name-index (view_of c.loop-name.inlined) (inlined_by order (view_of c.args.grammar)) (omega (arith, c.loop-name-test.false)) c.loop-name.invariant.view) c.loop-name.invariant.terminals

pub returns-clause-laid_out : goal.returns-clause-laid_out
returns-clause-laid_out c =
    let order : List NonterminalString = c.deref-name-items.result.now in
    inlined_laid_out c.args.grammar c.loop-name.inlined order c.len-names.ensures.ordered c.requires (subst (IsInlineOrder c.args.grammar) (sym c.deref-name-items.ensures.value) c.in_ok-order.ensures.order)
    (all_inlined order c.loop-name.name-index (view_of c.loop-name.inlined) (inlined_by order (view_of c.args.grammar)) (omega (arith, c.loop-name-test.false)) c.loop-name.invariant.view)

pub returns-in_err-inlined-clause-met : goal.returns-in_err-inlined-clause-met
returns-in_err-inlined-clause-met c =
    let step = past_named (IsComeBackTo c.args.grammar) _ c.in_err-inlined.field-0.0 c.in_err-inlined.ensures.err in
    search (rules, step)
