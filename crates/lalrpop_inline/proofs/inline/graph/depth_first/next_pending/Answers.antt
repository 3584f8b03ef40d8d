use Rattle.std.proofs.Common.{rules, ◌∷◌, [], List, refl, reverse, sym, ◌∙◌, subst}
use Rattle.std.specs.Prelude.{Contains}
use Rattle.std.proofs.lemmas.List.Elements.{Contains-append_left, Contains-push}
use Rattle.lalrpop_inline.proofs.Types.{NonterminalString}
use Rattle.lalrpop_inline.specs.declared.inline.graph.depth_first.Frame.{Frame}
use Rattle.lalrpop_inline.specs.Words.{ComesBack, IsCycleOf, IsInside, IsMetName}
use Rattle.lalrpop_inline.proofs.theory.inlining.InlineMeetings.{back_to, named_by, passed, past_next, past_none, past_one}
use Rattle.lalrpop_inline.proofs.theory.inlining.InlineFrames.{visited, found}
use Rattle.lalrpop_inline.proofs.inline.graph.depth_first.next_pending.Goals as goal

pub returns-then-contains-clause-next : goal.returns-then-contains-clause-next
returns-then-contains-clause-next c =
    let new : Frame = record { name = c.loop-other.frame.name; others = c.pop.new.self } in
    found c.args.grammar.now c.args.walk.now c.loop-other.frame new c.in-Some.other c.loop-other.invariant.frame refl c.in-Some.ensures.items (sym c.contains.ensures ∙ c.if-contains.true)

pub returns-in_err-meet-clause-refused : goal.returns-in_err-meet-clause-refused
returns-in_err-meet-clause-refused c =
    let there : Contains c.loop-other.frame.others.items c.in-Some.other = subst (λ (l : List NonterminalString). Contains l c.in-Some.other) (sym c.in-Some.ensures.items) (Contains-push c.pop.new.self.items c.in-Some.other) in
    let step : IsCycleOf c.args.grammar.now c.in_err-meet.field-0.0 = c.in_err-meet.ensures.refused (c.loop-other.invariant.lead c.in-Some.other there) in
    search (rules, step)

pub loop-other-preserved : goal.loop-other-preserved
loop-other-preserved c =
    let new : Frame = record { name = c.loop-other.frame.name; others = c.pop.new.self } in
    record {
      name = c.loop-other.invariant.name;
      past = λ path within. past_one c.args.grammar.now path c.args.walk.now.order.items (reverse c.args.frame.now.others.items) c.loop-other.frame.others.items c.pop.new.self.items c.in-Some.other c.in-Some.ensures.items
          (passed c.args.grammar.now c.args.walk.now path c.in-Some.other c.requires.walk within (sym c.contains.ensures ∙ c.if-contains.false) c.in_ok-meet.ensures.left) (c.loop-other.invariant.past path within);
      frame = visited c.args.grammar.now c.args.walk.now c.loop-other.frame new c.in-Some.other c.requires.walk c.loop-other.invariant.frame refl c.in-Some.ensures.items (sym c.contains.ensures ∙ c.if-contains.false) c.in_ok-meet.ensures.left;
      lead = λ d k. c.loop-other.invariant.lead d (subst (λ (l : List NonterminalString). Contains l d) (sym c.in-Some.ensures.items) (Contains-append_left c.pop.new.self.items (c.in-Some.other ∷ []) d k));
    }

pub returns-then-contains-clause-past : goal.returns-then-contains-clause-past
returns-then-contains-clause-past c = λ path within. past_next c.args.grammar.now path c.args.walk.now.order.items (reverse c.args.frame.now.others.items) c.loop-other.frame.others.items c.pop.new.self.items c.in-Some.other c.in-Some.ensures.items (c.loop-other.invariant.past path within)

pub returns-in_err-meet-clause-met : goal.returns-in_err-meet-clause-met
returns-in_err-meet-clause-met c =
    let step = named_by (IsMetName c.args.walk.now c.in-Some.other) (λ name. (path : List NonterminalString) → IsInside c.args.walk.now path → ComesBack c.args.grammar.now path (reverse c.args.frame.now.others.items) c.args.walk.now.order.items name) c.in_err-meet.field-0.0
    (λ name is path within. back_to c.args.grammar.now c.args.walk.now path c.args.walk.now.order.items (reverse c.args.frame.now.others.items) c.loop-other.frame.others.items c.pop.new.self.items c.in-Some.other name within c.in-Some.ensures.items is.0 is.1 (c.loop-other.invariant.past path within))
    c.in_err-meet.ensures.met in
    search (rules, step)

pub loop-other-init : goal.loop-other-init
loop-other-init c = record {
  name = refl;
  frame = c.requires.frame;
  past = λ path within. past_none c.args.grammar.now path c.args.walk.now.order.items (reverse c.args.frame.now.others.items);
  lead = c.requires.lead;
}
