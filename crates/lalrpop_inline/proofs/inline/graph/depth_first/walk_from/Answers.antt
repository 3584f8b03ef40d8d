use Rattle.std.proofs.Common.{rules, ◌≡◌, ◌∷◌, [], false, List, Some, reverse, sym, ◌∙◌, ap, subst}
use Rattle.std.specs.BTreeSet.{contains}
use Rattle.std.proofs.lemmas.List.{reverse-append}
use Rattle.lalrpop_base.specs.Words.{name_cmp}
use Rattle.lalrpop_inline.proofs.Types.{NonterminalString}
use Rattle.lalrpop_inline.specs.declared.inline.graph.depth_first.Walk.{Walk}
use Rattle.lalrpop_inline.specs.declared.inline.graph.depth_first.Frame.{Frame}
use Rattle.lalrpop_inline.specs.Words.{ComesBack, ComesBackFrom, HasFrames, IsNewest}
use Rattle.lalrpop_inline.proofs.theory.inlining.InlineFrames.{still_taken}
use Rattle.lalrpop_inline.proofs.theory.inlining.InlineMeetings.{back_first, named_by, passes_first, new as comes_into}
use Rattle.lalrpop_inline.proofs.inline.graph.depth_first.walk_from.Goals as goal

pub enter-requires-clause-frames : goal.enter-requires-clause-frames
enter-requires-clause-frames c =
    subst (λ (fs : List Frame). HasFrames c.args.grammar.now c.args.walk.now (Some c.in_ok-clone.field-0) (reverse fs)) (sym c.new-frames.ensures.items)
    (record { frames = tt; visiting = c.requires.outside.visiting })

pub returns-then-not-contains-clause-back : goal.returns-then-not-contains-clause-back
returns-then-not-contains-clause-back c = λ rest b h.
    passes_first c.args.grammar.now c.args.walk.now c.args.name.now rest b c.requires.walk c.requires.outside.visiting (sym c.contains.ensures ∙ c.if-not-contains.true) h

pub loop-frame-init : goal.loop-frame-init
loop-frame-init c =
    let g = c.args.grammar.now in
    let w : Walk = c.args.walk.now in
    let name = c.args.name.now in
    let newest : IsNewest g name [] (reverse c.enter.new.frames.items) =
    subst (λ (a : NonterminalString). IsNewest g a [] (reverse c.enter.new.frames.items)) c.in_ok-clone.ensures
    (subst (λ (l : List Frame). IsNewest g c.in_ok-clone.field-0 (reverse l) (reverse c.enter.new.frames.items)) c.new-frames.ensures.items c.in_ok-enter.ensures.newest) in
    record {
      walked = c.in_ok-enter.ensures.walked;
      back = λ rest b h. back_first g (reverse c.enter.new.frames.items) name rest w.order.items b newest
          (comes_into g w [] name c.requires.walk c.requires.outside.visiting (sym c.contains.ensures ∙ c.if-not-contains.false))
          (subst (λ (l : List NonterminalString). ComesBackFrom g rest (reverse c.enter.new.frames.items) l b) c.in_ok-enter.ensures.order h);
      left = subst (λ (a : NonterminalString). contains name_cmp c.enter.new.walk.pending a ≡ false) c.in_ok-clone.ensures c.enter.ensures.taken;
    }

pub loop-frame-preserved : goal.loop-frame-preserved
loop-frame-preserved c =
    let g = c.args.grammar.now in
    let now : List Frame = c.loop-frame.frames.items in
    let turned : reverse now ≡ c.in-Some.frame ∷ reverse c.pop.new.self.items = ap (λ (l : List Frame). reverse l) c.in-Some.ensures.items ∙ reverse-append c.pop.new.self.items (c.in-Some.frame ∷ []) in
    record {
      walked = record {
        walk = c.in_ok-step.ensures.walked.walk;
        frames = c.in_ok-step.ensures.walked.frames;
        pending = λ a h. c.loop-frame.invariant.walked.pending a (c.in_ok-step.ensures.walked.pending a h);
      };
      back = λ rest b h. c.loop-frame.invariant.back rest b (subst (λ (l : List Frame). ComesBackFrom g rest l c.loop-frame.walk.order.items b) (sym turned) (c.in_ok-step.ensures.back rest b h));
      left = still_taken g c.loop-frame.walk c.step.new.walk (reverse c.step.new.frames.items) c.args.name.now c.in_ok-step.ensures.walked c.loop-frame.invariant.left;
    }

pub returns-in_err-step-clause-met : goal.returns-in_err-step-clause-met
returns-in_err-step-clause-met c =
    let g = c.args.grammar.now in
    let now : List Frame = c.loop-frame.frames.items in
    let turned : reverse now ≡ c.in-Some.frame ∷ reverse c.pop.new.self.items = ap (λ (l : List Frame). reverse l) c.in-Some.ensures.items ∙ reverse-append c.pop.new.self.items (c.in-Some.frame ∷ []) in
    let step = named_by (λ b. (rest : List NonterminalString) → ComesBackFrom g rest (c.in-Some.frame ∷ reverse c.pop.new.self.items) c.loop-frame.walk.order.items b) (λ b. (rest : List NonterminalString) → ComesBack g [] (c.args.name.now ∷ rest) c.args.walk.now.order.items b) c.in_err-step.field-0.0
    (λ b k rest. c.loop-frame.invariant.back rest b (subst (λ (l : List Frame). ComesBackFrom g rest l c.loop-frame.walk.order.items b) (sym turned) (k rest))) c.in_err-step.ensures.met in
    search (rules, step)
