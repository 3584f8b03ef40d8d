use Rattle.std.proofs.Common.{rules, inl, ◌≡◌, ◌∷◌, [], List, Option, Some, None, reverse, sym, ◌∙◌, ap, subst, refl}
use Rattle.std.proofs.lemmas.List.{reverse-append}
use Rattle.lalrpop_inline.proofs.Types.{NonterminalString}
use Rattle.lalrpop_inline.specs.declared.inline.graph.depth_first.Frame.{Frame}
use Rattle.lalrpop_inline.specs.declared.inline.graph.depth_first.Walk.{Walk}
use Rattle.lalrpop_inline.specs.Words.{ComesBack, ComesBackFrom, GoesPast, IsFrame, HasFrames, IsEntered, IsInside, IsNewest, ComesBackToAllOf, names_on, with_next}
use Rattle.lalrpop_inline.proofs.theory.inlining.InlineMeetings.{back_into, back_out, named_by, new as comes_into}
use Rattle.lalrpop_inline.proofs.theory.inlining.InlineFrames.{lead_to, gone_on, left_walk}
use Rattle.lalrpop_inline.proofs.inline.graph.depth_first.step.Goals as goal

pub next_pending-requires-clause-frame : goal.next_pending-requires-clause-frame
next_pending-requires-clause-frame c = c.requires.frames.frames.0

pub next_pending-requires-clause-lead : goal.next_pending-requires-clause-lead
next_pending-requires-clause-lead c = lead_to c.args.grammar.now c.args.walk.now c.args.frame (reverse c.args.frames.now.items) c.requires.frames

pub enter-requires-clause-frames : goal.enter-requires-clause-frames
enter-requires-clause-frames c =
    let g = c.args.grammar.now in
    let w : Walk = c.args.walk.now in
    let new : Frame = c.next_pending.new.frame in
    let fs : List Frame = c.args.frames.now.items in
    let is : IsFrame g w.order.items (Some c.in-Some.name) new = subst (λ (o : Option NonterminalString). IsFrame g w.order.items o new) c.in-Some.is c.in_ok-name.ensures.next.frame in
    let pushed : reverse c.push.new.self.items ≡ new ∷ reverse fs = ap (λ (l : List Frame). reverse l) c.in_ok-push.ensures.items ∙ reverse-append fs (new ∷ []) in
    subst (HasFrames g w (Some c.in-Some.name)) (sym pushed) (gone_on g w c.args.frame new (reverse fs) (Some c.in-Some.name) c.requires.frames c.in_ok-name.ensures.name is)

pub returns-clause-walked : goal.returns-clause-walked
returns-clause-walked c =
    let g = c.args.grammar.now in
    let w : Walk = c.args.walk.now in
    let n : Walk = record { pending = c.args.walk.now.pending; visiting = c.remove.new.self; order = c.push-2.new.self } in
    let new : Frame = c.next_pending.new.frame in
    let fs : List Frame = c.args.frames.now.items in
    let is : IsFrame g w.order.items None new = subst (λ (o : Option NonterminalString). IsFrame g w.order.items o new) c.in_default.is c.in_ok-name.ensures.next.frame in
    let has : HasFrames g w None (new ∷ reverse fs) = gone_on g w c.args.frame new (reverse fs) None c.requires.frames c.in_ok-name.ensures.name is in
    left_walk g w n new (reverse fs) c.requires.walk has (c.in_ok-name.ensures.next.none c.in_default.is) (λ a. refl) c.remove.ensures.updates.0 c.in_ok-push-2.ensures.items

pub returns-in_err-name-clause-met : goal.returns-in_err-name-clause-met
returns-in_err-name-clause-met c =
    let g = c.args.grammar.now in
    let w : Walk = c.args.walk.now in
    let f : Frame = c.args.frame in
    let fs : List Frame = reverse c.args.frames.now.items in
    let step = named_by (λ name. (path : List NonterminalString) → IsInside w path → ComesBack g path (reverse f.others.items) w.order.items name) (λ name. (rest : List NonterminalString) → ComesBackFrom g rest (f ∷ fs) w.order.items name) c.in_err-name.field-0.0
    (λ name k rest. inl (k (f.name ∷ names_on fs) c.requires.frames.visiting)) c.in_err-name.ensures.met in
    search (rules, step)

pub returns-in-Some-clause-back : goal.returns-in-Some-clause-back
returns-in-Some-clause-back c =
    let g = c.args.grammar.now in
    let w : Walk = c.args.walk.now in
    let f : Frame = c.args.frame in
    let on : Frame = c.next_pending.new.frame in
    let fs : List Frame = c.args.frames.now.items in
    let path : List NonterminalString = f.name ∷ names_on (reverse fs) in
    let within : IsInside w path = c.requires.frames.visiting in
    let name = c.in-Some.name in
    let pushed : reverse c.push.new.self.items ≡ on ∷ reverse fs = ap (λ (l : List Frame). reverse l) c.in_ok-push.ensures.items ∙ reverse-append fs (on ∷ []) in
    let newest : IsNewest g name (on ∷ reverse fs) (reverse c.enter.new.frames.items) = subst (λ (l : List Frame). IsNewest g name l (reverse c.enter.new.frames.items)) pushed c.in_ok-enter.ensures.newest in
    let past : GoesPast g path w.order.items (reverse f.others.items) (name ∷ reverse on.others.items) =
    subst (λ (o : Option NonterminalString). GoesPast g path w.order.items (reverse f.others.items) (with_next o (reverse on.others.items))) c.in-Some.is (c.in_ok-name.ensures.past path within) in
    let is : IsEntered g path w.order.items name = comes_into g w path name c.requires.walk within (c.in_ok-name.ensures.next.pending name c.in-Some.is) in
    subst (ComesBackToAllOf g (f ∷ reverse fs) w.order.items (reverse c.enter.new.frames.items)) (sym c.in_ok-enter.ensures.order) (back_into g f on (reverse fs) (reverse c.enter.new.frames.items) name w.order.items c.in_ok-name.ensures.name newest is past)

pub returns-clause-back : goal.returns-clause-back
returns-clause-back c =
    let g = c.args.grammar.now in
    let w : Walk = c.args.walk.now in
    let f : Frame = c.args.frame in
    let on : Frame = c.next_pending.new.frame in
    let fs : List Frame = c.args.frames.now.items in
    let path : List NonterminalString = f.name ∷ names_on (reverse fs) in
    let past : GoesPast g path w.order.items (reverse f.others.items) (reverse on.others.items) =
    subst (λ (o : Option NonterminalString). GoesPast g path w.order.items (reverse f.others.items) (with_next o (reverse on.others.items))) c.in_default.is (c.in_ok-name.ensures.past path c.requires.frames.visiting) in
    back_out g f on (reverse fs) w.order.items c.push-2.new.self.items c.in_ok-name.ensures.name (c.in_ok-name.ensures.next.none c.in_default.is) c.in_ok-push-2.ensures.items past
