use Rattle.std.proofs.Common.{◌≡◌, ◌∷◌, [], true, List, reverse, sym, ◌∙◌, ap, subst, refl}
use Rattle.std.proofs.lemmas.List.{reverse-append}
use Rattle.lalrpop_base.specs.Words.{productions_of}
use Rattle.lalrpop_inline.proofs.Types.{NonterminalString, Production}
use Rattle.lalrpop_inline.specs.declared.inline.graph.depth_first.Frame.{Frame}
use Rattle.lalrpop_inline.specs.declared.inline.graph.depth_first.Walk.{Walk}
use Rattle.lalrpop_inline.specs.Words.{mentioned_in, IsWalked}
use Rattle.lalrpop_inline.proofs.theory.inlining.InlineWalks.{Sets}
use Rattle.lalrpop_inline.proofs.theory.inlining.InlineFrames.{entered_walk}
use Rattle.lalrpop_inline.proofs.inline.graph.depth_first.enter.Goals as goal

pub returns-clause-walked : goal.returns-clause-walked
returns-clause-walked c =
    let g = c.args.grammar.now in
    let w : Walk = c.args.walk.now in
    let m : Walk = record { pending = c.remove.new.self; visiting = c.insert.new.self; order = c.args.walk.now.order } in
    let f : Frame = record { name = c.args.name; others = c.in_ok-others.others } in
    let fs : List Frame = c.args.frames.now.items in
    let into : Sets f.name true w.visiting m.visiting = subst (λ (k : NonterminalString). Sets k true w.visiting m.visiting) c.in_ok-clone.ensures c.in_ok-insert.ensures.updates.0 in
    let all : f.others.items ≡ mentioned_in (productions_of g f.name) = c.in_ok-others.ensures ∙ ap (λ (ps : List Production). mentioned_in ps) c.productions_for.ensures in
    let pushed : reverse c.push.new.self.items ≡ f ∷ reverse fs = ap (λ (l : List Frame). reverse l) c.in_ok-push.ensures.items ∙ reverse-append fs (f ∷ []) in
    subst (IsWalked g w m) (sym pushed) (entered_walk g w m f (reverse fs) c.requires.walk c.requires.pending c.requires.frames c.remove.ensures.updates.0 into refl all)

pub returns-clause-newest : goal.returns-clause-newest
returns-clause-newest c =
    let g = c.args.grammar.now in
    let f : Frame = record { name = c.args.name; others = c.in_ok-others.others } in
    let fs : List Frame = c.args.frames.now.items in
    let all : f.others.items ≡ mentioned_in (productions_of g f.name) = c.in_ok-others.ensures ∙ ap (λ (ps : List Production). mentioned_in ps) c.productions_for.ensures in
    let pushed : reverse c.push.new.self.items ≡ f ∷ reverse fs = ap (λ (l : List Frame). reverse l) c.in_ok-push.ensures.items ∙ reverse-append fs (f ∷ []) in
    (f, pushed, refl, all)
