use Rattle.std.proofs.Common.{◌≡◌, ◌+◌, ◌++◌, ◌∷◌, ◌∙◌, ℕ, List, [], ap, length, map, refl, subst, sym, take}
use Rattle.std.proofs.lemmas.List.{map-append, take_more}
use Rattle.std.proofs.lemmas.Option.{slice_get_read}
use Rattle.conflict_causes.specs.declared.text.one_line.CauseLine.{CauseLine as LineWords}
use Rattle.conflict_causes.specs.CauseLines.{AreLinesOf, CauseLine, line_view}
use Rattle.conflict_causes.proofs.CauseLines.{one_line_more}
use Rattle.conflict_causes.proofs.text.one_line.lines_of.Goals as goal

pub cause_line-requires-clause-some : goal.cause_line-requires-clause-some
cause_line-requires-clause-some c =
    let causes : List (List ℕ) = c.args.causes.now in
    let cause : List ℕ = c.cause-item.result in
    c.requires.some c.loop-cause.cause-index cause (slice_get_read causes (length causes) c.loop-cause.cause-index cause refl c.loop-cause-test.true c.cause-item.is)

pub cause_line-requires-clause-within : goal.cause_line-requires-clause-within
cause_line-requires-clause-within c =
    let causes : List (List ℕ) = c.args.causes.now in
    let cause : List ℕ = c.cause-item.result in
    c.requires.within c.loop-cause.cause-index cause (slice_get_read causes (length causes) c.loop-cause.cause-index cause refl c.loop-cause-test.true c.cause-item.is)

pub loop-cause-preserved : goal.loop-cause-preserved
loop-cause-preserved c =
    let terminals = c.args.terminals.now in
    let states = c.args.states.now in
    let conflicts = c.args.conflicts.now in
    let causes : List (List ℕ) = c.args.causes.now in
    let i = c.loop-cause.cause-index in
    let cause : List ℕ = c.cause-item.result in
    let line : LineWords = c.in_ok-cause_line.field-0 in
    let old : List LineWords = c.loop-cause.lines.items in
    let more : take (i + 1) causes ≡ take i causes ++ cause ∷ [] = take_more causes i cause c.loop-cause-test.true ∙ ap (λ (y : List ℕ). take i causes ++ y ∷ []) (sym c.cause-item.is) in
    let items : map line_view c.push.new.self.items ≡ map line_view old ++ line_view line ∷ [] = ap (map line_view) c.in_ok-push.ensures.items ∙ map-append line_view old (line ∷ []) in
    subst (λ (ls : List CauseLine). AreLinesOf terminals states conflicts (take (i + 1) causes) ls) (sym items)
    (subst (λ (cs : List (List ℕ)). AreLinesOf terminals states conflicts cs (map line_view old ++ line_view line ∷ [])) (sym more)
    (one_line_more terminals states conflicts (take i causes) (map line_view old) cause (line_view line) c.loop-cause.invariant c.in_ok-cause_line.ensures))
