use Rattle.std.proofs.Common.{◌≡◌, ◌∷◌, [], ◌++◌, ◌∙◌, sym, ap, arith, append_assoc}
use Rattle.std.proofs.lemmas.Grind.{common_steps}
use Rattle.grammar_text.proofs.collected.Collected.of_lines.Goals as goal

pub loop-line-preserved : goal.loop-line-preserved
loop-line-preserved c =
    let (done, parted, given) = c.loop-line.invariant in
    let line = c.in-Some.line in
    let rest = c.next.new.self.rest.items in
    let next : c.loop-line.line-iterator.rest.items ≡ line ∷ rest = grind (arith, common_steps) in
    (done ++ line ∷ [], append_assoc done (line ∷ []) rest ∙ ap (λ ls. done ++ ls) (sym next) ∙ parted, c.with_line-so_far.ensures done given)
