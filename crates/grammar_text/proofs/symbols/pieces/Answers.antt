use Rattle.std.proofs.Common.{◌≡◌, ◌==◌, ◌∷◌, [], ◌++◌, Some, None, map, rules, arith, sym, ap, ◌∙◌, append_assoc}
use Rattle.std.proofs.lemmas.Grind.{common_steps}
use Rattle.std.proofs.lemmas.Str.Pattern.{split_once_first}
use Rattle.std.specs.List.{slice_split}
use Rattle.grammar_text.proofs.Texts.{split_some, split_none}
use Rattle.grammar_text.proofs.symbols.pieces.Goals as goal

pub loop-piece-preserved : goal.loop-piece-preserved
loop-piece-preserved c =
    let piece = c.in-Some.piece in
    let more = c.in-Some.more in
    let (h, x, y) = split_once_first c.args.by c.loop-piece.rest.now (Some (piece, more)) c.in-Some.ensures.cases c.requires in
    let cut = split_some c.args.by c.loop-piece.rest.now piece.now more.now h x y in
    let pushed : map (λ p. p.now) c.push.new.self.items ≡ map (λ p. p.now) c.loop-piece.all.items ++ piece.now ∷ [] = grind (arith, common_steps) in
    (search rules, ap (λ ps. ps ++ slice_split (λ b. b == c.args.by) more.now) pushed ∙ append_assoc (map (λ p. p.now) c.loop-piece.all.items) (piece.now ∷ []) _ ∙ ap (λ ps. map (λ p. p.now) c.loop-piece.all.items ++ ps) (sym cut) ∙ c.loop-piece.invariant.1)

pub returns : goal.returns
returns c =
    let rest = c.loop-piece.rest in
    let cut = split_none c.args.by rest.now (split_once_first c.args.by rest.now None c.in_default.ensures.cases c.requires) in
    let pushed : map (λ p. p.now) c.push-2.new.self.items ≡ map (λ p. p.now) c.loop-piece.all.items ++ rest.now ∷ [] = grind (arith, common_steps) in
    pushed ∙ ap (λ ps. map (λ p. p.now) c.loop-piece.all.items ++ ps) (sym cut) ∙ c.loop-piece.invariant.1
