use Rattle.std.proofs.Common.{◌≡◌, ◌==◌, ◌+◌, ◌∷◌, [], ◌++◌, Some, None, map, length, rules, arith, sym, ap, ◌∙◌, append_assoc}
use Rattle.std.proofs.lemmas.Grind.{common_steps}
use Rattle.std.proofs.lemmas.Str.Pattern.{split_once_first}
use Rattle.std.specs.List.{slice_split}
use Rattle.grammar_text.proofs.Texts.{split_some, split_none}
use Rattle.grammar_diagnostics.specs.Pieces.{Piece, piece_view, pieces_from}
use Rattle.grammar_diagnostics.proofs.pieces.placed_pieces.Goals as goal

pub loop-piece-preserved : goal.loop-piece-preserved
loop-piece-preserved c =
    let piece = c.in-Some.piece in
    let more = c.in-Some.more in
    let (h, x, y) = split_once_first c.args.by c.loop-piece.rest.now (Some (piece, more)) c.in-Some.ensures.cases c.requires.ascii in
    let cut = split_some c.args.by c.loop-piece.rest.now piece.now more.now h x y in
    let found : Piece = record { start = c.loop-piece.start; bytes = piece.now } in
    let pushed : map piece_view c.push.new.self.items ≡ map piece_view c.loop-piece.all.items ++ found ∷ [] = grind (arith, common_steps) in
    (search rules, search rules, ap (λ ps. ps ++ pieces_from (c.loop-piece.start + (length piece.now + 1)) (slice_split (λ b. b == c.args.by) more.now)) pushed ∙ append_assoc (map piece_view c.loop-piece.all.items) (found ∷ []) _ ∙ ap (λ ps. map piece_view c.loop-piece.all.items ++ pieces_from c.loop-piece.start ps) (sym cut) ∙ c.loop-piece.invariant.2)

pub returns : goal.returns
returns c =
    let rest = c.loop-piece.rest in
    let cut = split_none c.args.by rest.now (split_once_first c.args.by rest.now None c.in_default.ensures.cases c.requires.ascii) in
    let found : Piece = record { start = c.loop-piece.start; bytes = rest.now } in
    let pushed : map piece_view c.push-2.new.self.items ≡ map piece_view c.loop-piece.all.items ++ found ∷ [] = grind (arith, common_steps) in
    pushed ∙ ap (λ ps. map piece_view c.loop-piece.all.items ++ pieces_from c.loop-piece.start ps) (sym cut) ∙ c.loop-piece.invariant.2
