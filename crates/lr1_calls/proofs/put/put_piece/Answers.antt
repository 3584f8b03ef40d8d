use Rattle.std.proofs.Common.{◌≡◌, ◌∙◌, ◌++◌, ℕ, List, length, take, drop, ap, string_bytes, arith}
use Rattle.std.proofs.lemmas.List.{length-append}
use Rattle.text_pieces.specs.Pieces.{piece_text}
use Rattle.lr1_calls.specs.Copied.{filled}
use Rattle.lr1_calls.proofs.Filled.{length_put, filled_more}
use Rattle.lr1_calls.proofs.put.put_piece.Goals as goal

pub returns-clause-out : goal.returns-clause-out
returns-clause-out c =
    let own = c.as_bytes.result.now in
    let line = c.as_bytes-2.result.now in
    let same : own ++ line ≡ piece_text c.args.piece.now = ap (λ (b : List ℕ). b ++ line) c.as_bytes.ensures.value ∙ ap (λ (b : List ℕ). string_bytes c.args.piece.now.0 ++ b) (c.as_bytes-2.ensures.value ∙ c.as_str.ensures) in
    c.put.ensures.out
    ∙ filled_more c.args.out.now c.put-next.new.out own line c.args.at c.put-next.result c.requires c.put-next.ensures.out c.put-next.ensures.place
    ∙ ap (λ (b : List ℕ). take c.args.at c.args.out.now ++ filled b (drop c.args.at c.args.out.now)) same

pub returns-clause-place : goal.returns-clause-place
returns-clause-place c =
    let own = c.as_bytes.result.now in
    let line = c.as_bytes-2.result.now in
    let same : own ++ line ≡ piece_text c.args.piece.now = ap (λ (b : List ℕ). b ++ line) c.as_bytes.ensures.value ∙ ap (λ (b : List ℕ). string_bytes c.args.piece.now.0 ++ b) (c.as_bytes-2.ensures.value ∙ c.as_str.ensures) in
    let kept = length_put c.args.out.now c.put-next.new.out own c.args.at c.requires c.put-next.ensures.out in
    omega (arith, c.put.ensures.place, c.put-next.ensures.place, kept, length-append own line, ap length same)
