use Rattle.std.proofs.Common.{◌≡◌, ◌∙◌, ◌++◌, ℕ, List, ap, refl, subst, append_assoc, string_bytes}
use Rattle.text_pieces.specs.Pieces.{piece_text}
use Rattle.program_answers.specs.Output.{AppendsBeginning, IsPut}
use Rattle.program_answers.proofs.Written.{put_more, part_more, part_longer}
use Rattle.program_answers.proofs.output.put_piece.Goals as goal

pub returns-then-put-clause-put : goal.returns-then-put-clause-put
returns-then-put-clause-put g c = λ h.
    let old = g.W.Write.contents c.args.out.now in
    let mid = g.W.Write.contents c.put.new.out in
    let new = g.W.Write.contents c.put-then-put.new.out in
    let own = c.as_bytes.result.now in
    let line = c.as_bytes-then-put.result.now in
    let same : own ++ line ≡ piece_text c.args.piece.now = ap (λ (b : List ℕ). b ++ line) c.as_bytes.ensures.value ∙ ap (λ (b : List ℕ). string_bytes c.args.piece.now.0 ++ b) (c.as_bytes-then-put.ensures.value ∙ c.as_str.ensures) in
    subst (λ (bytes : List ℕ). IsPut old new c.args.buffer.now.items c.put-then-put.new.buffer.items bytes) same
    (put_more old mid new c.args.buffer.now.items c.put.new.buffer.items c.put-then-put.new.buffer.items own line (c.if-put.ensures.put refl) (c.put-then-put.ensures.put h))

pub returns-then-put-clause-part : goal.returns-then-put-clause-part
returns-then-put-clause-part g c =
    let old = g.W.Write.contents c.args.out.now in
    let mid = g.W.Write.contents c.put.new.out in
    let new = g.W.Write.contents c.put-then-put.new.out in
    let own = c.as_bytes.result.now in
    let line = c.as_bytes-then-put.result.now in
    let same : own ++ line ≡ piece_text c.args.piece.now = ap (λ (b : List ℕ). b ++ line) c.as_bytes.ensures.value ∙ ap (λ (b : List ℕ). string_bytes c.args.piece.now.0 ++ b) (c.as_bytes-then-put.ensures.value ∙ c.as_str.ensures) in
    subst (λ (bytes : List ℕ). AppendsBeginning old new (c.args.buffer.now.items ++ bytes)) same
    (part_more old mid new c.args.buffer.now.items c.put.new.buffer.items own line (c.if-put.ensures.put refl) c.put-then-put.ensures.part)

pub returns-else-put-clause-part : goal.returns-else-put-clause-part
returns-else-put-clause-part g c =
    let old = g.W.Write.contents c.args.out.now in
    let mid = g.W.Write.contents c.put.new.out in
    let kept = c.args.buffer.now.items in
    let own = c.as_bytes.result.now in
    let line = c.args.piece.now.1 in
    subst (AppendsBeginning old mid) (append_assoc kept own line ∙ ap (λ (b : List ℕ). kept ++ (b ++ line)) c.as_bytes.ensures.value) (part_longer old mid (kept ++ own) line c.if-put.ensures.part)
