use Rattle.std.proofs.Common.{◌≤◌, ℕ, ◌+◌, List, [], ◌∷◌, ◌++◌, drop, length, string_bytes, ap, sym, subst, ◌∙◌, append_assoc, arith}
use Rattle.std.proofs.lemmas.List.{append-nil, drop_all, length-map, map_push}
use Rattle.std.specs.List.{zip}
use Rattle.symbol_texts.specs.Constants.{constant_text, constant_texts}
use Rattle.symbol_texts.specs.Texts.{texts_of}
use Rattle.symbol_texts.proofs.TextLemmas.{text_at, within_texts, zip_more, zip_none}
use Rattle.symbol_texts.proofs.constants.constants.Goals as goal

pub returns-then-number-comments : goal.returns-then-number-comments
returns-then-number-comments c =
    let names = texts_of c.args.names.now in
    let comments = texts_of c.args.comments.now in
    let n = c.loop-number.number in
    let few : length comments ≤ n = subst (λ k. k ≤ n) (sym (length-map c.args.comments.now string_bytes)) (omega arith) in
    let none = ap (zip (drop n names)) (drop_all n comments few) ∙ zip_none (drop n names) in
    sym (append-nil _) ∙ ap (λ (t : List (List ℕ × List ℕ)). constant_texts c.loop-number.constants.items ++ t) (sym none) ∙ c.loop-number.invariant

pub loop-number-preserved : goal.loop-number-preserved
loop-number-preserved c =
    let names = c.args.names.now in
    let comments = c.args.comments.now in
    let n = c.loop-number.number in
    let made = c.loop-number.constants.items in
    let own = c.in_ok-constant.field-0 in
    let name = c.index-names-number.result in
    let comment = c.index-comments-number.result in
    let rest = zip (drop (n + 1) (texts_of names)) (drop (n + 1) (texts_of comments)) in
    ap (λ (t : List (List ℕ × List ℕ)). t ++ rest) (ap constant_texts c.in_ok-push.ensures.items ∙ map_push constant_text made own)
    ∙ append_assoc (constant_texts made) (constant_text own ∷ []) rest
    ∙ ap (λ (t : List (List ℕ × List ℕ)). constant_texts made ++ t) (ap (λ (x : List ℕ × List ℕ). x ∷ rest) c.in_ok-constant.ensures ∙ sym (zip_more (texts_of names) (texts_of comments) n (string_bytes name) (string_bytes comment) (within_texts names n c.loop-number-test.true) (within_texts comments n c.if-number-comments.false) (text_at names n name c.loop-number-test.true c.index-names-number.is) (text_at comments n comment c.if-number-comments.false c.index-comments-number.is)))
    ∙ c.loop-number.invariant
