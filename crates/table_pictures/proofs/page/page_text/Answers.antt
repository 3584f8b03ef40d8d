use Rattle.std.proofs.Common.{◌≡◌, ◌++◌, refl, ap, ◌∙◌, string_bytes}
use Rattle.table_pictures.specs.Escape.{inert}
use Rattle.table_pictures.specs.Page.{page, page_start, page_head, script_start, script_end, page_end}
use Rattle.table_pictures.specs.declared.page.TheConstants.{HEAD, BODY, SCRIPT, END}
use Rattle.table_pictures.specs.declared.finding.TheConstants.{FINDING}
use Rattle.table_pictures.specs.declared.script.TheConstants.{TREES, DRAWING}
use Rattle.table_pictures.specs.declared.style.TheConstants.{STYLE}
use Rattle.lalrpop_collections.proofs.theory.lists.Pieces.{five_pieces, three_pieces, two_pieces}
use Rattle.table_pictures.proofs.page.page_text.Goals as goal

-- the texts of the code are those of the definitions
head_text : HEAD.now ≡ page_start
head_text = refl

script_text : SCRIPT.now ≡ script_start
script_text = refl

end_text : END.now ≡ script_end
end_text = refl

pub returns : goal.returns
returns c =
    let start = string_bytes c.new-text.result in
    let t1 = string_bytes c.push_str.new.self in
    let t2 = string_bytes c.push_str-2.new.self in
    let t3 = string_bytes c.push_str-3.new.self in
    let t4 = string_bytes c.push_inert.new.text in
    let t5 = string_bytes c.push_str-4.new.self in
    let t6 = string_bytes c.push_str-5.new.self in
    let t7 = string_bytes c.push_str-6.new.self in
    let t8 = string_bytes c.push_str-7.new.self in
    let t9 = string_bytes c.push_str-8.new.self in
    let json = inert c.args.json.now in
    let head = three_pieces start t1 t2 t3 page_start STYLE.now BODY.now (c.in_ok-push_str.ensures.bytes ∙ ap (λ t. start ++ t) head_text) c.in_ok-push_str-2.ensures.bytes c.in_ok-push_str-3.ensures.bytes in
    let end =
    five_pieces t4 t5 t6 t7 t8 t9 script_start TREES.now DRAWING.now FINDING.now script_end (c.in_ok-push_str-4.ensures.bytes ∙ ap (λ t. t4 ++ t) script_text) c.in_ok-push_str-5.ensures.bytes c.in_ok-push_str-6.ensures.bytes
    c.in_ok-push_str-7.ensures.bytes (c.in_ok-push_str-8.ensures.bytes ∙ ap (λ t. t8 ++ t) end_text)
    in
    two_pieces start t3 t9 page_head (json ++ page_end) head (two_pieces t3 t4 t9 json page_end c.in_ok-push_inert.ensures.text end) ∙ ap (λ t. t ++ page c.args.json.now) c.new-text.ensures.bytes
