use Rattle.std.proofs.Common.{◌≡◌, ◌++◌, Some, None, rules, sym, ap, ◌∙◌, codes, string_bytes, append_assoc}
use Rattle.std.proofs.lemmas.Str.Pattern.{split_once_first}
use Rattle.table_pictures.specs.Escape.{inert, is_opening}
use Rattle.table_pictures.proofs.Counts.{as_many}
use Rattle.table_pictures.proofs.NoMarkup.{inert_has_none}
use Rattle.table_pictures.proofs.InertTexts.{inert_some, inert_none}
use Rattle.table_pictures.proofs.escape.push_inert.Goals as goal

pub loop-before-preserved : goal.loop-before-preserved
loop-before-preserved c =
    let rest = c.loop-before.rest.now in
    let before = c.in-Some.before in
    let behind = c.in-Some.behind in
    let (h, x, y) = split_once_first 60 rest (Some (before, behind)) c.in-Some.ensures.cases (search rules) in
    let cut = inert_some rest before.now behind.now h x y in
    let grew : string_bytes c.push_str-in-Some.new.self ≡ string_bytes c.loop-before.text ++ (before.now ++ codes "\\u003c") =
    c.in_ok-push_str-2.ensures.bytes ∙ ap (λ t. t ++ codes "\\u003c") c.in_ok-push_str.ensures.bytes ∙ append_assoc _ before.now _ in
    (search rules, ap (λ t. t ++ inert behind.now) grew ∙ append_assoc _ _ (inert behind.now) ∙ ap (λ t. string_bytes c.loop-before.text ++ t) (append_assoc before.now _ _ ∙ sym cut) ∙ c.loop-before.invariant.1)

whole : goal.returns-clause-text
whole c =
    let rest = c.loop-before.rest.now in
    let cut = inert_none rest (split_once_first 60 rest None c.in_default.ensures.cases (search rules)) in
    c.in_ok-push_str-3.ensures.bytes ∙ ap (λ t. string_bytes c.loop-before.text ++ t) (sym cut) ∙ c.loop-before.invariant.1

pub returns-clause-text : goal.returns-clause-text
returns-clause-text c = whole c

pub returns-clause-no_opening : goal.returns-clause-no_opening
returns-clause-no_opening c = as_many is_opening _ (inert c.args.json.now) _ (whole c) (inert_has_none c.args.json.now)
