use Rattle.std.proofs.Common.{◌++◌, sym, ap, ◌∙◌, string_bytes, append_assoc}
use Rattle.std.proofs.lemmas.List.{append-nil}
use Rattle.std.proofs.lemmas.Str.{IsUtf8-past_char}
use Rattle.std.specs.Str.Iter.{chars_rest}
use Rattle.table_pictures.specs.Escape.{is_markup, xml_char, xml_text}
use Rattle.table_pictures.proofs.Counts.{as_many}
use Rattle.table_pictures.proofs.NoMarkup.{xml_has_none}
use Rattle.table_pictures.proofs.XmlTexts.{xml_more, xml_nil}
use Rattle.table_pictures.proofs.escape.push_xml.Goals as goal

pub loop-c-preserved : goal.loop-c-preserved
loop-c-preserved c =
    let before = chars_rest c.loop-c.c-iterator in
    let after = chars_rest c.next.new.self in
    let came = c.in-Some.ensures.steps.0 in
    let text = c.loop-c.invariant.0 in (
      IsUtf8-past_char before after c.in-Some.c text came,
      ap (λ t. t ++ xml_text after) c.in_ok-push_xml_char.ensures ∙ append_assoc _ (xml_char c.in-Some.c) _ ∙ ap (λ t. string_bytes c.loop-c.text ++ t) (sym (xml_more before after c.in-Some.c text came)) ∙ c.loop-c.invariant.1,
    )

whole : goal.returns-clause-text
whole c =
    let none = xml_nil (chars_rest c.loop-c.c-iterator) c.in-None.ensures.steps.0.0 in
    sym (append-nil _) ∙ ap (λ t. string_bytes c.loop-c.text ++ t) (sym none) ∙ c.loop-c.invariant.1

pub returns-clause-text : goal.returns-clause-text
returns-clause-text c = whole c

pub returns-clause-no_markup : goal.returns-clause-no_markup
returns-clause-no_markup c = as_many is_markup _ (xml_text c.args.shown.now) _ (whole c) (xml_has_none c.args.shown.now)
