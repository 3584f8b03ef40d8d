use Rattle.std.proofs.Common.{◌++◌, sym, ap, ◌∙◌, string_bytes, append_assoc}
use Rattle.std.proofs.lemmas.List.{append-nil}
use Rattle.std.proofs.lemmas.Str.{IsUtf8-past_char}
use Rattle.std.specs.Str.Iter.{chars_rest}
use Rattle.file_parts.proofs.Loops.{chars_more, chars_none}
use Rattle.symbol_texts.specs.Comments.{visible_char, visible_text}
use Rattle.symbol_texts.proofs.comments.push_visible.Goals as goal

pub loop-c-preserved : goal.loop-c-preserved
loop-c-preserved c =
    let before = chars_rest c.loop-c.c-iterator in
    let after = chars_rest c.next.new.self in
    let came = c.in-Some.ensures.steps.0 in
    let text = c.loop-c.invariant.0 in (
      IsUtf8-past_char before after c.in-Some.c text came,
      ap (λ t. t ++ visible_text after) c.in_ok-push_visible_char.ensures ∙ append_assoc _ (visible_char c.in-Some.c) _ ∙ ap (λ t. string_bytes c.loop-c.text ++ t) (sym (chars_more visible_char before after c.in-Some.c text came)) ∙ c.loop-c.invariant.1,
    )

pub returns : goal.returns
returns c =
    let none = chars_none visible_char (chars_rest c.loop-c.c-iterator) c.in-None.ensures.steps.0.0 in
    sym (append-nil _) ∙ ap (λ t. string_bytes c.loop-c.text ++ t) (sym none) ∙ c.loop-c.invariant.1
