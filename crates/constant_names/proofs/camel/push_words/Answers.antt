use Rattle.std.proofs.Common.{◌++◌, sym, ap, ◌∙◌, string_bytes, append_assoc}
use Rattle.std.proofs.lemmas.List.{append-nil}
use Rattle.std.proofs.lemmas.Str.{IsUtf8-past_char}
use Rattle.std.specs.Str.{chars}
use Rattle.std.specs.Str.Iter.{chars_rest}
use Rattle.constant_names.specs.Camel.{camel_from, next_camel}
use Rattle.constant_names.proofs.CamelTexts.{camel_more, camel_nil}
use Rattle.constant_names.proofs.camel.push_words.Goals as goal

pub loop-c-preserved : goal.loop-c-preserved
loop-c-preserved c =
    let before = chars_rest c.loop-c.c-iterator in
    let after = chars_rest c.next.new.self in
    let came = c.in-Some.ensures.steps.0 in
    let text = c.loop-c.invariant.0 in
    let it = c.in-Some.c in
    let added = next_camel c.loop-c.before it in (
      IsUtf8-past_char before after it text came,
      ap (λ t. t ++ camel_from it (chars after)) c.in_ok-push_next.ensures
          ∙ append_assoc _ added _
          ∙ ap (λ t. string_bytes c.loop-c.text ++ t) (sym (camel_more c.loop-c.before before after it text came))
          ∙ c.loop-c.invariant.1,
    )

pub returns : goal.returns
returns c =
    let none = camel_nil c.loop-c.before (chars_rest c.loop-c.c-iterator) c.in-None.ensures.steps.0.0 in
    sym (append-nil _) ∙ ap (λ t. string_bytes c.loop-c.text ++ t) (sym none) ∙ c.loop-c.invariant.1
