use Rattle.std.proofs.Common.{Bool, ◌++◌, sym, ap, ◌∙◌, string_bytes, append_assoc}
use Rattle.std.proofs.lemmas.List.{append-nil}
use Rattle.std.proofs.lemmas.Str.{IsUtf8-past_char}
use Rattle.std.specs.Str.{chars}
use Rattle.std.specs.Str.Iter.{chars_rest}
use Rattle.constant_names.specs.Upper.{next_upper, upper_from}
use Rattle.constant_names.proofs.UpperTexts.{upper_more, upper_nil}
use Rattle.constant_names.proofs.upper.push_words.Goals as goal

pub loop-c-preserved : goal.loop-c-preserved
loop-c-preserved c =
    let before = chars_rest c.loop-c.c-iterator in
    let after = chars_rest c.next.new.self in
    let came = c.in-Some.ensures.steps.0 in
    let text = c.loop-c.invariant.0 in
    let it = c.in-Some.c in
    let more = c.loop-c.more in
    let added = next_upper c.loop-c.before more it in (
      IsUtf8-past_char before after it text came,
      ap (λ t. t ++ upper_from it c.has_begun-more.result (chars after)) c.in_ok-push_next.ensures
          ∙ append_assoc _ added _
          ∙ ap (λ (m : Bool). string_bytes c.loop-c.text ++ (added ++ upper_from it m (chars after))) c.has_begun-more.ensures
          ∙ ap (λ t. string_bytes c.loop-c.text ++ t) (sym (upper_more c.loop-c.before more before after it text came))
          ∙ c.loop-c.invariant.1,
    )

pub returns : goal.returns
returns c =
    let none = upper_nil c.loop-c.before c.loop-c.more (chars_rest c.loop-c.c-iterator) c.in-None.ensures.steps.0.0 in
    sym (append-nil _) ∙ ap (λ t. string_bytes c.loop-c.text ++ t) (sym none) ∙ c.loop-c.invariant.1
