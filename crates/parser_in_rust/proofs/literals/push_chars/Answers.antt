use Rattle.std.proofs.Common.{◌++◌, sym, ap, ◌∙◌, string_bytes, append_assoc}
use Rattle.std.proofs.lemmas.List.{append-nil}
use Rattle.std.proofs.lemmas.Str.{IsUtf8-past_char}
use Rattle.std.specs.List.{flat_map}
use Rattle.std.specs.Str.{chars}
use Rattle.std.specs.Str.Iter.{chars_rest}
use Rattle.file_parts.proofs.Loops.{chars_more, chars_none}
use Rattle.parser_in_rust.specs.Literals.{char_text}
use Rattle.parser_in_rust.proofs.literals.push_chars.Goals as goal

pub loop-c-preserved : goal.loop-c-preserved
loop-c-preserved c =
    let before = chars_rest c.loop-c.c-iterator in
    let after = chars_rest c.next.new.self in
    let came = c.in-Some.ensures.steps.0 in
    let text = c.loop-c.invariant.0 in (
      IsUtf8-past_char before after c.in-Some.c text came,
      ap (λ t. t ++ flat_map char_text (chars after)) c.in_ok-push_char.ensures ∙ append_assoc _ (char_text c.in-Some.c) _ ∙ ap (λ t. string_bytes c.loop-c.literal ++ t) (sym (chars_more char_text before after c.in-Some.c text came)) ∙ c.loop-c.invariant.1,
    )

pub returns : goal.returns
returns c =
    let none = chars_none char_text (chars_rest c.loop-c.c-iterator) c.in-None.ensures.steps.0.0 in
    sym (append-nil _) ∙ ap (λ t. string_bytes c.loop-c.literal ++ t) (sym none) ∙ c.loop-c.invariant.1
