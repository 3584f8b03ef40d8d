use Rattle.std.proofs.Common.{◌++◌, sym, ap, ◌∙◌, string_bytes, append_assoc}
use Rattle.std.proofs.lemmas.List.{append-nil}
use Rattle.std.proofs.lemmas.Str.{IsUtf8-past_char}
use Rattle.std.specs.Str.Iter.{chars_rest}
use Rattle.file_parts.specs.Fixed.{fixed_char, fixed_text}
use Rattle.file_parts.proofs.Loops.{chars_more, chars_none}
use Rattle.file_parts.proofs.fixed.push_fixed.Goals as goal

pub loop-c-preserved : goal.loop-c-preserved
loop-c-preserved c =
    let small = c.args.small.now in
    let big = c.args.big.now in
    let before = chars_rest c.loop-c.c-iterator in
    let after = chars_rest c.next.new.self in
    let came = c.in-Some.ensures.steps.0 in
    let text = c.loop-c.invariant.0 in (
      IsUtf8-past_char before after c.in-Some.c text came,
      ap (λ t. t ++ fixed_text small big after) c.in_ok-push_char.ensures ∙ append_assoc _ (fixed_char small big c.in-Some.c) _ ∙ ap (λ t. string_bytes c.loop-c.text ++ t) (sym (chars_more (fixed_char small big) before after c.in-Some.c text came)) ∙ c.loop-c.invariant.1,
    )

pub returns : goal.returns
returns c =
    let none = chars_none (fixed_char c.args.small.now c.args.big.now) (chars_rest c.loop-c.c-iterator) c.in-None.ensures.steps.0.0 in
    sym (append-nil _) ∙ ap (λ t. string_bytes c.loop-c.text ++ t) (sym none) ∙ c.loop-c.invariant.1
