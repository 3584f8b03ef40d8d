use Rattle.std.proofs.Common.{Global, string_bytes, sym, ◌∙◌}
use Rattle.lrshow_arguments.specs.Words.{parser_view}
use Rattle.lrshow_arguments.proofs.ParserWords.{augment_then, prefix_then}
use Rattle.lrshow_arguments.proofs.words.+parser_with.Goals as goal

pub returns-then-eq : goal.returns-then-eq
returns-then-eq t c =
    c.parser_with.ensures
    ∙ sym (augment_then (string_bytes {Z = Global}) (parser_view c.args.parser) c.args.rest.now c.option-item.result c.in-len1-up.len_at_least c.option-item.is c.as_str-option.result.now c.as_str-option.ensures.value
    (sym c.eq.ensures ∙ c.if-eq.true))

pub returns : goal.returns
returns t c =
    c.parser_with-2.ensures
    ∙ sym (prefix_then (string_bytes {Z = Global}) (parser_view c.args.parser) c.args.rest.now c.option-item.result c.in-len1-up.len_at_least c.option-item.is c.as_str-option.result.now c.as_str-option.ensures.value
    c.prefix-item.result c.in-len1-up-rest.len_at_least c.prefix-item.is c.as_str-prefix.result.now c.as_str-prefix.ensures.value (sym c.eq.ensures ∙ c.if-eq.false) (sym c.is_prefix.ensures ∙ c.if-not-is_prefix.false))
