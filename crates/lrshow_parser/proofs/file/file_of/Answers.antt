use Rattle.std.proofs.Common.{ℕ, string_bytes, subst}
use Rattle.lrshow_arguments.specs.Words.{parser_view}
use Rattle.lrshow_parser.specs.Parsers.{IsParserText}
use Rattle.lrshow_parser.proofs.file.file_of.Goals as goal

pub returns : goal.returns
returns c =
    let packed = c.in_ok-packed.packed in
    record {
      listed = packed.listed;
      arrays = packed.arrays;
      of_states = c.in_ok-packed.ensures.arrays;
      file = subst (λ (n : ℕ). IsParserText (parser_view c.args.parser) packed.listed packed.arrays n c.args.start.now c.args.method (string_bytes c.in_ok-text.text)) c.in_ok-packed.ensures.counted c.in_ok-text.ensures;
    }
