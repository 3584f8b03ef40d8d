use Rattle.std.proofs.Common.{ℕ, List, ◌++◌, ap, ◌∙◌, subst}
use Rattle.parser_in_rust.specs.File.{file_text}
use Rattle.parser_in_rust.specs.Parts.{IsFileOf}
use Rattle.parser_text.proofs.rust.rust_parser.Goals as goal

pub returns : goal.returns
returns c =
    let parts = c.in_ok-grammar.field-0 in
    let file = c.in_ok-file.file in
    record {
      grammar = parts.grammar;
      arrays = parts.arrays.items;
      set_bytes = parts.set_bytes;
      of_table = c.in_ok-grammar.ensures;
      file = file;
      built = subst (λ (top : List ℕ). IsFileOf file parts.grammar top parts.arrays.items parts.set_bytes) c.in_ok-heading.ensures c.in_ok-file.ensures;
      is = c.in_ok-push_file.ensures ∙ ap (λ (text : List ℕ). text ++ file_text file) c.new-text.ensures.bytes;
    }
