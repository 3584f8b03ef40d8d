use Rattle.std.proofs.Common.{string_bytes}
use Rattle.lalrpop_collections.proofs.theory.lists.Pieces.{five_pieces}
use Rattle.table_pictures.proofs.nodes.push_reduction.Goals as goal

pub returns : goal.returns
returns c =
    five_pieces (string_bytes c.args.text.now) (string_bytes c.push_str.new.self) (string_bytes c.push_production.new.text) (string_bytes c.push_str-2.new.self) (string_bytes c.push_tokens.new.text) _ _ _ _ _ _
    c.in_ok-push_str.ensures.bytes c.in_ok-push_production.ensures c.in_ok-push_str-2.ensures.bytes c.in_ok-push_tokens.ensures c.in_ok-push_line_end.ensures
