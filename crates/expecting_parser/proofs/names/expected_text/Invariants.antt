use Rattle.std.proofs.Common.{◌≡◌, ◌++◌, length, map, string_bytes}
use Rattle.lalrpop_base.specs.Words.{rising, token_of}
use Rattle.expecting_parser.specs.Names.{listed, name_text}
use Rattle.expecting_parser.proofs.names.expected_text.Given as goal

abbrev pub invariant-loop-token : goal.invariant-loop-token
invariant-loop-token l = record {
  text : string_bytes l.text ++ listed (map name_text (map (token_of l.token-iterator.terminals.now) l.token-iterator.bits)) ≡ listed (map name_text (map (token_of l.table.terminals) (rising l.tokens)));
  left : l.left ≡ length (map (token_of l.token-iterator.terminals.now) l.token-iterator.bits);
}
