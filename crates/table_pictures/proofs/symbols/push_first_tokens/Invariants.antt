use Rattle.std.proofs.Common.{◌≡◌, ◌++◌, string_bytes, map, take}
use Rattle.std.specs.Iterator.Adapters.{take_count, take_source}
use Rattle.std.specs.List.{flat_map}
use Rattle.lalrpop_base.specs.Words.{rising, token_of}
use Rattle.table_pictures.specs.Symbols.{most_tokens, token_xml}
use Rattle.table_pictures.proofs.symbols.push_first_tokens.Given as goal

abbrev pub invariant-loop-token : goal.invariant-loop-token
invariant-loop-token l =
    string_bytes l.text ++ flat_map token_xml (take (take_count l.token-iterator) (map (token_of (take_source l.token-iterator).terminals.now) (take_source l.token-iterator).bits))
    ≡ string_bytes l.fn.text ++ flat_map token_xml (take most_tokens (map (token_of l.terminals) (rising l.tokens)))
