use Rattle.std.proofs.Common.{◌≡◌, ◌++◌, map, string_bytes}
use Rattle.lalrpop_collections.specs.lists.Bits.{rising}
use Rattle.lalrpop_grammar.specs.grammars.Tokens.{token_of}
use Rattle.conflict_causes.specs.CauseTexts.{cause_tokens}
use Rattle.conflict_causes.proofs.text.lines.push_tokens.Given as goal

abbrev pub invariant-loop-token : goal.invariant-loop-token
invariant-loop-token l = string_bytes l.text ++ cause_tokens (map (token_of l.token-iterator.terminals.now) l.token-iterator.bits) ≡ string_bytes l.fn.text ++ cause_tokens (map (token_of l.terminals) (rising l.set))
