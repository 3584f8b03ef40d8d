use Rattle.std.proofs.Common.{◌≡◌, ◌++◌, string_bytes, take}
use Rattle.std.specs.List.{flat_map}
use Rattle.parse_pictures.specs.RefusalTexts.{expected_text}
use Rattle.parse_pictures.proofs.refusal.push_terminals.Given as goal

abbrev pub invariant-loop-terminal : goal.invariant-loop-terminal
invariant-loop-terminal l = string_bytes l.text ≡ string_bytes l.fn.text ++ flat_map expected_text (take l.terminal-index l.terminals)
