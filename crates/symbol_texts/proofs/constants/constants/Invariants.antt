use Rattle.std.proofs.Common.{◌≡◌, ◌++◌, drop}
use Rattle.std.specs.List.{zip}
use Rattle.symbol_texts.specs.Constants.{constant_texts}
use Rattle.symbol_texts.specs.Texts.{texts_of}
use Rattle.symbol_texts.proofs.constants.constants.Given as goal

-- the constants so far and those of the rest are all constants
abbrev pub invariant-loop-number : goal.invariant-loop-number
invariant-loop-number l = constant_texts l.constants.items ++ zip (drop l.number (texts_of l.names)) (drop l.number (texts_of l.comments)) ≡ zip (texts_of l.names) (texts_of l.comments)
