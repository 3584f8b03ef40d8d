use Rattle.std.proofs.Common.{◌≡◌, drop}
use Rattle.lalrpop_inline.specs.Words.{choices, completed}
use Rattle.lalrpop_inline.proofs.inline.choices.choices.Given as goal

-- the lists so far, each with the choices for the symbols that are left, are all choices
abbrev pub invariant-loop-symbol : goal.invariant-loop-symbol
invariant-loop-symbol l = completed l.made.items (choices l.name l.alternatives (drop l.symbol-index l.symbols)) ≡ choices l.name l.alternatives l.symbols
