use Rattle.std.proofs.Common.{◌≡◌, ◌++◌, map, drop}
use Rattle.lalrpop_grammar.specs.declared.repr.TerminalString.TheVariants.{Literal}
use Rattle.grammar_text.proofs.symbols.literals.Given as goal

-- the literals so far, and those of the texts that are left
abbrev pub invariant-loop-text : goal.invariant-loop-text
invariant-loop-text l = l.all.items ++ map (λ t. Literal t.now) (drop l.text-index l.texts) ≡ map (λ t. Literal t.now) l.texts
