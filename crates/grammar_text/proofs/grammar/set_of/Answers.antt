use Rattle.std.proofs.Common.{◌≡◌, List, sym, ◌∙◌, subst, arith}
use Rattle.std.proofs.lemmas.Grind.{common_steps}
use Rattle.std.specs.List.Sorted.{IsStrictlySortedBy}
use Rattle.lalrpop_grammar.specs.declared.repr.TerminalString.{TerminalString}
use Rattle.grammar_text.specs.Grammar.{terminal_cmp}
use Rattle.grammar_text.proofs.WellFormed.{no_repeat}
use Rattle.grammar_text.proofs.grammar.set_of.Goals as goal

pub unreachable-requires : goal.unreachable-requires
unreachable-requires c =
    let all : c.loop-terminal.all.items ≡ c.args.terminals.keys = grind (arith, common_steps) in
    let P : List TerminalString → Type 0 = IsStrictlySortedBy terminal_cmp in
    let ascending = subst P (sym all) c.into_iter-terminal-iterator.ensures.into_iter_gives.4 in
    let h = rw c.in-Err-Repeated.field-0-is at c.in-Err-Repeated.ensures.refused in
    no_repeat c.loop-terminal.all.items ascending h.0 c.in-Err-Repeated.field-0-0 h.1

pub returns-in-Ok-clause-ascending : goal.returns-in-Ok-clause-ascending
returns-in-Ok-clause-ascending c =
    let all : c.loop-terminal.all.items ≡ c.args.terminals.keys = grind (arith, common_steps) in
    let P : List TerminalString → Type 0 = IsStrictlySortedBy terminal_cmp in
    subst P (sym (c.in-Ok.ensures.made ∙ all)) c.into_iter-terminal-iterator.ensures.into_iter_gives.4
