use Rattle.std.proofs.Common.{List, ap, length, subst, sym}
use Rattle.lalrpop_grammar.specs.Words.{HasKnownTerminals}
use Rattle.lalrpop_numbers.proofs.Types.{TerminalString}
use Rattle.lalrpop_numbers.proofs.theory.numbers.Suffixes.{no_rest, rest_behind, rest_is}
use Rattle.lalrpop_grammar.proofs.theory.grammars.Grammars.{known_rest}
use Rattle.lalrpop_numbers.proofs.numbers.suffixes.suffix_of.Goals as goal

pub returns-in_default-symbol : goal.returns-in_default-symbol
returns-in_default-symbol c = no_rest c.args.item.now c.in-Some.symbol.now c.in_default-symbol.field-0 c.in-Some.ensures.next c.in_default-symbol.is

pub first0-requires : goal.first0-requires
first0-requires c =
    let known = known_rest c.args.terminals.now _ c.args.item.now.production.symbols c.in-Some.after.now c.requires.known c.in-Some.ensures.rest in
    record { known = subst (λ (terminals : List TerminalString). HasKnownTerminals terminals c.in-Some.after.now) (sym c.requires.terminals) known }

pub returns : goal.returns
returns c =
    let name = c.in-Nonterminal.field-0 in
    let after = c.in-Some.after.now in (
      name,
      after,
      rest_behind c.args.item.now c.in-Some.symbol.now name after c.in-Some.ensures.next c.in-Nonterminal.is c.in-Some.ensures.rest,
      rest_is c.args.first_sets.now after c.in_ok-first.first c.take_eof-nullable.new.self c.take_eof-nullable.result (length c.args.terminals.now) (ap (λ (terminals : List TerminalString). length terminals) (sym c.requires.terminals)) c.in_ok-first.ensures.first c.take_eof-nullable.ensures.was c.take_eof-nullable.ensures.left,
    )
