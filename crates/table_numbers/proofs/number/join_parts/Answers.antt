use Rattle.std.proofs.Common.{◌≡◌, List, length, map, sym, ◌∙◌, ap}
use Rattle.lalrpop_grammar.specs.declared.repr.NonterminalString.{NonterminalString}
use Rattle.lalrpop_grammar.specs.declared.repr.Production.{Production}
use Rattle.lalrpop_grammar.specs.declared.repr.TerminalString.{TerminalString}
use Rattle.table_numbers.specs.Lists.{Lists, named, side_of}
use Rattle.table_numbers.proofs.number.join_parts.Goals as goal

pub returns-clause-about : goal.returns-clause-about
returns-clause-about c =
    let lists = c.args.names.now in
    let terminals : c.all.result.now ≡ lists.terminals = c.all.ensures ∙ ap (λ (x : Lists). x.terminals) c.names.view_is in
    let nonterminals : c.all-2.result.now ≡ lists.nonterminals = c.all-2.ensures ∙ ap (λ (x : Lists). x.nonterminals) c.names.view_is in
    let productions : c.all-3.result.now ≡ lists.productions = c.all-3.ensures ∙ ap (λ (x : Lists). x.productions) c.names.view_is in
    record {
      terminals = c.in_ok-terminals.ensures ∙ ap (λ (xs : List TerminalString). length xs) terminals;
      nonterminals = c.in_ok-nonterminals.ensures ∙ ap (λ (xs : List NonterminalString). length xs) nonterminals;
      productions = ap (λ (xs : List NonterminalString). named xs c.in_ok-productions.productions) (sym (ap (λ (x : Lists). x.nonterminals) c.names.view_is))
          ∙ c.in_ok-productions.ensures ∙ ap (λ (ps : List Production). map side_of ps) productions;
    }
