use Rattle.std.proofs.Common.{List, [], subst}
use Rattle.lalrpop_base.specs.Words.{contents}
use Rattle.lalrpop_grammar.specs.declared.repr.NonterminalString.{NonterminalString}
use Rattle.lalrpop_grammar.specs.declared.repr.TerminalString.{TerminalString}
use Rattle.parse_tables.specs.StateRows.{HaveActions, HaveGotos}
use Rattle.parse_tables.proofs.StateRows.{same_gotos}
use Rattle.parse_tables.proofs.table.ParseTable.new.Goals as goal

pub returns-clause-table : goal.returns-clause-table
returns-clause-table c =
    let terminals = c.in_ok-terminals.terminals in
    record {
      actions = subst (λ (ts : List TerminalString). HaveActions terminals c.in_ok-productions.productions (contents ts c.args.states.now) c.in_ok-actions.actions) c.in_ok-terminals.ensures c.in_ok-actions.ensures;
      gotos = same_gotos c.args.grammar.now.terminals c.args.states.now c.in_ok-nonterminals.nonterminals c.in_ok-gotos.gotos (subst (λ (ns : List NonterminalString). HaveGotos ns (contents [] c.args.states.now) c.in_ok-gotos.gotos) c.all-2.ensures c.in_ok-gotos.ensures);
    }
