use Rattle.std.proofs.Common.{List, subst}
use Rattle.lalrpop_base.specs.Words.{AreFaithful, Bits, contents, productions}
use Rattle.lalrpop_grammar.specs.declared.repr.NonterminalString.{NonterminalString}
use Rattle.lalrpop_grammar.proofs.theory.grammars.NewStart.{is_augmented}
use Rattle.lalrpop_states.specs.declared.lr1_core.state.State.{State}
use Rattle.parse_tables.specs.Tables.{IsTableOf}
use Rattle.table_parser_tests.proofs.any_start.augmented.Goals as goal

pub returns : goal.returns
returns c =
    let old = c.in_ok-grammar.field-0 in
    let new = c.in-Ok.grammar in
    let start = c.in-Ok.start in
    let states = c.in-Ok-build_states.states.items in
    record {
      old = productions old;
      new = productions new;
      old_start = c.in_ok-name_of.field-0;
      new_start = start;
      augmented = is_augmented old new c.in_ok-name_of.field-0 start c.in_ok-grammar.ensures c.in-Ok.ensures.added;
      states = contents new.terminals states;
      faithful = subst (λ (a : NonterminalString). AreFaithful (productions new) a (contents new.terminals states)) c.in_ok-clone.ensures c.in-Ok-build_states.ensures.tables.faithful;
      of_states = subst (λ (list : List (State Bits)). IsTableOf c.in_ok-table.table (contents new.terminals list)) c.deref.ensures.value c.in_ok-table.ensures.table;
      only = c.in-Some.ensures.found;
    }
