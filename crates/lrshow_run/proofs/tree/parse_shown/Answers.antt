use Rattle.std.proofs.Common.{List, ◌∙◌, inl, map, string_bytes, subst}
use Rattle.std.proofs.lemmas.Result.{IfOk-weaker}
use Rattle.lalrpop_base.specs.Words.{contents}
use Rattle.lalrpop_construction.specs.declared.options.Options.{Options}
use Rattle.lalrpop_grammar.specs.declared.repr.NonterminalString.{NonterminalString}
use Rattle.lalrpop_grammar.specs.declared.repr.TerminalString.{TerminalString}
use Rattle.lalrpop_grammar.specs.declared.repr.TerminalString.TheVariants.{Literal}
use Rattle.lalrpop_lr1.proofs.theory.runs.ByTables.{are_coherent, are_faithful, are_some, made_states}
use Rattle.lalrpop_tables.specs.Words.{AreTablesOf}
use Rattle.lrshow_run.specs.Trees.{IsRunDrawn}
use Rattle.lrshow_run.proofs.tree.parse_shown.Goals as goal

pub run_shown-requires-clause-coherent : goal.run_shown-requires-clause-coherent
run_shown-requires-clause-coherent c = are_coherent ⊥ c.args.method c.default.result.max_copies c.args.grammar.now c.args.start c.in_ok-name.name c.in_ok-name.ensures c.in-Tables.states.items c.deref.result.now c.deref.ensures.value (rw c.in-Tables.is at c.in_ok-states.ensures.answer)

pub run_shown-requires-clause-some : goal.run_shown-requires-clause-some
run_shown-requires-clause-some c = are_some ⊥ c.args.method c.default.result.max_copies c.args.grammar.now c.args.start c.in_ok-name.name c.in_ok-name.ensures c.in-Tables.states.items c.deref.result.now c.deref.ensures.value (rw c.in-Tables.is at c.in_ok-states.ensures.answer)

pub run_shown-requires-clause-faithful : goal.run_shown-requires-clause-faithful
run_shown-requires-clause-faithful c = are_faithful ⊥ c.args.method c.default.result.max_copies c.args.grammar.now c.args.start c.in_ok-name.name c.in_ok-name.ensures c.in-Tables.states.items c.deref.result.now c.deref.ensures.value (rw c.in-Tables.is at c.in_ok-states.ensures.answer)

pub returns-in-Tables : goal.returns-in-Tables
returns-in-Tables c =
    let g = c.args.grammar.now in
    let table = contents g.terminals c.deref.result.now in
    let made = made_states ⊥ c.args.method c.default.result.max_copies c.args.grammar.now c.args.start c.in_ok-name.name c.in_ok-name.ensures c.in-Tables.states.items c.deref.result.now c.deref.ensures.value (rw c.in-Tables.is at c.in_ok-states.ensures.answer) in
    IfOk-weaker c.run_shown.result _ _ (λ s out. inl (record {
      states = c.deref.result.now;
      tables = subst (λ (o : Options). AreTablesOf ⊥ c.args.method o.max_copies g c.args.start c.deref.result.now) c.default.ensures made;
      run = subst (λ (a : NonterminalString). IsRunDrawn g a table (map Literal (map string_bytes c.args.words.now)) c.args.is_graph s) c.in_ok-name.ensures
          (subst (λ (w : List TerminalString). IsRunDrawn g c.in_ok-name.name table w c.args.is_graph s) (c.deref-in-Tables.ensures.value ∙ c.in_ok-tokens.ensures) out);
    })) c.run_shown.ensures
