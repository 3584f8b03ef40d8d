use Rattle.std.proofs.Common.{[], inl, inr, Some, sym, subst}
use Rattle.std.proofs.lemmas.Result.{IfOk-weaker}
use Rattle.lalrpop_construction.specs.declared.options.Options.{Options}
use Rattle.lalrpop_grammar.specs.declared.repr.NonterminalString.{NonterminalString}
use Rattle.lalrpop_tables.specs.Words.{AreTablesOf}
use Rattle.lrshow_arguments.specs.Words.{parser_view}
use Rattle.lrshow_check.specs.Output.{IsOutput}
use Rattle.lrshow_parser.specs.Parsers.{IsFileOrReason, augmented_remark}
use Rattle.lrshow_parser.proofs.augmented.tables_shown.Goals as goal

pub returns-in-Tables : goal.returns-in-Tables
returns-in-Tables c =
    let g = c.args.grammar.now in
    let h = c.args.augmented.now in
    let made = rw c.in-Tables.is at c.in_ok-states.ensures.answer in
    let tables = subst (AreTablesOf ⊥ c.args.method c.default.result.max_copies h c.args.new_start) (sym c.deref.ensures.value) made in
    IfOk-weaker c.file_shown.result _ _ (λ s out. inl (record {
      states = c.deref.result.now;
      tables = subst (λ (o : Options). AreTablesOf ⊥ c.args.method o.max_copies h c.args.new_start c.deref.result.now) c.default.ensures tables;
      shown = subst (λ (a : NonterminalString). IsFileOrReason (parser_view c.args.parser) c.args.method g c.args.start.now h (Some a) c.deref.result.now s) c.in_ok-hidden.ensures out;
    })) c.file_shown.ensures

pub returns : goal.returns
returns c =
    let counted = rw c.in-Conflicts.is at c.in_ok-states.ensures.answer in
    IfOk-weaker c.conflicts_remarked.result _ _ (λ s out. inr (record {
      count = c.in-Conflicts.count;
      counted = counted;
      shown = subst (λ (a : NonterminalString). IsOutput 1 [] (augmented_remark c.args.start.now a c.in-Conflicts.count) s) c.in_ok-hidden.ensures out;
    })) c.conflicts_remarked.ensures
