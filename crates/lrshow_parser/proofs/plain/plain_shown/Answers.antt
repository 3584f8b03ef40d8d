use Rattle.std.proofs.Common.{[], inl, inr, None, refl, sym, subst}
use Rattle.std.proofs.lemmas.Result.{IfOk-weaker}
use Rattle.lalrpop_base.specs.Words.{IsOnNoRightSide, productions}
use Rattle.lalrpop_construction.specs.declared.options.Options.{Options}
use Rattle.lalrpop_grammar.specs.declared.repr.NonterminalString.{NonterminalString}
use Rattle.lalrpop_tables.specs.Words.{AreTablesOf}
use Rattle.lrshow_arguments.specs.Words.{parser_view}
use Rattle.lrshow_check.specs.Output.{IsOutput}
use Rattle.lrshow_parser.specs.Parsers.{IsFileOrReason, conflicts_remark, right_side_remark}
use Rattle.lrshow_parser.proofs.plain.plain_shown.Goals as goal

pub returns-then-not-is_on_no_right_side : goal.returns-then-not-is_on_no_right_side
returns-then-not-is_on_no_right_side c =
    IfOk-weaker c.on_right_side.result _ _ (λ s out. inr (inr (record {
      used = λ unused. let yes = c.if-not-is_on_no_right_side.ensures.1 (subst (λ (a : NonterminalString). IsOnNoRightSide (productions c.args.grammar.now) a) (sym c.in_ok-name.ensures) unused) in cc;
      shown = subst (λ (a : NonterminalString). IsOutput 2 [] (right_side_remark a) s) c.in_ok-name.ensures out;
    }))) c.on_right_side.ensures

pub returns-in-Tables : goal.returns-in-Tables
returns-in-Tables c =
    let g = c.args.grammar.now in
    let made = rw c.in-Tables.is at c.in_ok-states.ensures.answer in
    let tables = subst (AreTablesOf ⊥ c.args.method c.default.result.max_copies g c.args.start) (sym c.deref.ensures.value) made in
    IfOk-weaker c.file_shown.result _ _ (λ s out. inl (record {
      unused = subst (λ (a : NonterminalString). IsOnNoRightSide (productions g) a) c.in_ok-name.ensures (c.if-not-is_on_no_right_side.ensures.0 refl);
      states = c.deref.result.now;
      tables = subst (λ (o : Options). AreTablesOf ⊥ c.args.method o.max_copies g c.args.start c.deref.result.now) c.default.ensures tables;
      shown = subst (λ (a : NonterminalString). IsFileOrReason (parser_view c.args.parser) c.args.method g a g None c.deref.result.now s) c.in_ok-name.ensures out;
    })) c.file_shown.ensures

pub returns : goal.returns
returns c =
    let counted = rw c.in-Conflicts.is at c.in_ok-states.ensures.answer in
    IfOk-weaker c.conflicts_remarked.result _ _ (λ s out. inr (inl (record {
      count = c.in-Conflicts.count;
      counted = counted;
      shown = subst (λ (a : NonterminalString). IsOutput 1 [] (conflicts_remark a c.in-Conflicts.count) s) c.in_ok-name.ensures out;
    }))) c.conflicts_remarked.ensures
