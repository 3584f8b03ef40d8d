use Rattle.std.proofs.Common.{◌⊎◌, ◌<◌, ◌^◌, ℕ, suc, inl, inr, subst}
use Rattle.std.proofs.lemmas.Result.{IfOk-weaker}
use Rattle.lalrpop_grammar.specs.declared.repr.NonterminalString.{NonterminalString}
use Rattle.lrshow_arguments.specs.Words.{parser_view}
use Rattle.lrshow_parser.specs.Parsers.{AreAugmentedRemarked, IsFileOfAugmented}
use Rattle.lrshow_parser.proofs.SameGrammars.{copy_is_well_formed, same_actions}
use Rattle.lrshow_parser.proofs.augmented.augmented_shown.Goals as goal

pub augment-requires : goal.augment-requires
augment-requires c = copy_is_well_formed c.args.grammar.now c.in_ok-copy.copy c.in_ok-copy.ensures.copy c.requires

pub returns-in-Ok : goal.returns-in-Ok
returns-in-Ok c =
    let g = c.args.grammar.now in
    let h = c.in-Ok.augmented in
    let f = c.in-Ok.new_start in
    IfOk-weaker c.tables_shown.result _ _ (λ s out. inl (record {
      h = h;
      f = f;
      augmented = record { copy = c.in_ok-copy.copy; same = c.in_ok-copy.ensures.copy; added = c.in-Ok.ensures.added };
      shown = subst (λ (a : NonterminalString). IsFileOfAugmented (parser_view c.args.parser) c.args.method g a h f s ⊎ AreAugmentedRemarked a h f s) c.in_ok-name.ensures out;
    })) c.tables_shown.ensures

pub returns : goal.returns
returns c =
    IfOk-weaker c.not_augmented.result _ _ (λ s out. inr (record {
      refused = subst (λ (n : ℕ). 2 ^ 32 < suc n) (same_actions c.args.grammar.now c.in_ok-copy.copy c.in_ok-copy.ensures.copy) out.refused;
      shown = out.shown;
    })) (c.not_augmented.ensures c.in_ok-copy.copy c.in-Err.ensures.refused)
