use Rattle.std.proofs.Common.{◌||◌, ◌++◌, ◌∷◌, [], ◌∙◌, ap}
use Rattle.std.specs.List.{list_any}
use Rattle.std.specs.BTreeSet.{contains}
use Rattle.grammar_text.proofs.Growth.{collected_more}
use Rattle.grammar_text.specs.Grammar.{terminal_cmp, terminals_of}
use Rattle.grammar_text.specs.Collected.{is_same}
use Rattle.grammar_text.proofs.collected.Collected.add_production.Goals as goal

pub returns-clause-ok : goal.returns-clause-ok
returns-clause-ok c = λ lines was. collected_more lines c.args.self.now _ c.args.nonterminal c.in_ok-name.name c.args.symbols c.in_ok-action.action c.args.span was
    (c.in_ok-action.ensures.ok ∙ c.len.ensures ∙ c.args.self.now.action_fn_defns.ok.0) c.in_ok-name.ensures c.in_ok-add_to_entry.ensures.entries c.in_ok-add_to_entry.ensures.ordered
    (λ t. c.in_ok-add_terminals.ensures t ∙ ap (λ symbols. contains terminal_cmp c.args.self.now.terminals t || list_any (λ x. is_same x t) (terminals_of symbols)) c.as_slice.ensures)
    (c.in_ok-push.ensures.items ∙ ap (λ defn. c.args.self.now.action_fn_defns.items ++ defn ∷ []) c.in_ok-user_defn.ensures)
