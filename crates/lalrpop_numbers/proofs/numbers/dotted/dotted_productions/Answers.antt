use Rattle.std.proofs.Common.{sym, subst}
use Rattle.std.proofs.lemmas.Result.{IfOk-weaker}
use Rattle.lalrpop_grammar.specs.Words.{rules_of}
use Rattle.lalrpop_numbers.specs.Words.{MovesToNext}
use Rattle.lalrpop_collections.proofs.theory.lists.BothFacts.{IfOk-both}
use Rattle.lalrpop_numbers.proofs.theory.numbers.DottedProductions.{listed_items, listed_move}
use Rattle.lalrpop_numbers.proofs.numbers.dotted.dotted_productions.Goals as goal

pub returns-clause-items : goal.returns-clause-items
returns-clause-items c =
    let keys = c.in_ok-starts.starts.keys in
    IfOk-weaker c.list_dots.result _ _ (λ items h. listed_items (rules_of c.args.grammar.now) keys items.items c.in_ok-starts.ensures h.1 h.0) (IfOk-both c.list_dots.result _ _ c.list_dots.ensures.items c.list_dots.ensures.ascend)

pub returns-clause-next : goal.returns-clause-next
returns-clause-next c = IfOk-weaker c.list_dots.result _ _ (λ items h. subst MovesToNext (sym h) (listed_move c.in_ok-starts.starts.keys)) c.list_dots.ensures.items
