use Rattle.std.proofs.Common.{◌++◌, sym, ap, ◌∙◌, append-nil}
use Rattle.lalrpop_grammar.specs.Words.{pending_rests}
use Rattle.lalrpop_grammar.proofs.theory.first.FirstRests.{Released}
use Rattle.lalrpop_grammar.proofs.first.rests.release.Goals as goal

pub returns-in-None : goal.returns-in-None
returns-in-None c = rw c.replace.ensures.after (Released _ _ _ c.requires _ c.index_mut.ensures.value _ (sym (append-nil c.args.rests.now.items) ∙ ap (λ o. c.args.rests.now.items ++ pending_rests o) (sym c.in-None.is ∙ c.replace.ensures.value)))
