use Rattle.std.proofs.Common.{sym, ◌∙◌}
use Rattle.lalrpop_grammar.proofs.theory.first.FirstRests.{Listed, Put-off}
use Rattle.lalrpop_grammar.proofs.first.rests.list_or_put_off.Goals as goal

pub returns-in_ok-push-in-Some : goal.returns-in_ok-push-in-Some
returns-in_ok-push-in-Some c = rw c.replace.ensures.after (Put-off _ _ _ c.requires _ c.index_mut.ensures.value _ _ _ (sym c.replace.ensures.value ∙ c.in-Some.is) c.in_ok-push-in-Some.ensures.ok)

pub returns-in_ok-push-in-None : goal.returns-in_ok-push-in-None
returns-in_ok-push-in-None c = rw c.replace.ensures.after (Listed _ _ _ c.requires _ c.index_mut.ensures.value _ _ (sym c.replace.ensures.value ∙ c.in-None.is) c.in_ok-push-in-None.ensures.items)
