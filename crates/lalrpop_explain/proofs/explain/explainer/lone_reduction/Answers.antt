use Rattle.std.proofs.Common.{◌++◌, ◌∷◌, [], ◌∙◌, ap}
use Rattle.lalrpop_explain.proofs.explain.explainer.lone_reduction.Goals as goal

pub returns-clause-explained : goal.returns-clause-explained
returns-clause-explained c = record {
  item = c.in_ok-item.item;
  alone = c.in_ok-push.ensures.items ∙ ap (λ xs. xs ++ c.in_ok-item.item ∷ []) c.new-list.ensures.items;
  explained = c.in_ok-item.ensures.explained;
}
