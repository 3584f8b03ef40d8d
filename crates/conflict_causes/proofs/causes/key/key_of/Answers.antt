use Rattle.std.proofs.Common.{◌∙◌, ◌++◌, ◌∷◌, [], List, ap}
use Rattle.lalrpop_states.specs.declared.lookahead.nil.Nil.{Nil}
use Rattle.lalrpop_states.specs.states.Items.{Dotted}
use Rattle.conflict_causes.proofs.causes.key.key_of.Goals as goal

pub returns : goal.returns
returns c =
    let first =
    c.in_ok-push.ensures.ok
    ∙ ap (λ (xs : List (Dotted Nil)). xs ++ c.finished.result ∷ []) c.new-key.ensures
    ∙ ap (λ (i : Dotted Nil). i ∷ []) c.finished.ensures in
    record {
      items = c.in_ok-items.items;
      listed = c.in_ok-push_items.ensures ∙ ap (λ (xs : List (Dotted Nil)). xs ++ c.in_ok-items.items.keys) first;
      others = c.in_ok-items.ensures;
    }
