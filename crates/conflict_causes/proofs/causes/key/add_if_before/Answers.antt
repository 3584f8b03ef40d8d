use Rattle.std.proofs.Common.{◌∙◌, ap, refl}
use Rattle.std.specs.BTreeSet.{insert_key}
use Rattle.lalrpop_collections.proofs.theory.lists.CheckSets.{inserted}
use Rattle.lalrpop_states.specs.declared.lookahead.nil.Nil.{Nil}
use Rattle.lalrpop_states.specs.states.Items.{Dotted, with_dot}
use Rattle.conflict_causes.specs.Keys.{item_order}
use Rattle.conflict_causes.specs.Keys.AddsIfBefore.{added}
use Rattle.conflict_causes.proofs.SameKeys.{bare_is, item_exact, item_total}
use Rattle.conflict_causes.proofs.causes.key.add_if_before.Goals as goal

pub returns-in_ok-insert-clause-added : goal.returns-in_ok-insert-clause-added
returns-in_ok-insert-clause-added c =
    let bare = with_dot c.args.item.now.production c.args.item.now.index in
    let is_bare = bare_is c.to_lr0.result c.args.item.now.production c.args.item.now.index c.to_lr0.ensures.production c.to_lr0.ensures.index in
    added (c.if-is_before.ensures.0 refl)
    (inserted item_order item_total item_exact bare c.args.set.now.keys c.insert.new.self.keys (c.in_ok-insert.ensures.keys ∙ ap (λ (i : Dotted Nil). insert_key item_order c.args.set.now.keys i) is_bare))
