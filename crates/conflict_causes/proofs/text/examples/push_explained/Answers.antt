use Rattle.lalrpop_collections.proofs.theory.lists.Pieces.{three_pieces}
use Rattle.conflict_causes.proofs.text.examples.push_explained.Goals as goal

pub returns : goal.returns
returns c = three_pieces _ _ _ _ _ _ _ c.in_ok-push_str.ensures.bytes (rw (c.action_name.ensures, c.deref.ensures.value) at c.in_ok-push_items.ensures) c.in_ok-push_item.ensures
