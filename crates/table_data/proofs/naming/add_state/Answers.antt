use Rattle.std.proofs.Common.{List, subst}
use Rattle.std.specs.List.{flat_map}
use Rattle.lalrpop_base.specs.Words.{Bits, Dotted}
use Rattle.table_data.specs.Naming.{item_sets, reduction_sets}
use Rattle.table_data.specs.Sets.{AddsSets}
use Rattle.table_data.proofs.NamedSets.{adds_both}
use Rattle.table_data.proofs.naming.add_state.Goals as goal

pub returns : goal.returns
returns c =
    adds_both _ _ _ _ _
    (subst (λ (items : List (Dotted Bits)). AddsSets (flat_map (item_sets c.args.all.now) items) c.args.sets.now c.add_items.new.sets) c.deref.ensures.value c.in_ok-add_items.ensures)
    (subst (λ reductions. AddsSets (flat_map reduction_sets reductions) c.add_items.new.sets c.add_reductions.new.sets) c.deref-2.ensures.value c.in_ok-add_reductions.ensures)
