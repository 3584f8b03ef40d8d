use Rattle.std.proofs.Common.{List, ℕ, subst}
use Rattle.std.specs.declared.alloc.Global.{Global}
use Rattle.std.specs.declared.vec.Vec.{Vec}
use Rattle.packed_tables.specs.Packed.{ArePacked}
use Rattle.parser_text.specs.Hidden.{hidden_now}
use Rattle.parser_text.proofs.ArrayLemmas.{arrays_are}
use Rattle.parser_text.proofs.packing.pack_table.Goals as goal

pub returns : goal.returns
returns c =
    let actions = c.in_ok-actions.actions.items in
    let gotos = c.in_ok-gotos.gotos.items in
    let arrays = c.in_ok-pack.field-0 in
    let packed = subst (λ (rows : List (Vec ℕ Global)). ArePacked arrays actions rows) c.deref-2.ensures.value (subst (λ (rows : List (Vec ℕ Global)). ArePacked arrays rows c.deref-2.result.now) c.deref.ensures.value c.in_ok-pack.ensures) in
    arrays_are (hidden_now c.args.hidden) arrays c.args.listed.now c.args.table.now c.args.states actions gotos packed c.in_ok-actions.ensures.counted c.in_ok-gotos.ensures.counted c.in_ok-actions.ensures.each c.in_ok-gotos.ensures.each
