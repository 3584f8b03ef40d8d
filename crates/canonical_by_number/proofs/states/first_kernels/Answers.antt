use Rattle.std.proofs.Common.{◌∙◌, List, ap, arith, subst}
use Rattle.std.specs.Prelude.{Contains}
use Rattle.lalrpop_base.specs.Words.{Bits}
use Rattle.lalrpop_numbers.specs.declared.numbers.numbered.Numbered.{Numbered}
use Rattle.canonical_by_number.proofs.Beginning.{Begun-kernels, Begun-made, only_added}
use Rattle.canonical_by_number.proofs.states.first_kernels.Goals as goal

pub packed_items-requires : goal.packed_items-requires
packed_items-requires c = λ e h.
    let known = c.in_ok-start.ensures.known e (subst (λ (is : List (Numbered Bits)). Contains is e) c.as_slice.ensures h) in
    omega (arith, known, c.requires.few)

pub returns-clause-kernels : goal.returns-clause-kernels
returns-clause-kernels c =
    let says = c.in_ok-packed.ensures in
    let one = only_added _ _ _ (ap (λ k. k.list) c.new-kernels.ensures) c.in_ok-add_state.ensures.added in
    let handed = c.in_ok-add_state.ensures.handed ∙ ap (λ k. k.handed) c.new-kernels.ensures in
    Begun-kernels c.args.lr.now.construction c.args.numbers.now c.packed_items.new.sets c.add_state.new.self c.in_ok-packed.packed c.in_ok-start.start one handed says.packed (says.items ∙ c.as_slice.ensures) c.in_ok-start.ensures.known

pub returns-clause-made : goal.returns-clause-made
returns-clause-made c =
    let says = c.in_ok-packed.ensures in
    let one = only_added _ _ _ (ap (λ k. k.list) c.new-kernels.ensures) c.in_ok-add_state.ensures.added in
    let handed = c.in_ok-add_state.ensures.handed ∙ ap (λ k. k.handed) c.new-kernels.ensures in
    Begun-made c.args.lr.now.construction c.args.numbers.now c.packed_items.new.sets c.add_state.new.self c.in_ok-packed.packed c.in_ok-start.start one handed says.packed (says.items ∙ c.as_slice.ensures) c.in_ok-start.ensures.known c.in_ok-start.ensures.kernel c.in_ok-start.ensures.items
