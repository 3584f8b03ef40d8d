use Rattle.std.proofs.Common.{◌++◌, ◌∙◌, List, ap}
use Rattle.parser_text.specs.FileArrays.{Parts, cell_arrays, goto_arrays, parts_of, reduction_arrays, side_arrays}
use Rattle.parser_text.proofs.ArrayJoins.{then_lists}
use Rattle.parser_text.proofs.arrays.file_arrays.Goals as goal

pub returns : goal.returns
returns c =
    let capitals = c.args.capitals in
    let packed = c.args.packed.now in
    let t0 = parts_of c.new-arrays.result.items in
    let t1 = parts_of c.push_cells.new.arrays.items in
    let t2 = parts_of c.push_reductions.new.arrays.items in
    let t3 = parts_of c.push_gotos.new.arrays.items in
    let t4 = parts_of c.push_sides.new.arrays.items in
    let a1 = cell_arrays capitals packed in
    let a2 = reduction_arrays capitals packed in
    let a3 = goto_arrays capitals packed in
    let a4 = side_arrays capitals c.args.left.now c.args.lengths.now in
    let r3 = a3 ++ a4 in
    let r2 = a2 ++ r3 in
    then_lists t0 t1 t4 a1 r2 c.in_ok-push_cells.ensures (then_lists t1 t2 t4 a2 r3 c.in_ok-push_reductions.ensures (then_lists t2 t3 t4 a3 a4 c.in_ok-push_gotos.ensures c.in_ok-push_sides.ensures))
    ∙ ap (λ (t : List Parts). t ++ (a1 ++ r2)) (ap parts_of c.new-arrays.ensures.items)
