use Rattle.std.proofs.Common.{◌∷◌, [], ℕ, List, codes}
use Rattle.parser_text.specs.FileArrays.{Parts, array_of, parts_of}
use Rattle.parser_text.proofs.ArrayJoins.{of_numbers, then_list}
use Rattle.parser_text.proofs.arrays.push_cells.Goals as goal

pub returns : goal.returns
returns c =
    let t0 = parts_of c.args.arrays.now.items in
    let t1 = parts_of c.push.new.arrays.items in
    let t2 = parts_of c.push-2.new.arrays.items in
    let t3 = parts_of c.push-3.new.arrays.items in
    let f1 : List ℕ → Parts = array_of c.args.capitals (codes "row") (codes "where the row of a state begins in the next two arrays") in
    let f2 : List ℕ → Parts = array_of c.args.capitals (codes "column") (codes "the terminal to which a cell belongs") in
    let f3 : List ℕ → Parts = array_of c.args.capitals (codes "cell") (codes "the action in a cell") in
    let a1 : Parts = f1 c.args.packed.now.actions.row.items in
    let a2 : Parts = f2 c.args.packed.now.actions.column.items in
    let a3 : Parts = f3 c.args.packed.now.actions.cell.items in
    then_list t0 t1 t3 a1 (a2 ∷ a3 ∷ []) (of_numbers f1 c.deref.result.now c.args.packed.now.actions.row.items t0 t1 c.in_ok-push.ensures c.deref.ensures.value) (then_list t1 t2 t3 a2 (a3 ∷ []) (of_numbers f2 c.deref-2.result.now c.args.packed.now.actions.column.items t1 t2 c.in_ok-push-2.ensures c.deref-2.ensures.value) (of_numbers f3 c.deref-3.result.now c.args.packed.now.actions.cell.items t2 t3 c.in_ok-push-3.ensures c.deref-3.ensures.value))
