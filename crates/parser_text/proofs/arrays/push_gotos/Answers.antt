use Rattle.std.proofs.Common.{◌∷◌, [], ℕ, List, codes}
use Rattle.parser_text.specs.FileArrays.{Parts, array_of, parts_of}
use Rattle.parser_text.proofs.ArrayJoins.{of_numbers, then_list}
use Rattle.parser_text.proofs.arrays.push_gotos.Goals as goal

pub returns : goal.returns
returns c =
    let t0 = parts_of c.args.arrays.now.items in
    let t1 = parts_of c.push.new.arrays.items in
    let t2 = parts_of c.push-2.new.arrays.items in
    let t3 = parts_of c.push-3.new.arrays.items in
    let t4 = parts_of c.push-4.new.arrays.items in
    let f1 : List ℕ → Parts = array_of c.args.capitals (codes "goto_row") (codes "where the row of a state begins in the next two arrays") in
    let f2 : List ℕ → Parts = array_of c.args.capitals (codes "goto_column") (codes "the nonterminal to which a cell belongs") in
    let f3 : List ℕ → Parts = array_of c.args.capitals (codes "goto_cell") (codes "the state to which a goto leads") in
    let f4 : List ℕ → Parts = array_of c.args.capitals (codes "goto_usual") (codes "where the gotos on a nonterminal lead in most states") in
    let a1 : Parts = f1 c.args.packed.now.gotos.row.items in
    let a2 : Parts = f2 c.args.packed.now.gotos.column.items in
    let a3 : Parts = f3 c.args.packed.now.gotos.cell.items in
    let a4 : Parts = f4 c.args.packed.now.goto_usual.items in
    then_list t0 t1 t4 a1 (a2 ∷ a3 ∷ a4 ∷ []) (of_numbers f1 c.deref.result.now c.args.packed.now.gotos.row.items t0 t1 c.in_ok-push.ensures c.deref.ensures.value) (then_list t1 t2 t4 a2 (a3 ∷ a4 ∷ []) (of_numbers f2 c.deref-2.result.now c.args.packed.now.gotos.column.items t1 t2 c.in_ok-push-2.ensures c.deref-2.ensures.value) (then_list t2 t3 t4 a3 (a4 ∷ []) (of_numbers f3 c.deref-3.result.now c.args.packed.now.gotos.cell.items t2 t3 c.in_ok-push-3.ensures c.deref-3.ensures.value) (of_numbers f4 c.deref-4.result.now c.args.packed.now.goto_usual.items t3 t4 c.in_ok-push-4.ensures c.deref-4.ensures.value)))
