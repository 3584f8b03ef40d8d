use Rattle.std.proofs.Common.{◌∷◌, [], ℕ, List, codes, ◌∙◌}
use Rattle.parser_text.specs.FileArrays.{Parts, array_of, parts_of}
use Rattle.parser_text.proofs.ArrayJoins.{of_numbers, then_list}
use Rattle.parser_text.proofs.arrays.push_reductions.Goals as goal

pub returns : goal.returns
returns c =
    let t0 = parts_of c.args.arrays.now.items in
    let t1 = parts_of c.push.new.arrays.items in
    let t2 = parts_of c.push-2.new.arrays.items in
    let t3 = parts_of c.push-3.new.arrays.items in
    let f1 : List ℕ → Parts = array_of c.args.capitals (codes "reduction") (codes "the usual reduction of a state, as an action, or 0") in
    let f2 : List ℕ → Parts = array_of c.args.capitals (codes "set") (codes "the set of the terminals on which a state makes its usual reduction") in
    let f3 : List ℕ → Parts = array_of c.args.capitals (codes "sets") (codes "the sets, by their bits: the lowest bit of a byte is of the first terminal") in
    let a1 : Parts = f1 c.args.packed.now.reduction.items in
    let a2 : Parts = f2 c.args.packed.now.set.items in
    let a3 : Parts = f3 c.args.packed.now.sets.items in
    then_list t0 t1 t3 a1 (a2 ∷ a3 ∷ []) (of_numbers f1 c.deref.result.now c.args.packed.now.reduction.items t0 t1 c.in_ok-push.ensures c.deref.ensures.value) (then_list t1 t2 t3 a2 (a3 ∷ []) (of_numbers f2 c.deref-2.result.now c.args.packed.now.set.items t1 t2 c.in_ok-push-2.ensures c.deref-2.ensures.value) (of_numbers f3 c.deref-4.result.now c.args.packed.now.sets.items t2 t3 c.in_ok-push-3.ensures (c.deref-4.ensures.value ∙ c.in_ok-numbers.ensures ∙ c.deref-3.ensures.value)))
