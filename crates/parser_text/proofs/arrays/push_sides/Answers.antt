use Rattle.std.proofs.Common.{◌∷◌, [], ℕ, List, codes}
use Rattle.parser_text.specs.FileArrays.{Parts, array_of, parts_of}
use Rattle.parser_text.proofs.ArrayJoins.{then_list}
use Rattle.parser_text.proofs.arrays.push_sides.Goals as goal

pub returns : goal.returns
returns c =
    let t0 = parts_of c.args.arrays.now.items in
    let t1 = parts_of c.push.new.arrays.items in
    let t2 = parts_of c.push-2.new.arrays.items in
    let f1 : List ℕ → Parts = array_of c.args.capitals (codes "left") (codes "the nonterminal of a production") in
    let f2 : List ℕ → Parts = array_of c.args.capitals (codes "length") (codes "how many symbols the right side of a production has") in
    let a1 : Parts = f1 c.args.left.now in
    let a2 : Parts = f2 c.args.lengths.now in
    then_list t0 t1 t2 a1 (a2 ∷ []) c.in_ok-push.ensures c.in_ok-push-2.ensures
