use Rattle.std.proofs.Common.{◌∙◌, ◌<◌, ap, arith, length}
use Rattle.std.specs.Prelude.{Some, None}
use Rattle.lalrpop_follow_sets.proofs.theory.follow_sets.FollowSteps.{no_rest_tells, rest_tells}
use Rattle.lalrpop_collections.proofs.theory.lists.Places.{slice_get_at}
use Rattle.lalrpop_follow_sets.proofs.follow_sets.walk.passes.Goals as goal

pub returns-in-Some : goal.returns-in-Some
returns-in-Some c = λ i at.
    let pass = c.args.pass.now in
    let known : c.args.item < length pass.suffixes.now = let l = c.requires.known in let e = c.requires.pass.suffixes.counted in omega arith in
    let there = slice_get_at pass.suffixes.now c.args.item c.index-pass-item.result known c.index-pass-item.is ∙ ap Some (c.index-pass-item.is ∙ c.in-Some.is) in
    rest_tells pass i c.in-Some.suffix (c.requires.pass.suffixes.each c.args.item i (Some c.in-Some.suffix) at there)

pub returns-in-None : goal.returns-in-None
returns-in-None c = λ i at.
    let pass = c.args.pass.now in
    let known : c.args.item < length pass.suffixes.now = let l = c.requires.known in let e = c.requires.pass.suffixes.counted in omega arith in
    let there = slice_get_at pass.suffixes.now c.args.item c.index-pass-item.result known c.index-pass-item.is ∙ ap Some (c.index-pass-item.is ∙ c.in-None.is) in
    no_rest_tells pass i (c.requires.pass.suffixes.each c.args.item i None at there)
