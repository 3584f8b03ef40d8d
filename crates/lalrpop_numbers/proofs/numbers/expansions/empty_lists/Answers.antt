use Rattle.std.proofs.Common.{ℕ, ◌+◌, List, subst, sym}
use Rattle.std.specs.declared.alloc.Global.{Global}
use Rattle.std.specs.declared.vec.Vec.{Vec}
use Rattle.lalrpop_numbers.specs.Words.{AreEmpty, lists_of}
use Rattle.lalrpop_numbers.proofs.theory.numbers.Numbering.{empty_more}
use Rattle.lalrpop_numbers.proofs.numbers.expansions.empty_lists.Goals as goal

pub loop-place-preserved : goal.loop-place-preserved
loop-place-preserved c =
    subst (λ (vectors : List (Vec ℕ Global)). AreEmpty (c.loop-place._place + 1) (lists_of vectors)) (sym c.in_ok-push.ensures.items) (empty_more c.loop-place._place c.loop-place.lists.items c.new.result c.new.ensures.items c.loop-place.invariant)
