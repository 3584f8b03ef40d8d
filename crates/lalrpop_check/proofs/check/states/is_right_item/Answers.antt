use Rattle.std.proofs.Common.{◌≡◌, ◌∙◌, refl}
use Rattle.lalrpop_base.specs.Words.{finished}
use Rattle.lr1_theory.proofs.theory.grammars.Tables.{same_lr0}
use Rattle.lalrpop_check.proofs.check.states.is_right_item.Goals as goal

pub returns : goal.returns
returns c =
    let p = c.args.item.now.production in
    let key : c.to_lr0.result ≡ finished p = same_lr0 c.to_lr0.result (finished p) c.to_lr0.ensures.production (c.to_lr0.ensures.index ∙ c.if-not-can_reduce.ensures.0 refl) in (
      λ h. record { shifts = c.if-not-leads_on.ensures.0 refl; finished = λ e. (c.requires p).0 (rw key at (c.has_key.ensures.0 h)) },
      λ right. c.has_key.ensures.1 (rw key ((c.requires p).1 (right.finished (c.if-not-can_reduce.ensures.0 refl)))),
    )
