use Rattle.std.proofs.Common.{◌≡◌, OnOk, subst, sym}
use Rattle.lalrpop_base.specs.Words.{Dotted, Visits}
use Rattle.lr1_theory.proofs.theory.grammars.Tables.{same_lr0}
use Rattle.lalrpop_check.proofs.Types.{Nil}
use Rattle.lalrpop_check.proofs.check.closing.visit.Goals as goal

pub visit-requires : goal.visit-requires
visit-requires c = sym (same_lr0 _ _ c.to_lr0.ensures.production c.to_lr0.ensures.index)

pub returns : goal.returns
returns c =
    let same : c.to_lr0.result ≡ c.args.item = same_lr0 _ _ c.to_lr0.ensures.production c.to_lr0.ensures.index in
    subst (λ (i : Dotted Nil). OnOk c.visit.result (Visits (λ k. i ≡ k) c.args.walk.now c.visit.new.self)) same c.visit.ensures
