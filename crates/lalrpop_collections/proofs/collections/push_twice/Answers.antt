use Rattle.std.proofs.Common.{ap, ◌∙◌, sym}
use Rattle.std.specs.BTreeSet.{insert_key}
use Rattle.lalrpop_collections.proofs.theory.lists.SetLemmas.{insert_key-twice, told_unchanged}
use Rattle.lalrpop_collections.proofs.collections.push_twice.Goals as goal

pub returns : goal.returns
returns g c =
    told_unchanged c.push-2.result _ _ c.push-2.ensures.pushed (λ pushed. pushed ∙ ap (λ keys. insert_key g.T.Ord.cmp keys c.args.again) c.in_ok-push.ensures.pushed ∙ insert_key-twice g.met.T.Ord.total c.args.item c.args.again c.requires _ ∙ sym c.in_ok-push.ensures.pushed) c.push-2.ensures.told
