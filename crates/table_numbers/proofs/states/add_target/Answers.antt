use Rattle.lalrpop_collections.proofs.theory.lists.Updates.{exact_order}
use Rattle.table_numbers.proofs.MadeLemmas.{adds_target, no_value}
use Rattle.table_numbers.proofs.states.add_target.Goals as goal

pub returns : goal.returns
returns g c =
    let exact = exact_order g.K.PartialEq.eq g.K.Ord.cmp g.met.K.Exact.exact g.met.K.Ord.matches_eq in
    adds_target g.K.Ord.cmp g.met.K.Ord.total exact c.args.targets.now c.insert.new.self c.args.name (record { 0 = c.args.target }) (no_value _ c.if-contains_key.ensures) c.in_ok-insert.ensures.updates.0
