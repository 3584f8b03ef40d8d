use Rattle.std.proofs.Common.{◌≡◌, ◌∙◌, sym, ap}
use Rattle.lalrpop_collections.specs.Words.{join, join_twice}
use Rattle.lalrpop_collections.proofs.theory.states.Settled.{settled}
use Rattle.lalrpop_states.proofs.lookahead.join_twice.Goals as goal

pub returns : goal.returns
returns g c = settled _ _ _ _ (λ joined.
    let first : ◌≡◌ (g.L.Lookahead.meaning c.join.new.into) (join (g.L.Lookahead.meaning c.args.into.now) (g.L.Lookahead.meaning c.args.from.now)) = c.in_ok-join.ensures.joined in
    g.met.L.Lookahead.same_by_meaning _ _ (joined ∙ ap (λ s. join s (g.L.Lookahead.meaning c.args.from.now)) first ∙ join_twice _ _ ∙ sym first)) c.join-2.ensures.joined c.join-2.ensures.told
