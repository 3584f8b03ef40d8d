use Rattle.lalrpop_states.proofs.theory.states.HeldTokens.{holds_has, same_test}
use Rattle.lalrpop_states.specs.Words.{holds_token}
use Rattle.lalrpop_states.proofs.lr1_core.actions.holds.Goals as goal

pub returns : goal.returns
returns c =
    let has = holds_has c.args.terminals.now c.all-distinct.ensures.distinct c.args.tokens.now c.args.token.now in
    same_test c.contains.result (holds_token c.args.terminals.now c.args.tokens.now c.args.token.now) (λ h. has.1 (c.contains.ensures.0 h), λ h. c.contains.ensures.1 (has.0 h))
