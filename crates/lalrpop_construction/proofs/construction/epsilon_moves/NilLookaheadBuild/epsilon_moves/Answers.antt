use Rattle.std.proofs.Common.{inl, inr}
use Rattle.std.proofs.lemmas.Result.{IfOk-weaker}
use Rattle.lalrpop_construction.proofs.theory.closures.EpsilonMoves.{holds_none}
use Rattle.lalrpop_construction.proofs.construction.epsilon_moves.NilLookaheadBuild.epsilon_moves.Goals as goal

pub returns : goal.returns
returns c = record {
  moves = IfOk-weaker c.items_at_start.result _ _ (λ items begun. record {
    given = c.args.lookahead.now;
    begun = begun;
    is = record { fits = λ f. f; holds = λ t. (λ h. absurd (holds_none c.args.lr.now.construction.rules.terminals t h), λ h. elim h [ inl n ↦ absurd n | inr n ↦ absurd n.0 ]) };
  }) c.items_at_start.ensures;
}
