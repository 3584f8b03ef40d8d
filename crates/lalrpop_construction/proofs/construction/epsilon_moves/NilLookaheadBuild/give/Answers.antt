use Rattle.std.proofs.Common.{inl, inr}
use Rattle.lalrpop_construction.specs.closures.EpsilonMoves.IsGivenAt.{given}
use Rattle.lalrpop_collections.proofs.theory.collections.JoinedEntries.{readings_differ, where_ok}
use Rattle.lalrpop_construction.proofs.theory.closures.EpsilonMoves.{holds_none}
use Rattle.lalrpop_construction.proofs.construction.epsilon_moves.NilLookaheadBuild.give.Goals as goal

pub returns : goal.returns
returns c = record {
  given = where_ok c.join.result c.join.ensures.differ c.join.ensures.joined (λ told differ joined.
      given (record {}) (record { fits = λ f. f; holds = λ t. (λ h. absurd (holds_none c.args._lr.now.construction.rules.terminals t h), λ h. elim h [ inl n ↦ absurd n | inr n ↦ absurd n.0 ]) }) joined (readings_differ _ _ differ));
}
