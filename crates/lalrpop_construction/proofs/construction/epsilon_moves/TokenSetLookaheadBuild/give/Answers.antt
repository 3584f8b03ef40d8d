use Rattle.std.proofs.Common.{◌∙◌, inl, inr, sym, refl}
use Rattle.std.proofs.lemmas.Bool.{false≢true}
use Rattle.lalrpop_base.specs.Words.{Bits, join, Rules}
use Rattle.lalrpop_construction.specs.closures.EpsilonMoves.IsGivenAt.{given}
use Rattle.lalrpop_collections.proofs.theory.collections.JoinedEntries.{readings_differ, where_ok}
use Rattle.lalrpop_grammar.proofs.theory.grammars.Grammars.{known_by_rules}
use Rattle.lalrpop_collections.proofs.theory.lists.JoinedTwice.{joined_both}
use Rattle.lalrpop_collections.proofs.theory.sets.BitSets.{join_turned}
use Rattle.lalrpop_construction.proofs.theory.numbers.SuffixesGiven.{rest_gives}
use Rattle.lalrpop_construction.proofs.construction.epsilon_moves.TokenSetLookaheadBuild.give.Goals as goal

pub returns-then-not-suffix : goal.returns-then-not-suffix
returns-then-not-suffix c =
    let rules : Rules = c.args.lr.now.construction.rules in
    let known = known_by_rules c.grammar-grammar.result.now rules c.grammar-grammar.ensures.rules c.grammar-grammar.ensures.well_formed in
    record {
      given = where_ok c.join_copy.result c.join_copy.ensures.differ c.join_copy.ensures.joined (λ told differ joined.
          given c.args.suffix.now.first
          (rest_gives rules c.args._remainder.now c.args.suffix.now c.requires.suffix known c.requires.known c.args.lookahead.now _ (inr (λ is. false≢true (sym c.if-not-suffix.true ∙ is), refl)))
          joined (readings_differ (λ (s : Bits). s) _ differ));
    }

pub returns : goal.returns
returns c =
    let rules : Rules = c.args.lr.now.construction.rules in
    let first = c.args.suffix.now.first in
    let tokens = c.args.lookahead.now in
    let known = known_by_rules c.grammar-grammar.result.now rules c.grammar-grammar.ensures.rules c.grammar-grammar.ensures.well_formed in
    record {
      given = given (join tokens first)
          (rest_gives rules c.args._remainder.now c.args.suffix.now c.requires.suffix known c.requires.known tokens _ (inl (c.if-not-suffix.false, join_turned tokens first)))
          (joined_both c.args.number tokens first c.in_ok-passed.passed c.in_ok-generated.generated _ _ _ c.in_ok-passed.ensures.joined c.in_ok-generated.ensures.joined (readings_differ (λ (s : Bits). s) _ c.in_ok-passed.ensures.differ) (readings_differ (λ (s : Bits). s) _ c.in_ok-generated.ensures.differ))
          (readings_differ (λ (s : Bits). s) _ c.in_ok-generated.ensures.differ);
    }
