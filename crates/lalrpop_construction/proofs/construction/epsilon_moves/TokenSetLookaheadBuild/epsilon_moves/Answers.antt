use Rattle.std.proofs.lemmas.Result.{IfOk-weaker}
use Rattle.lalrpop_base.specs.Words.{IsFirstSetBefore, FitsTokens, Rules}
use Rattle.lalrpop_construction.proofs.theory.closures.EpsilonMoves.{First-holds}
use Rattle.lalrpop_grammar.proofs.theory.grammars.Grammars.{known_by_rules}
use Rattle.lalrpop_construction.proofs.construction.epsilon_moves.TokenSetLookaheadBuild.epsilon_moves.Goals as goal

pub returns : goal.returns
returns c =
    let rules : Rules = c.args.lr.now.construction.rules in
    let same = c.first_sets.ensures in
    let first : IsFirstSetBefore rules c.args.remainder.now c.args.lookahead.now c.in_ok-given.given = rw same at c.in_ok-given.ensures.first in
    let fits : FitsTokens rules.terminals c.args.lookahead.now → FitsTokens rules.terminals c.in_ok-given.given = rw same at c.in_ok-given.ensures.fits in
    let known = known_by_rules c.grammar-grammar.result.now rules c.grammar-grammar.ensures.rules c.grammar-grammar.ensures.well_formed in
    let given = IfOk-weaker c.items_at_start.result _ _ (λ items begun. record {
      given = c.in_ok-given.given;
      begun = begun;
      is = record { fits = fits; holds = First-holds rules known c.args.remainder.now c.requires.known c.args.lookahead.now c.in_ok-given.given first };
    }) c.items_at_start.ensures in
    record { moves = given }
