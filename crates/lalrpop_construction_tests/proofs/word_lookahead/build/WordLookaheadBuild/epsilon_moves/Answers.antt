use Rattle.std.proofs.Common.{◌≡◌, length, sym, ◌∙◌, ap, subst}
use Rattle.std.specs.Prelude.{Contains}
use Rattle.std.proofs.lemmas.Result.{IfOk-weaker}
use Rattle.lalrpop_base.specs.Words.{has, IsFirstSet, AllDiffer, Rules, HasKnownTerminals}
use Rattle.lalrpop_grammar.specs.declared.repr.Production.{Production}
use Rattle.lalrpop_grammar.proofs.theory.grammars.Grammars.{known_symbols}
use Rattle.lalrpop_construction_tests.specs.WordMoves.{IsWordOf}
use Rattle.lalrpop_construction_tests.proofs.WordMoves.{Word-holds, Word-fits, low_bit}
use Rattle.lalrpop_construction_tests.proofs.word_lookahead.build.WordLookaheadBuild.epsilon_moves.Goals as goal

pub returns : goal.returns
returns c =
    let rules : Rules = c.args.lr.now.construction.rules in
    let same = c.grammar-grammar.ensures.rules in
    let first : IsFirstSet rules c.args.remainder.now c.in_ok-first.first = rw c.first_sets.ensures at c.in_ok-first.ensures.first in
    let word : IsWordOf c.in_ok-first.first (length rules.terminals) c.in_ok-word.word = subst (λ (r : Rules). IsWordOf c.in_ok-first.first (length r.terminals) c.in_ok-word.word) same c.in_ok-word.ensures in
    let differ : AllDiffer rules.terminals = subst (λ (r : Rules). AllDiffer r.terminals) same c.all-all.ensures.distinct in
    let nullable : c.contains_eof-nullable.result ≡ has c.in_ok-first.first (length rules.terminals) = c.contains_eof-nullable.ensures ∙ ap (λ (r : Rules). has c.in_ok-first.first (length r.terminals)) same in
    let known : (p : Production) → Contains rules.productions p → HasKnownTerminals rules.terminals p.symbols = λ p among.
    subst (λ (r : Rules). HasKnownTerminals r.terminals p.symbols) same (known_symbols c.grammar-grammar.result.now p c.grammar-grammar.ensures.well_formed (subst (λ (r : Rules). Contains r.productions p) (sym same) among)) in
    let moves = IfOk-weaker c.items_at_start.result _ _ (λ items begun. record {
      given = c.followed-given.result;
      begun = begun;
      is = record { fits = Word-fits rules differ c.args.remainder.now c.in_ok-first.first first c.in_ok-word.word c.args.lookahead.now word c.followed-given.result c.contains_eof-nullable.result c.followed-given.ensures; holds = Word-holds rules differ c.args.remainder.now c.in_ok-first.first first c.in_ok-word.word c.args.lookahead.now word (low_bit rules known c.args.remainder.now c.requires.known) c.followed-given.result c.contains_eof-nullable.result nullable c.followed-given.ensures };
    }) c.items_at_start.ensures in
    record { moves = moves }
