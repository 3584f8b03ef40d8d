use Rattle.std.proofs.Common.{◌∙◌, ap, refl, true, false, arith, Some}
use Rattle.std.proofs.lemmas.Option.{slice_get_within}
use Rattle.lalrpop_base.specs.Words.{Begins, Bits, dotted_at}
use Rattle.lalrpop_collections.specs.lists.Entries.IsPut.{came}
use Rattle.lalrpop_collections.proofs.theory.collections.Queues.{put_with}
use Rattle.lalrpop_collections.proofs.theory.lists.Places.{slice_get_at}
use Rattle.lalrpop_construction.proofs.theory.closures.PropagatedItems.{Finished-shares, Restless-shares}
use Rattle.lalrpop_construction.proofs.theory.numbers.Numbers.{finished, stands_at}
use Rattle.canonical_by_number.specs.TokenSets.{set_at}
use Rattle.canonical_by_number.specs.Closures.{LetsPass}
use Rattle.canonical_by_number.proofs.TokenSets.{keeps_all}
use Rattle.canonical_by_number.proofs.Propagating.{Given-numbers, first_within}
use Rattle.canonical_by_number.proofs.closure.propagate.Goals as goal

pub returns-in_default-clause-shares : goal.returns-in_default-clause-shares
returns-in_default-clause-shares c =
    let counted = c.requires.numbers.suffixes.counted in
    let at = slice_get_at c.args.numbers.now.suffixes.items c.args.number c.index.result.now (omega (arith, c.requires.known)) c.index.ensures in
    record {
      kept = keeps_all c.args.sets.now;
      known = c.requires.shared;
      shares = Restless-shares Begins LetsPass _ _ c.requires.numbers c.args.number _ c.requires.known (at ∙ ap Some c.in_default.is) _ _;
    }

pub returns-in_default-index-clause-shares : goal.returns-in_default-index-clause-shares
returns-in_default-index-clause-shares c =
    let counted = c.args.numbers.now.counted in
    let at = slice_get_at c.args.numbers.now.behind.items c.args.number c.index-2.result.now (omega (arith, c.requires.known)) c.index-2.ensures in
    record {
      kept = keeps_all c.args.sets.now;
      known = c.requires.shared;
      shares = Finished-shares Begins LetsPass _ _ c.requires.numbers c.args.number _ (finished c.args.lr.now.construction.rules c.args.numbers.now c.requires.numbers {L = Bits} (record { number = c.args.number; lookahead = set_at c.args.sets.now c.args.tokens }) (at ∙ ap Some c.in_default-index.is)) _ _;
    }

pub give-requires-clause-first : goal.give-requires-clause-first
give-requires-clause-first c =
    let counted = c.requires.numbers.suffixes.counted in
    let at = slice_get_at c.args.numbers.now.suffixes.items c.args.number c.index.result.now (omega (arith, c.requires.known)) c.index.ensures in
    first_within c.args.lr.now.construction.rules c.args.numbers.now c.requires.numbers c.args.sets.now c.args.firsts.now c.requires.firsts c.args.number c.requires.known c.in-Some.suffix (at ∙ ap Some c.in-Some.is) _ refl

pub returns-in_ok-add-clause-shares : goal.returns-in_ok-add-clause-shares
returns-in_ok-add-clause-shares c =
    let suffixes = c.requires.numbers.suffixes.counted in
    let counted = c.args.numbers.now.counted in
    let at = slice_get_at c.args.numbers.now.suffixes.items c.args.number c.index.result.now (omega (arith, c.requires.known)) c.index.ensures in
    let behind = slice_get_at c.args.numbers.now.behind.items c.args.number c.index-2.result.now (omega (arith, c.requires.known)) c.index-2.ensures in
    record {
      kept = c.in_ok-give.ensures.kept;
      known = c.in_ok-give.ensures.known;
      shares = Given-numbers c.args.lr.now.construction.rules c.args.numbers.now c.requires.numbers c.args.sets.now c.args.firsts.now c.requires.firsts c.args.number c.requires.known c.in-Some.suffix (at ∙ ap Some c.in-Some.is) _ refl c.grammar-grammar.result.now c.grammar-grammar.ensures.rules c.grammar-grammar.ensures.well_formed c.args.tokens c.in-Some-index.symbol (behind ∙ ap Some c.in-Some-index.is)
          c.give.new.sets true c.args.shared.now c.give.new.shared c.args.queue.now.numbers c.add.new.self.numbers (rw (← c.if-branch.true) c.in_ok-give.ensures.given) c.in_ok-give.ensures.differ (put_with c.in-Some-index.symbol c.args.queue.now.numbers c.add.new.self.numbers c.in_ok-add.ensures.added);
    }

pub returns-else-branch-clause-shares : goal.returns-else-branch-clause-shares
returns-else-branch-clause-shares c =
    let suffixes = c.requires.numbers.suffixes.counted in
    let counted = c.args.numbers.now.counted in
    let at = slice_get_at c.args.numbers.now.suffixes.items c.args.number c.index.result.now (omega (arith, c.requires.known)) c.index.ensures in
    let behind = slice_get_at c.args.numbers.now.behind.items c.args.number c.index-2.result.now (omega (arith, c.requires.known)) c.index-2.ensures in
    record {
      kept = c.in_ok-give.ensures.kept;
      known = c.in_ok-give.ensures.known;
      shares = Given-numbers c.args.lr.now.construction.rules c.args.numbers.now c.requires.numbers c.args.sets.now c.args.firsts.now c.requires.firsts c.args.number c.requires.known c.in-Some.suffix (at ∙ ap Some c.in-Some.is) _ refl c.grammar-grammar.result.now c.grammar-grammar.ensures.rules c.grammar-grammar.ensures.well_formed c.args.tokens c.in-Some-index.symbol (behind ∙ ap Some c.in-Some-index.is)
          c.give.new.sets false c.args.shared.now c.give.new.shared c.args.queue.now.numbers c.args.queue.now.numbers (rw (← c.if-branch.false) c.in_ok-give.ensures.given) c.in_ok-give.ensures.differ (came refl);
    }

pub add-requires : goal.add-requires
add-requires c =
    let counted = c.args.numbers.now.counted in
    let behind = slice_get_at c.args.numbers.now.behind.items c.args.number c.index-2.result.now (omega (arith, c.requires.known)) c.index-2.ensures in
    let named = c.requires.numbers.behind c.args.number (dotted_at c.args.numbers.now.items.items c.args.number) (Some c.in-Some-index.symbol) (stands_at c.args.numbers.now.items.items c.args.number c.requires.known) (behind ∙ ap Some c.in-Some-index.is) in
    let within = slice_get_within c.args.numbers.now.symbols.items c.in-Some-index.symbol named.0 named.1 in
    omega (arith, within, c.requires.limit)

pub bounds-firsts-number : goal.bounds-firsts-number
bounds-firsts-number c =
    let counted = c.requires.firsts.counted in
    let suffixes = c.requires.numbers.suffixes.counted in
    omega (arith, counted, suffixes, c.requires.known)
