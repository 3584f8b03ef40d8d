use Rattle.std.proofs.Common.{◌≡◌, ◌∙◌, ap, subst, refl, true, false, length, Some, arith, ◌+◌, drop}
use Rattle.std.specs.Prelude.{slice_get}
use Rattle.lalrpop_base.specs.Words.{Bits, Dotted}
use Rattle.lalrpop_collections.specs.lists.Entries.IsPut.{came}
use Rattle.lalrpop_collections.proofs.theory.collections.Queues.{put_with}
use Rattle.lalrpop_construction.proofs.Types.{Nil}
use Rattle.std.proofs.lemmas.Option.{slice_get_within}
use Rattle.lalrpop_grammar.specs.declared.repr.Symbol.TheVariants.{Nonterminal}
use Rattle.lalrpop_construction.proofs.theory.numbers.Numbers.{behind_is, finished}
use Rattle.lalrpop_collections.proofs.theory.lists.Places.{slice_get_at}
use Rattle.lalrpop_construction.proofs.theory.closures.PropagatedItems.{read_item, rest_known, Finished-shares, Terminal-shares, Restless-shares, rest_is, Gave-shares}
use Rattle.lalrpop_construction.proofs.construction.closure.propagate.Goals as goal

pub returns-in_default-clause-shares : goal.returns-in_default-clause-shares
returns-in_default-clause-shares g c =
    let counted = c.args.numbers.now.counted in
    let at = slice_get_at c.args.numbers.now.behind.items c.args.number c.index.result.now (omega (arith, c.requires.known)) c.index.ensures in
    Finished-shares _ _ _ _ c.requires.numbers c.args.number _ (finished c.args.lr.now.construction.rules c.args.numbers.now c.requires.numbers {L = Bits} (record { number = c.args.number; lookahead = g.L.Lookahead.meaning c.args.tokens.now }) (at ∙ ap Some c.in_default.is)) _ _

pub returns-in_default-index-clause-shares : goal.returns-in_default-index-clause-shares
returns-in_default-index-clause-shares g c =
    let counted = c.requires.numbers.suffixes.counted in
    let at = slice_get_at c.args.numbers.now.suffixes.items c.args.number c.index-2.result.now (omega (arith, c.requires.known)) c.index-2.ensures in
    Restless-shares _ _ _ _ c.requires.numbers c.args.number _ c.requires.known (at ∙ ap Some c.in_default-index.is) _ _

pub returns-in_default-shift_symbol-clause-shares : goal.returns-in_default-shift_symbol-clause-shares
returns-in_default-shift_symbol-clause-shares g c =
    let e = read_item c.args.numbers.now.items.items c.args.number c.index-3.result.now c.requires.known c.index-3.ensures in
    Finished-shares _ _ _ _ c.requires.numbers c.args.number _ (subst (λ (i : Dotted Nil). i.index ≡ length i.production.symbols) e (c.in_default-shift_symbol.ensures.none refl)) _ _

pub returns-in_default-next-clause-shares : goal.returns-in_default-next-clause-shares
returns-in_default-next-clause-shares g c =
    let e = read_item c.args.numbers.now.items.items c.args.number c.index-3.result.now c.requires.known c.index-3.ensures in
    Terminal-shares _ _ _ _ c.requires.numbers c.args.number _ c.in-Some-shift_symbol.next.now (subst (λ (i : Dotted Nil). slice_get i.production.symbols i.index ≡ Some c.in-Some-shift_symbol.next.now) e c.in-Some-shift_symbol.ensures.next) (λ name is. let no = c.in_default-next.is in cc) _ _

pub give-requires : goal.give-requires
give-requires g c =
    let e = read_item c.args.numbers.now.items.items c.args.number c.index-3.result.now c.requires.known c.index-3.ensures in
    let is = subst (λ (i : Dotted Nil). c.in-Some-shift_symbol.remainder.now ≡ drop (i.index + 1) i.production.symbols) e c.in-Some-shift_symbol.ensures.rest in
    let counted = c.requires.numbers.suffixes.counted in
    let at = slice_get_at c.args.numbers.now.suffixes.items c.args.number c.index-2.result.now (omega (arith, c.requires.known)) c.index-2.ensures in
    record {
      known = rest_known c.grammar-grammar.result.now c.args.lr.now.construction.rules c.args.numbers.now c.requires.numbers c.grammar-grammar.ensures.rules c.grammar-grammar.ensures.well_formed c.args.number c.requires.known c.in-Some-shift_symbol.remainder.now is;
      suffix = rest_is g.L.LookaheadBuild.begins g.L.LookaheadBuild.passes c.args.lr.now.construction.rules c.args.numbers.now c.requires.numbers c.args.number (g.L.Lookahead.meaning c.args.tokens.now) c.requires.known c.in-Some-index.suffix (at ∙ ap Some c.in-Some-index.is) c.in-Some-shift_symbol.remainder.now is;
    }

pub returns-in_ok-add-clause-shares : goal.returns-in_ok-add-clause-shares
returns-in_ok-add-clause-shares g c =
    let counted = c.args.numbers.now.counted in
    let at = slice_get_at c.args.numbers.now.behind.items c.args.number c.index.result.now (omega (arith, c.requires.known)) c.index.ensures in
    let e = read_item c.args.numbers.now.items.items c.args.number c.index-3.result.now c.requires.known c.index-3.ensures in
    let next = subst (λ (i : Dotted Nil). slice_get i.production.symbols i.index ≡ Some c.in-Some-shift_symbol.next.now) e c.in-Some-shift_symbol.ensures.next in
    let is = subst (λ (i : Dotted Nil). c.in-Some-shift_symbol.remainder.now ≡ drop (i.index + 1) i.production.symbols) e c.in-Some-shift_symbol.ensures.rest in
    Gave-shares _ _ _ _ c.requires.numbers c.args.number _ c.in-Some.symbol c.in-Nonterminal.name c.in-Some-shift_symbol.remainder.now c.requires.known (at ∙ ap Some c.in-Some.is) (next ∙ ap Some c.in-Nonterminal.is) is g.L.Lookahead.meaning c.args.tokens.now refl
    true _ _ _ _ (rw (← c.if-branch.true) c.in_ok-give.ensures.given) (put_with c.in-Some.symbol c.args.queue.now.numbers c.add.new.self.numbers c.in_ok-add.ensures.added)

pub returns-else-branch-clause-shares : goal.returns-else-branch-clause-shares
returns-else-branch-clause-shares g c =
    let counted = c.args.numbers.now.counted in
    let at = slice_get_at c.args.numbers.now.behind.items c.args.number c.index.result.now (omega (arith, c.requires.known)) c.index.ensures in
    let e = read_item c.args.numbers.now.items.items c.args.number c.index-3.result.now c.requires.known c.index-3.ensures in
    let next = subst (λ (i : Dotted Nil). slice_get i.production.symbols i.index ≡ Some c.in-Some-shift_symbol.next.now) e c.in-Some-shift_symbol.ensures.next in
    let is = subst (λ (i : Dotted Nil). c.in-Some-shift_symbol.remainder.now ≡ drop (i.index + 1) i.production.symbols) e c.in-Some-shift_symbol.ensures.rest in
    Gave-shares _ _ _ _ c.requires.numbers c.args.number _ c.in-Some.symbol c.in-Nonterminal.name c.in-Some-shift_symbol.remainder.now c.requires.known (at ∙ ap Some c.in-Some.is) (next ∙ ap Some c.in-Nonterminal.is) is g.L.Lookahead.meaning c.args.tokens.now refl
    false _ _ _ _ (rw (← c.if-branch.false) c.in_ok-give.ensures.given) (came refl)

pub add-requires : goal.add-requires
add-requires g c =
    let rules = c.args.lr.now.construction.rules in
    let counted = c.args.numbers.now.counted in
    let at = slice_get_at c.args.numbers.now.behind.items c.args.number c.index.result.now (omega (arith, c.requires.known)) c.index.ensures in
    let e = read_item c.args.numbers.now.items.items c.args.number c.index-3.result.now c.requires.known c.index-3.ensures in
    let next = subst (λ (i : Dotted Nil). slice_get i.production.symbols i.index ≡ Some c.in-Some-shift_symbol.next.now) e c.in-Some-shift_symbol.ensures.next in
    let named = (behind_is rules c.args.numbers.now c.requires.numbers {L = Bits} (record { number = c.args.number; lookahead = g.L.Lookahead.meaning c.args.tokens.now }) c.in-Some.symbol (Nonterminal c.in-Nonterminal.name) (at ∙ ap Some c.in-Some.is)).0 (next ∙ ap Some c.in-Nonterminal.is) in
    let within = slice_get_within c.args.numbers.now.symbols.items c.in-Some.symbol (Nonterminal c.in-Nonterminal.name) named in
    omega (arith, within, c.requires.limit)
