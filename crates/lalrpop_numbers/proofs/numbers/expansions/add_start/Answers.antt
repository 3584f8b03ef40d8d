use Rattle.std.proofs.Common.{◌≡◌, Some, ap, arith, subst}
use Rattle.std.specs.Prelude.{slice_get}
use Rattle.lalrpop_states.specs.Words.{Dotted}
use Rattle.lalrpop_numbers.proofs.Types.{Nil}
use Rattle.lalrpop_grammar.specs.declared.repr.Symbol.TheVariants.{Nonterminal}
use Rattle.lalrpop_numbers.proofs.theory.numbers.Numbering.{start_put}
use Rattle.lalrpop_numbers.proofs.numbers.expansions.add_start.Goals as goal

pub returns : goal.returns
returns c =
    let i : Dotted Nil = c.args.item.now in
    let n = c.in-Some.place in
    let front : i.index ≡ 0 = let e = ap (λ (j : Dotted Nil). j.index) c.item.view_is in let l = c.if-item-gt0.false in omega arith in
    let found : slice_get c.args.symbols.now n ≡ Some (Nonterminal i.production.nonterminal) = subst (λ (j : Dotted Nil). slice_get c.args.symbols.now n ≡ Some (Nonterminal j.production.nonterminal)) c.item.view_is (rw c.in-Some.is at c.in_ok-place.ensures) in
    start_put c.args.symbols.now c.requires.ascend i front c.args.number n found c.args.expansions.now.items c.requires.counted c.index_mut.result.now c.push.new.self c.index_mut.ensures.value c.in_ok-push.ensures.items
