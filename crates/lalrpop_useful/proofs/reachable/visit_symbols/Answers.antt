use Rattle.std.proofs.Common.{◌≡◌, ◌∙◌, ◌+◌, ◌++◌, ◌∷◌, [], Contains, subst, sym, ap, take, List}
use Rattle.std.proofs.lemmas.List.{take_more, take_all}
use Rattle.lalrpop_collections.specs.Words.{Visits}
use Rattle.lalrpop_grammar.specs.declared.repr.Symbol.TheVariants.{Nonterminal}
use Rattle.lalrpop_useful.proofs.Types.{Symbol}
use Rattle.lalrpop_useful.proofs.theory.useful.Reachable.{Symbols-none, Symbols-more}
use Rattle.lalrpop_useful.proofs.reachable.visit_symbols.Goals as goal

pub loop-symbol-init : goal.loop-symbol-init
loop-symbol-init c = Symbols-none c.args.walk.now

pub loop-symbol-preserved : goal.loop-symbol-preserved
loop-symbol-preserved c =
    let xs : List Symbol = c.args.symbols.now in
    let i = c.loop-symbol.symbol-index in
    let x : Symbol = c.symbol-item.result in
    let more : take (i + 1) xs ≡ take i xs ++ x ∷ [] = take_more xs i x c.loop-symbol-test.true ∙ ap (λ (y : Symbol). take i xs ++ y ∷ []) (sym c.symbol-item.is) in
    subst (λ (ys : List Symbol). Visits (λ a. Contains ys (Nonterminal a)) c.args.walk.now c.visit_symbol.new.walk) (sym more)
    (Symbols-more (take i xs) x _ _ _ c.loop-symbol.invariant c.in_ok-visit_symbol.ensures)

pub returns : goal.returns
returns c = subst (λ (ys : List Symbol). Visits (λ a. Contains ys (Nonterminal a)) c.args.walk.now c.loop-symbol.walk) (take_all c.loop-symbol.symbol-index c.args.symbols.now c.loop-symbol-test.false) c.loop-symbol.invariant
