use Rattle.std.proofs.Common.{◌≡◌, ◌++◌, ◌∷◌, ◌+◌, [], List, drop, ap, sym, ◌∙◌, arith}
use Rattle.std.proofs.lemmas.List.{drop_all, drop_more}
use Rattle.lalrpop_inline.proofs.Types.{Symbol}
use Rattle.lalrpop_inline.specs.Words.{choices, completed, extended, parts}
use Rattle.lalrpop_inline.proofs.theory.inlining.InlineChoices.{completed-nil, completed-one, completed_step}
use Rattle.lalrpop_inline.proofs.inline.choices.choices.Goals as goal

pub loop-symbol-init : goal.loop-symbol-init
loop-symbol-init c =
    let cs = choices c.args.name.now c.args.alternatives.now c.args.symbols.now in
    ap (λ ts. completed ts cs) (c.in_ok-push.ensures.items ∙ ap (λ ts. ts ++ c.new.result ∷ []) c.new-made.ensures.items ∙ ap (λ t. t ∷ []) c.new.ensures)
    ∙ completed-one cs

pub loop-symbol-preserved : goal.loop-symbol-preserved
loop-symbol-preserved c =
    let name = c.args.name.now in
    let alternatives = c.args.alternatives.now in
    let symbols = c.args.symbols.now in
    let i = c.loop-symbol.symbol-index in
    let made = c.loop-symbol.made.items in
    let x = c.symbol-item.result in
    let rest = choices name alternatives (drop (i + 1) symbols) in
    let here : drop i symbols ≡ x ∷ drop (i + 1) symbols = drop_more symbols i x (omega arith) ∙ ap (λ (y : Symbol). y ∷ drop (i + 1) symbols) (sym c.symbol-item.is) in
    ap (λ ts. completed ts rest) (c.in_ok-made.ensures ∙ ap (λ ps. extended ps made) (c.deref.ensures.value ∙ c.in_ok-parts.ensures))
    ∙ completed_step made (parts name alternatives x) rest
    ∙ ap (λ (l : List Symbol). completed made (choices name alternatives l)) (sym here)
    ∙ c.loop-symbol.invariant

pub returns : goal.returns
returns c =
    let made = c.loop-symbol.made.items in
    let none : drop c.loop-symbol.symbol-index c.args.symbols.now ≡ [] = drop_all c.loop-symbol.symbol-index c.args.symbols.now (omega arith) in
    sym (completed-nil made)
    ∙ ap (λ (l : List Symbol). completed made (choices c.args.name.now c.args.alternatives.now l)) (sym none)
    ∙ c.loop-symbol.invariant
