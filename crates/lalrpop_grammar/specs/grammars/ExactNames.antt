-- `==` of names, symbols and productions is exact: it is `true` for equal values only.
use Rattle.std.specs.Prelude.{◌≡◌, ℕ, Bool, true, ◌==◌, ◌&&◌, List}
use Rattle.std.proofs.Common.{ap, ◌∙◌, eqb-true}
use lib.Pointwise.{pointwise}
use Rattle.lalrpop_collections.specs.lists.Exact.{Exactly, both, list_exact, text_exact}
use Rattle.lalrpop_grammar.specs.declared.repr.NonterminalString.{NonterminalString}
use Rattle.lalrpop_grammar.specs.declared.repr.ActionFn.{ActionFn}
use Rattle.lalrpop_grammar.specs.declared.repr.Span.{Span}
use Rattle.lalrpop_grammar.specs.declared.repr.Symbol.{Symbol}
use Rattle.lalrpop_grammar.specs.declared.repr.Production.{Production}

-- the name with a text
abbrev name : List ℕ → NonterminalString
name t = record { text = t }

-- names whose texts are equal by `==` are equal
pub name_exact : (a b : NonterminalString) → pointwise ◌==◌ a.text b.text ≡ true → a ≡ b
name_exact a b h = ap name (text_exact a.text b.text h)

-- the action with a number
abbrev action : ℕ → ActionFn
action n = record { 0 = n }

-- the span with two offsets
abbrev span : ℕ → ℕ → Span
span from to = record { 0 = from; 1 = to }

-- the production with four parts
abbrev production : NonterminalString → List Symbol → ActionFn → Span → Production
production n s a p = record { nonterminal = n; symbols = s; action = a; span = p }

-- productions with equal parts are equal
pub same_production : (a b : Production) → a.nonterminal ≡ b.nonterminal → a.symbols ≡ b.symbols → a.action ≡ b.action → a.span ≡ b.span → a ≡ b
same_production a b n s c p =
    ap (λ x. production x a.symbols a.action a.span) n
    ∙ ap (λ x. production b.nonterminal x a.action a.span) s
    ∙ ap (λ x. production b.nonterminal b.symbols x a.span) c
    ∙ ap (λ x. production b.nonterminal b.symbols b.action x) p

-- productions that are equal by `==` are equal, if `==` of symbols is exact
pub production_exact : (E : Symbol → Symbol → Bool) → Exactly E → (a b : Production) →
    (pointwise ◌==◌ a.nonterminal.text b.nonterminal.text && (pointwise E a.symbols b.symbols && ((a.action.0 == b.action.0) && ((a.span.0 == b.span.0) && (a.span.1 == b.span.1))))) ≡ true → a ≡ b
production_exact E exact a b h =
    let to : Bool = a.span.1 == b.span.1 in
    let from : Bool = a.span.0 == b.span.0 in
    let number : Bool = a.action.0 == b.action.0 in
    let listed : Bool = pointwise E a.symbols b.symbols in
    let first = both (pointwise ◌==◌ a.nonterminal.text b.nonterminal.text) (listed && (number && (from && to))) h in
    let second = both listed (number && (from && to)) first.1 in
    let third = both number (from && to) second.1 in
    let fourth = both from to third.1 in
    same_production a b (name_exact a.nonterminal b.nonterminal first.0) (list_exact exact a.symbols b.symbols second.0)
    (ap action (eqb-true a.action.0 b.action.0 third.0))
    (ap (λ x. span x a.span.1) (eqb-true a.span.0 b.span.0 fourth.0) ∙ ap (λ x. span b.span.0 x) (eqb-true a.span.1 b.span.1 fourth.1))
