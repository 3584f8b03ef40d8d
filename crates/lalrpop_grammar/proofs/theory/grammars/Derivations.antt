-- Derivations compose, and may be parts of longer lists. The proofs are by induction on the
-- derivation.
use Rattle.std.proofs.Common.{◌≡◌, List, [], ◌∷◌, ◌++◌, append_assoc, append-nil, sym, subst, ap, ◌∙◌}
use Rattle.std.specs.Prelude.{Contains}
use Rattle.lalrpop_grammar.proofs.Types.{Production, Symbol}
use Rattle.lalrpop_grammar.specs.declared.repr.Symbol.TheVariants.{Nonterminal}
use Rattle.lalrpop_grammar.specs.Words.{Derives, as_it_is, replace}

-- a derivation is one from an equal list
pub Derives-from : {g : List Production} {l k m : List Symbol} → l ≡ k → Derives g l m → Derives g k m
Derives-from {g} {m = m} e d = subst (λ x. Derives g x m) e d

-- a derivation is one to an equal list
pub Derives-to : {g : List Production} {l m n : List Symbol} → m ≡ n → Derives g l m → Derives g l n
Derives-to {g} {l} e d = subst (λ x. Derives g l x) e d

-- derivations are transitive
pub Derives-trans : {g : List Production} {l m n : List Symbol} → Derives g l m → Derives g m n → Derives g l n
Derives-trans as_it_is e = e
Derives-trans (replace a b p h d) e = replace a b p h (Derives-trans d e)

-- a list may be put before both sides
pub Derives-left : {g : List Production} (k : List Symbol) {l m : List Symbol} → Derives g l m → Derives g (k ++ l) (k ++ m)
Derives-left k as_it_is = as_it_is
Derives-left k (replace a b p {m} h d) =
    Derives-from (append_assoc k a (Nonterminal p.nonterminal ∷ b)) (replace (k ++ a) b p h (Derives-from (sym (append_assoc k a (p.symbols ++ b))) (Derives-left k d)))

-- a list may be put after both sides
pub Derives-right : {g : List Production} {l m : List Symbol} (k : List Symbol) → Derives g l m → Derives g (l ++ k) (m ++ k)
Derives-right k as_it_is = as_it_is
Derives-right k (replace a b p {m} h d) =
    Derives-from (sym (append_assoc a (Nonterminal p.nonterminal ∷ b) k)) (replace a (b ++ k) p h (Derives-from (append_assoc a (p.symbols ++ b) k ∙ ap (λ x. a ++ x) (append_assoc p.symbols b k)) (Derives-right k d)))

-- two derivations may be put one after the other
pub Derives-append : {g : List Production} {k l m n : List Symbol} → Derives g k m → Derives g l n → Derives g (k ++ l) (m ++ n)
Derives-append {l = l} {m = m} d e = Derives-trans (Derives-right l d) (Derives-left m e)

-- a nonterminal derives the right side of each of its productions
pub Derives-production : {g : List Production} (p : Production) → Contains g p → Derives g (Nonterminal p.nonterminal ∷ []) p.symbols
Derives-production p h = replace [] [] p h (Derives-from (sym (append-nil p.symbols)) as_it_is)
