-- Equality of dotted productions, and the bits of tokens.
use Rattle.std.proofs.Common.{◌≡◌, ℕ, ◌+◌, length, ap, ◌∙◌, arith}
use Rattle.lalrpop_collections.specs.Words.{Bits, IsBelow}
use Rattle.lalrpop_states.specs.Words.{Dotted}
use Rattle.lalrpop_grammar.specs.Words.{FitsTokens, Rules}
use Rattle.lr1_theory.proofs.Types.{Nil, Production}

-- a bit of a token is below the number of tokens
pub fits_below : (g : Rules) (s : Bits) → FitsTokens g.terminals s → IsBelow (length g.terminals + 2) s
fits_below g s f q h = let l = f q h in omega arith

-- dotted productions with equal parts are the same
pub same_lr0 : (a b : Dotted Nil) → a.production ≡ b.production → a.index ≡ b.index → a ≡ b
same_lr0 a b p i =
    let make : Production → ℕ → Dotted Nil = λ p i. record { production = p; index = i; lookahead = record {} } in
    ap (λ p. make p a.index) p ∙ ap (λ i. make b.production i) i
