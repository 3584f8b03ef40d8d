-- The lookahead of a start symbol.
use Rattle.std.proofs.Common.{List, length, sym, ◌∙◌, arith, ⊎_elim, eqb-true}
use Rattle.std.specs.Prelude.{◌==◌}
use Rattle.std.proofs.lemmas.Bool.{or_cases}
use mathlib.Core.Bool.{true≢false}
use Rattle.lalrpop_base.specs.Words.{has, no_bits, with_bit, has-with_bit, has-no_bits, FitsTokens}
use Rattle.lalrpop_construction.proofs.Types.{TerminalString}

-- the bit of Eof is that of a token
pub eof_fits : (terminals : List TerminalString) → FitsTokens terminals (with_bit no_bits (length terminals))
eof_fits terminals bit h =
    ⊎_elim
    (λ same. let e = eqb-true bit (length terminals) same in omega arith)
    (λ none. absurd (true≢false (sym none ∙ has-no_bits bit)))
    (or_cases (bit == length terminals) (has no_bits bit) (sym (has-with_bit no_bits (length terminals) bit) ∙ h))

-- the empty set holds bits of tokens alone
pub nothing_fits : (terminals : List TerminalString) → FitsTokens terminals no_bits
nothing_fits terminals bit h = absurd (true≢false (sym h ∙ has-no_bits bit))
