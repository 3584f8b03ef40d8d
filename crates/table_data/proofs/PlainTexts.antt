-- Texts without a byte that is escaped in a string of JSON.
use Rattle.std.proofs.Common.{◌≡◌, ℕ, ◌≤◌, ◌==◌, false, [], ◌∷◌, refl, arith, le-ltb, ne_eqb}
use Rattle.json.specs.Print.{escape_byte}

pub plain_byte : (byte : ℕ) → 32 ≤ byte → (byte == 34) ≡ false → (byte == 92) ≡ false → escape_byte byte ≡ byte ∷ []
unfolding escape_byte
plain_byte byte most no_quote no_backslash =
    rw (no_quote, no_backslash, ne_eqb byte 8 (λ e. omega arith), ne_eqb byte 12 (λ e. omega arith), ne_eqb byte 10 (λ e. omega arith), ne_eqb byte 13 (λ e. omega arith), ne_eqb byte 9 (λ e. omega arith), le-ltb byte 32 most) refl
