-- Places in arrays are numbers of 64 bits.
use Rattle.std.proofs.Common.{ℕ, ◌+◌, ◌*◌, ◌^◌, ◌<◌, ◌≤◌, arith}
use Rattle.std.proofs.lemmas.Nat.{mul-le}

-- the product of two numbers of 32 bits has 64 bits
pub product_fits : (a b : ℕ) → a < 2 ^ 32 → b < 2 ^ 32 → a * b < 2 ^ 64
product_fits a b few_a few_b =
    let h : a * b ≤ 4294967295 * 4294967295 = mul-le a b 4294967295 4294967295 (omega (arith, few_a)) (omega (arith, few_b)) in
    omega (arith, h)

-- the product of two numbers of 32 bits, and a third one, have 64 bits
pub place_fits : (a b c : ℕ) → a < 2 ^ 32 → b < 2 ^ 32 → c < 2 ^ 32 → a * b + c < 2 ^ 64
place_fits a b c few_a few_b few_c =
    let h : a * b ≤ 4294967295 * 4294967295 = mul-le a b 4294967295 4294967295 (omega (arith, few_a)) (omega (arith, few_b)) in
    omega (arith, h, few_c)
