-- A text that is padded to a width: the text, and spaces on its right.
use Rattle.std.proofs.Common.{◌≡◌, ℕ, zero, suc, ◌-◌, ◌<◌, ◌≤◌, ◌^◌, ◌++◌, ◌==◌, true, false, cond, List, [], ◌∷◌, length, replicate, refl, ap, arith, ⊎_elim, eqb-true}
use Rattle.std.proofs.lemmas.Bool.{cases_Bool}
use borrow.Author.Tests.{ne_eqb}
use lib.Utf8.{encode}
use Rattle.std.proofs.lemmas.List.{append-nil}
use Rattle.std.specs.List.{repeat}
use Rattle.std.specs.Fmt.{char_count, take_chars, padded, styled_text, format_spec, is_char_start}

take_chars_all : (n : ℕ) (text : List ℕ) → length text ≤ n → take_chars n text ≡ text
unfolding take_chars
take_chars_all n [] short = refl
take_chars_all n (b ∷ text) short =
    elim (is_char_start b) as (λ t. cond t (cond (n == 0) [] (b ∷ take_chars (n - 1) text)) (b ∷ take_chars n text) ≡ b ∷ text) [
      | true ↦ ⊎_elim (λ e. absurd (omega (arith, eqb-true n 0 e))) (λ e. rw e (ap (λ l. b ∷ l) (take_chars_all (n - 1) text (omega arith)))) (cases_Bool (n == 0))
      | false ↦ ap (λ l. b ∷ l) (take_chars_all n text (omega arith))
    ]

repeat_byte : (b n : ℕ) → repeat n (b ∷ []) ≡ replicate n b
repeat_byte b zero = refl
repeat_byte b (suc n) = ap (λ l. b ∷ l) (repeat_byte b n)

pub styled_in_width : (w : ℕ) (text : List ℕ) → length text < 2 ^ 64 → styled_text (format_spec 32 0 0 w (2 ^ 64 - 1)) text ≡ text ++ replicate (w - char_count text) 32
unfolding padded encode
styled_in_width zero text short = let none : 0 - char_count text ≡ 0 = omega arith in rw (none, append-nil)
styled_in_width (suc w) text short =
    let some : (suc w == 0) ≡ false = ne_eqb (suc w) 0 (omega arith) in
    let left : suc w - char_count text - 0 ≡ suc w - char_count text = omega arith in
    rw (take_chars_all (2 ^ 64 - 1) text (omega arith), some, left) (ap (λ l. text ++ l) (repeat_byte 32 (suc w - char_count text)))
