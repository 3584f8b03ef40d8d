use Rattle.std.proofs.Common.{◌≡◌, ℕ, ◌^◌, ◌<◌, Bool, true, false, ◌&&◌, nat_lt, List, length, None, Some, Result, Ok, Err, cond, refl, ap, ◌∙◌, arith}
use Rattle.std.proofs.lemmas.Grind.{common_steps}
use Rattle.std.specs.Str.{all_ascii_digits}
use Rattle.std.specs.Str.Parse.{digits_value}
use Rattle.std.specs.Result.{OkIff, result_ok}
use Rattle.std.proofs.lemmas.Bool.{ltb-true, lt-ltb}
use Rattle.std.proofs.lemmas.Str.Parse.{numerals_by_value, tells_all_ascii_digits, parse_digits}
use Rattle.program_answers.specs.Words.{limit_of}
use Rattle.program_answers.proofs.words.limit_of.Goals as goal

refused : (a b : Bool) (P Q : Type 0) (v : ℕ) → (a ≡ true → P) → (b ≡ true → Q) → ¬ (P × Q) → None ≡ cond (a && b) (Some v) None
refused true true P Q v p q never = absurd (never (p refl, q refl))
refused true false P Q v p q never = refl
refused false b P Q v p q never = refl

limit_from : {E : Type 0} (bs : List ℕ) (r : Result ℕ E) → all_ascii_digits bs ≡ true → OkIff r ((0 < length bs) × (digits_value 10 bs < 2 ^ 64)) (digits_value 10 bs) → result_ok r ≡ limit_of bs
limit_from bs (Ok x) digits (h, e) = rw (digits, lt-ltb 0 (length bs) h.0, lt-ltb (digits_value 10 bs) (2 ^ 64) h.1) (ap Some e)
limit_from bs (Err e) digits never = rw digits (refused (nat_lt 0 (length bs)) (nat_lt (digits_value 10 bs) (2 ^ 64)) _ _ (digits_value 10 bs) (ltb-true 0 (length bs)) (ltb-true (digits_value 10 bs) (2 ^ 64)) never)

pub returns : goal.returns
returns c =
    let bs = c.args.word.now in
    let digits : all_ascii_digits bs ≡ true = grind (arith, common_steps) in
    c.ok.ensures.value ∙ limit_from bs c.parse.result digits (parse_digits (numerals_by_value (λ ds. all_ascii_digits ds ≡ true) tells_all_ascii_digits) 64 bs c.parse.result c.parse.ensures.value.0 digits)
