-- Productions that a builder refuses, at their first faulty word.
use Rattle.std.proofs.Common.{◌≡◌, ℕ, zero, suc, ◌+◌, Bool, true, not, cond, nat_lt, List, [], ◌∷◌, length, map, drop, ap, sym, ◌∙◌, arith, lt-ltb}
use Rattle.std.specs.Prelude.{position, slice_get, Some, None, unwrap_or}
use Rattle.std.specs.List.{position_or_len}
use Rattle.std.proofs.lemmas.Option.{slice_get_within}
use Rattle.grammar_text.specs.declared.builder_error.BuilderError.{BuilderError}
use Rattle.grammar_text.specs.declared.builder_error.BuilderError.TheVariants.{Name, Word, TooManyActions, Memory}
use Rattle.grammar_text.specs.Symbols.{is_name}
use Rattle.grammar_text.specs.Builder.{IsAtWord, IsRefusedFor}

module _ {A W : Type 0} (word_of : A → W) where
  -- the word at a place
  pub word_at : (xs : List A) (place : ℕ) (x : A) → slice_get xs place ≡ Some x → slice_get (map word_of xs) place ≡ Some (word_of x)
  word_at [] place x there = cc
  word_at (y ∷ ys) zero x there = ap (λ o. Some (word_of (unwrap_or o y))) there
  word_at (y ∷ ys) (suc place) x there = word_at ys place x there

module _ {W : Type 0} (is_faulty : W → Bool) where
  -- a faulty word is the first of those from its place on
  first_from : (xs : List W) (place : ℕ) (x : W) → slice_get xs place ≡ Some x → is_faulty x ≡ true → position_or_len is_faulty (drop place xs) ≡ 0
  first_from [] place x there faulty = cc
  first_from (y ∷ ys) zero x there faulty =
      let same : y ≡ x = ap (λ o. unwrap_or o y) there in
      ap (λ b. cond (not b) (1 + position_or_len is_faulty ys) 0) (ap is_faulty same ∙ faulty)
  first_from (y ∷ ys) (suc place) x there faulty = first_from ys place x there faulty

  -- and, if none before it is faulty, the first of all
  pub first_at : (xs : List W) (place : ℕ) (x : W) → position_or_len is_faulty xs ≡ place + position_or_len is_faulty (drop place xs) → slice_get xs place ≡ Some x → is_faulty x ≡ true → position is_faulty xs ≡ Some place
  first_at xs place x none there faulty =
      let rest = first_from xs place x there faulty in
      let here : position_or_len is_faulty xs ≡ place = omega arith in
      ap (λ n. cond (nat_lt n (length xs)) (Some n) None) here ∙ ap (λ b. cond b (Some place) None) (lt-ltb place (length xs) (slice_get_within xs place x there))

module _ {W : Type 0} (is_faulty : W → Bool) (text : W → List ℕ) where
  -- an error at the first faulty word says why the production is refused
  pub refused_at : (name : List ℕ) (words : List W) (place : ℕ) (word : W) (e : BuilderError) → is_name name ≡ true → position is_faulty words ≡ Some place → slice_get words place ≡ Some word → IsAtWord name (place + 1) (text word) e → IsRefusedFor is_faulty text name words e
  refused_at name words place word (Name t) named first there at = absurd at
  refused_at name words place word (Word nonterminal p w) named first there at = (
    at.0,
    named,
    place,
    at.1,
    first,
    word_at text words place word there ∙ ap (λ bytes. Some bytes) (sym at.2),
  )
  refused_at name words place word TooManyActions named first there at = absurd at
  refused_at name words place word Memory named first there at = tt
