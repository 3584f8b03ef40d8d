-- The word of the terminals of FIRST and, if the symbols are nullable, of the tokens of a
-- lookahead.
use Rattle.std.proofs.Common.{◌≡◌, ◌↔◌, ℕ, ◌+◌, ◌<◌, ◌≤◌, ◌^◌, ◌⊎◌, inl, inr, List, length, refl, sym, ◌∙◌, ap, subst, arith, Bool, true, false, Some, ◌||◌, ◌==◌, ⊎_elim}
use Rattle.std.specs.Prelude.{Contains, slice_get, MatchBool, bit_or}
use Rattle.std.proofs.lemmas.Bool.{or_cases, cases_eq, cases_Bool, false≢true}
use Rattle.std.proofs.lemmas.Option.{slice_get_within}
use Rattle.std.proofs.lemmas.Nat.Bits.{bit_at-pow_same, bit_at-pow_other}
use Rattle.lalrpop_base.specs.Words.{Bits, has, has-join, has-no_bits, holds_token, IsFirstSet, IsNullable, AllDiffer, FitsTokens, HasToken, Rules, HasKnownTerminals}
use Rattle.lalrpop_grammar.specs.declared.lookahead.token.Token.{Token}
use Rattle.lalrpop_grammar.specs.declared.lookahead.token.Token.TheVariants.{Eof, Error, Terminal as TokenOf}
use Rattle.lalrpop_grammar.specs.declared.repr.Production.{Production}
use Rattle.lalrpop_grammar.specs.declared.repr.Symbol.{Symbol}
use Rattle.lalrpop_grammar.specs.declared.repr.TerminalString.{TerminalString}
use Rattle.lalrpop_states.proofs.theory.states.HeldTokens.{place_there}
use Rattle.lalrpop_states.proofs.theory.grammars.KnownTerminals.{token_bit, held_bit, bit_held, begun_bit}
use Rattle.lalrpop_collections.proofs.theory.lists.Places.{one_place, same_some}
use Rattle.lalrpop_construction_tests.specs.declared.word_lookahead.Word.{Word}
use Rattle.lalrpop_construction_tests.specs.Words.{bits_of_word, has-bits_of_word, word-zero, word-or}
use Rattle.lalrpop_construction_tests.specs.WordMoves.{BeginsLow, IsWordOf}

-- the word 2 ^ k has the bit k alone
one_has : (k bit : ℕ) → has (bits_of_word (2 ^ k)) bit ≡ true → bit ≡ k
one_has k bit h = ⊎_elim
    (λ same. same)
    (λ other. absurd (false≢true (sym (ap (λ n. n == 1) (bit_at-pow_other k bit other)) ∙ sym (has-bits_of_word (2 ^ k) bit) ∙ h)))
    (cases_eq bit k)

one_there : (k : ℕ) → has (bits_of_word (2 ^ k)) k ≡ true
one_there k = has-bits_of_word (2 ^ k) k ∙ ap (λ n. n == 1) (bit_at-pow_same k)

or_right : (a b : Bool) → b ≡ true → (a || b) ≡ true
or_right true b h = refl
or_right false b h = h

or_left : (a b : Bool) → a ≡ true → (a || b) ≡ true
or_left true b h = refl
or_left false b h = cc

or_has : (a b bit : ℕ) → (has (bits_of_word (bit_or a b)) bit ≡ true) ↔ ((has (bits_of_word a) bit ≡ true) ⊎ (has (bits_of_word b) bit ≡ true))
or_has a b bit =
    let e = ap (λ (s : Bits). has s bit) (word-or a b) ∙ has-join (bits_of_word a) (bits_of_word b) bit in (
      λ h. or_cases (has (bits_of_word a) bit) (has (bits_of_word b) bit) (sym e ∙ h),
      λ h. elim h [
        | inl l ↦ e ∙ or_left (has (bits_of_word a) bit) (has (bits_of_word b) bit) l
        | inr r ↦ e ∙ or_right (has (bits_of_word a) bit) (has (bits_of_word b) bit) r
      ],
    )

-- the bit of `Eof` is that of a token
pub end_fits : (terminals : List TerminalString) (word bit : ℕ) → word ≡ 2 ^ bit → bit ≡ length terminals → FitsTokens terminals (bits_of_word word)
end_fits terminals word bit e f k h = let s = one_has bit k (subst (λ (n : ℕ). has (bits_of_word n) k ≡ true) e h) in omega arith

-- ---- one terminal more
pub Word-none : (set : Bits) (word : Word) → word.bits ≡ 0 → IsWordOf set 0 word
Word-none set word e bit =
    let none : has (bits_of_word word.bits) bit ≡ false = ap (λ (n : ℕ). has (bits_of_word n) bit) e ∙ ap (λ (s : Bits). has s bit) word-zero ∙ has-no_bits bit in
    (λ h. absurd (false≢true (sym none ∙ h)), λ h. absurd (let l = h.0 in omega arith))

pub Word-more : (set : Bits) (count : ℕ) (old new : Word) → count < 64 → IsWordOf set count old → (there : Bool) → has set count ≡ there → MatchBool there (new.bits ≡ bit_or old.bits (2 ^ count)) (new ≡ old) → IsWordOf set (count + 1) new
Word-more set count old new low is true e m bit =
    let or = or_has old.bits (2 ^ count) bit in (
      λ h. elim (or.0 (subst (λ (n : ℕ). has (bits_of_word n) bit ≡ true) m h)) [
        | inl had ↦ let b = (is bit).0 had in let l = b.0 in (omega arith, b.1, b.2)
        | inr one ↦ let s = one_has count bit one in (omega arith, omega arith, subst (λ (n : ℕ). has set n ≡ true) (sym s) e)
      ],
      λ h. subst (λ (n : ℕ). has (bits_of_word n) bit ≡ true) (sym m) (or.1 (⊎_elim
          (λ same. inr (subst (λ (n : ℕ). has (bits_of_word (2 ^ count)) n ≡ true) (sym same) (one_there count)))
          (λ other. let l = h.0 in inl ((is bit).1 (omega arith, h.1, h.2)))
          (cases_eq bit count))),
    )
Word-more set count old new low is false e m bit = (
  λ h. let b = (is bit).0 (subst (λ (w : Word). has (bits_of_word w.bits) bit ≡ true) m h) in let l = b.0 in (omega arith, b.1, b.2),
  λ h. subst (λ (w : Word). has (bits_of_word w.bits) bit ≡ true) (sym m) (⊎_elim
      (λ same. absurd (false≢true (sym e ∙ ap (has set) (sym same) ∙ h.2)))
      (λ other. let l = h.0 in (is bit).1 (omega arith, h.1, h.2))
      (cases_eq bit count)),
)

-- no bit is added for terminals at places from 64 on
pub Word-full : (set : Bits) (count most : ℕ) (word : Word) → 64 ≤ count → count ≤ most → IsWordOf set count word → IsWordOf set most word
Word-full set count most word full l is bit = (
  λ h. let b = (is bit).0 h in let k = b.0 in (omega arith, b.1, b.2),
  λ h. let k = h.1 in (is bit).1 (omega arith, h.1, h.2),
)

-- ---- a set contains a terminal exactly if it has the bit of the terminal
-- a boolean that is true exactly if the set contains a terminal is equal to the set's test of the
-- bit of the terminal
pub tested : (terminals : List TerminalString) → AllDiffer terminals → (set : Bits) (t : TerminalString) (bit : ℕ) → slice_get terminals bit ≡ Some t → (told : Bool) → (told ≡ true) ↔ HasToken terminals set (TokenOf t) → has set bit ≡ told
tested terminals differ set t bit at true exact =
    let h = exact.0 refl in
    subst (λ (n : ℕ). has set n ≡ true) (one_place terminals differ h.0 bit t h.1 at) h.2
tested terminals differ set t bit at false exact = ⊎_elim
    (λ there. absurd (false≢true (exact.1 (bit, at, there))))
    (λ none. none)
    (cases_Bool (has set bit))

-- ---- the tokens that are passed on
module _ (g : Rules) (differ : AllDiffer g.terminals) (rest : List Symbol) (first : Bits) (is : IsFirstSet g rest first) (word lookahead : Word) (of : IsWordOf first (length g.terminals) word) where
  begins_at : (u : Token) (bit : ℕ) → token_bit g.terminals u ≡ Some bit → (bit < length g.terminals) × (bit < 64) × (has first bit ≡ true) → BeginsLow g rest u
  begins_at Eof bit e k = let s : length g.terminals ≡ bit = same_some (length g.terminals) bit e in let l = k.0 in absurd (omega arith)
  begins_at Error bit e k = let s : length g.terminals + 1 ≡ bit = same_some (length g.terminals + 1) bit e in let l = k.0 in absurd (omega arith)
  begins_at (TokenOf x) bit e k = let p = place_there g.terminals x bit e in ((is.begins bit x p).0 k.2, (bit, p, k.1))

  held_first : (t : Token) → holds_token g.terminals (bits_of_word word.bits) t ≡ true → BeginsLow g rest t
  held_first t h = let b = held_bit g.terminals (bits_of_word word.bits) t h in begins_at t b.0 b.1 ((of b.0).0 b.2)

  first_held : (t : Token) → BeginsLow g rest t → (bit : ℕ) × (token_bit g.terminals t ≡ Some bit) → holds_token g.terminals (bits_of_word word.bits) t ≡ true
  first_held Eof b o = absurd b
  first_held Error b o = absurd b
  first_held (TokenOf x) b o =
      let p = place_there g.terminals x o.0 o.1 in
      let low = b.1 in
      let same : low.0 ≡ o.0 = one_place g.terminals differ low.0 o.0 x low.1 p in
      let l = low.2 in
      bit_held g.terminals (bits_of_word word.bits) (TokenOf x) o.0 o.1 ((of o.0).1 (slice_get_within g.terminals o.0 x p, omega arith, (is.begins o.0 x p).1 b.0))

  pub Word-holds : ((t : Token) → BeginsLow g rest t → (bit : ℕ) × (token_bit g.terminals t ≡ Some bit)) → (given : Word) (nullable : Bool) → nullable ≡ has first (length g.terminals) → MatchBool nullable (given.bits ≡ bit_or word.bits lookahead.bits) (given ≡ word) →
      (t : Token) → (holds_token g.terminals (bits_of_word given.bits) t ≡ true) ↔ (BeginsLow g rest t ⊎ (IsNullable g.productions rest × (holds_token g.terminals (bits_of_word lookahead.bits) t ≡ true)))
  Word-holds known given true e m t = (
    λ h.
        let b = held_bit g.terminals (bits_of_word given.bits) t h in
        elim ((or_has word.bits lookahead.bits b.0).0 (subst (λ (n : ℕ). has (bits_of_word n) b.0 ≡ true) m b.2)) [
          | inl l ↦ inl (held_first t (bit_held g.terminals (bits_of_word word.bits) t b.0 b.1 l))
          | inr r ↦ inr (is.ends.0 (sym e), bit_held g.terminals (bits_of_word lookahead.bits) t b.0 b.1 r)
        ],
    λ h. elim h [
      | inl k ↦
          let b = held_bit g.terminals (bits_of_word word.bits) t (first_held t k (known t k)) in
          bit_held g.terminals (bits_of_word given.bits) t b.0 b.1 (subst (λ (n : ℕ). has (bits_of_word n) b.0 ≡ true) (sym m) ((or_has word.bits lookahead.bits b.0).1 (inl b.2)))
      | inr k ↦
          let b = held_bit g.terminals (bits_of_word lookahead.bits) t k.1 in
          bit_held g.terminals (bits_of_word given.bits) t b.0 b.1 (subst (λ (n : ℕ). has (bits_of_word n) b.0 ≡ true) (sym m) ((or_has word.bits lookahead.bits b.0).1 (inr b.2)))
    ],
  )
  Word-holds known given false e m t = (
    λ h. inl (held_first t (subst (λ (w : Word). holds_token g.terminals (bits_of_word w.bits) t ≡ true) m h)),
    λ h. elim h [
      | inl k ↦ subst (λ (w : Word). holds_token g.terminals (bits_of_word w.bits) t ≡ true) (sym m) (first_held t k (known t k))
      | inr k ↦ absurd (false≢true (e ∙ is.ends.1 k.0))
    ],
  )

  -- all bits of the word that is passed on are those of tokens
  pub Word-fits : (given : Word) (nullable : Bool) → MatchBool nullable (given.bits ≡ bit_or word.bits lookahead.bits) (given ≡ word) → FitsTokens g.terminals (bits_of_word lookahead.bits) → FitsTokens g.terminals (bits_of_word given.bits)
  Word-fits given true m fits bit h = elim ((or_has word.bits lookahead.bits bit).0 (subst (λ (n : ℕ). has (bits_of_word n) bit ≡ true) m h)) [
    | inl l ↦ let b = ((of bit).0 l).0 in omega arith
    | inr r ↦ fits bit r
  ]
  Word-fits given false m fits bit h = let b = ((of bit).0 (subst (λ (w : Word). has (bits_of_word w.bits) bit ≡ true) m h)).0 in omega arith

-- a token with which known symbols can begin has a bit
pub low_bit : (g : Rules) → ((p : Production) → Contains g.productions p → HasKnownTerminals g.terminals p.symbols) → (l : List Symbol) → HasKnownTerminals g.terminals l → (t : Token) → BeginsLow g l t → (bit : ℕ) × (token_bit g.terminals t ≡ Some bit)
low_bit g known l h Eof b = absurd b
low_bit g known l h Error b = absurd b
low_bit g known l h (TokenOf t) b = begun_bit g known l h (TokenOf t) b.0
