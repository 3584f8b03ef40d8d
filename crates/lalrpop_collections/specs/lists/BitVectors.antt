-- Bit vectors, which represent sets of small numbers, as in Rust's crate `bit-set`. Their words
-- have 64 bits, and the first word has the numbers below 64. Number n is bit n % 64 of word n / 64.
use Rattle.std.specs.Prelude.{◌≡◌, ◌≢◌, ℕ, zero, suc, ◌+◌, ◌-◌, ◌*◌, ◌/◌, ◌%◌, ◌^◌, ◌<◌, ◌≤◌, ◌==◌, Bool, true, false, List, [], ◌∷◌, length, slice_index, bit_or, bit_xor}
use Rattle.std.specs.Int.{bit_at}
use Rattle.std.specs.Hash.FoldHasher.{folded_multiply}
use Rattle.std.specs.List.{filter, fold}
use Rattle.lalrpop_collections.specs.lists.Bits.{Bits, bits_of}

-- whether the number is in the bit vector: its bit is 1. All bits after the last word are 0
unfoldable pub has_bit : List ℕ → ℕ → Bool
has_bit words n = bit_at (slice_index words (n / 64)) (n % 64) == 1

-- a count of numbers from a first one on, ascending
abbrev pub numbers_from : ℕ → ℕ → List ℕ
numbers_from first zero = []
numbers_from first (suc count) = first ∷ numbers_from (suc first) count

-- the numbers of the bit vector from one on, ascending
unfoldable pub members_from : List ℕ → ℕ → List ℕ
members_from words from = filter (has_bit words) (numbers_from from (64 * length words - from))

-- the set that the bit vector represents
unfoldable pub bits_of_words : List ℕ → Bits
bits_of_words words = bits_of (members_from words 0)

-- trimmed: the last word is not 0, so that equal sets have equal words
abbrev pub IsTrimmed : List ℕ → Type 0
IsTrimmed words = (k : ℕ) → k + 1 ≡ length words → slice_index words k ≢ 0

-- each word has 64 bits
abbrev pub AreWords : List ℕ → Type 0
AreWords words = (k : ℕ) → slice_index words k < 2 ^ 64

-- trimmed words of 64 bits, at most as many as the numbers below 2 ^ 63 take
pub record IsBitVector (words : List ℕ) : Type 0 where
  pub trimmed : IsTrimmed words
  pub each : AreWords words
  pub few : length words ≤ 2 ^ 57

-- the number is the least one of the bit vector that is not below `first`
pub record IsLeastFrom (words : List ℕ) (first n : ℕ) : Type 0 where
  pub above : first ≤ n
  pub there : has_bit words n ≡ true
  pub none : (q : ℕ) → first ≤ q → q < n → has_bit words q ≡ false

-- the number is the least one at which two tests differ
pub record IsLeastApart (p q : ℕ → Bool) (n : ℕ) : Type 0 where
  pub apart : p n ≢ q n
  pub same : (k : ℕ) → k < n → p k ≡ q k

-- a word joined to the word at a place. Words 0 are added before it if there are fewer words
abbrev pub word_joined : ℕ → ℕ → List ℕ → List ℕ
word_joined zero word [] = word ∷ []
word_joined zero word (w ∷ ws) = bit_or w word ∷ ws
word_joined (suc place) word [] = 0 ∷ word_joined place word []
word_joined (suc place) word (w ∷ ws) = w ∷ word_joined place word ws

-- the words of the bit vector that has exactly these numbers
abbrev pub bit_words : List ℕ → List ℕ
bit_words [] = []
bit_words (n ∷ ns) = word_joined (n / 64) (2 ^ (n % 64)) (bit_words ns)

-- a word mixed into a state, as the kit's FoldHasher mixes a word, except that no length is joined
-- to the multiplier
abbrev pub mixed : ℕ → ℕ → ℕ
mixed state word = folded_multiply (bit_xor state word) 0x9e37_79b9_7f4a_7c15

-- the words mixed into one number, the first word first. The start is a number that is not 0, so
-- that a first word 0 counts
unfoldable pub folded : List ℕ → ℕ
folded words = fold mixed 0x243f_6a88_85a3_08d3 words
