-- Bit vectors: their numbers in order, their sets, and their words.
use Rattle.std.proofs.Common.{◌≡◌, ◌≢◌, ℕ, zero, suc, ◌+◌, ◌-◌, ◌*◌, ◌/◌, ◌%◌, ◌^◌, ◌<◌, ◌≤◌, ⊎_elim, ◌==◌, Bool, true, false, ◌||◌, ◌&&◌, List, [], ◌∷◌, length, slice_index, refl, sym, ◌∙◌, ap, arith, eq-eqb, w64, bit_and, bit_or, min, max}
use Rattle.std.specs.Int.{bit_at, trailing_zeros}
use Rattle.std.specs.List.{filter}
use Rattle.std.proofs.lemmas.List.{get_or_past, ext_get_or}
use Rattle.std.proofs.lemmas.Nat.Bits.{bit_at-zero, bit_at-lt, bit_at_or, bit_at_and, bit_at-trailing_zeros, same_from_bits_below}
use Rattle.std.proofs.lemmas.Bool.{cases_Bool, cases_eq, cases_lt, cond-true, cond-false, or_left, or_right, true≢false}
use Rattle.lalrpop_collections.specs.Words.{Bits, has, rising, has-bits_of, same_bits, join, has-join}
use Rattle.lalrpop_collections.specs.lists.BitVectors.{has_bit, numbers_from, members_from, bits_of_words, IsBitVector, IsLeastFrom, AreWords}
use Rattle.lalrpop_collections.proofs.theory.sets.BitLemmas.{rising-bits_of}
use Rattle.lalrpop_collections.proofs.theory.lists.RisingLemmas.{RisesFrom, among, filter_rises, filter_any, is_rising}

-- ---- a number as a place and a bit
pub has_bit-at : (words : List ℕ) (k i : ℕ) → i < 64 → has_bit words (64 * k + i) ≡ (bit_at (slice_index words k) i == 1)
unfolding has_bit
has_bit-at words k i l =
    let place : (64 * k + i) / 64 ≡ k = omega arith in
    let bit : (64 * k + i) % 64 ≡ i = omega arith in
    ap (λ (p : ℕ). bit_at (slice_index words p) ((64 * k + i) % 64) == 1) place ∙ ap (λ (b : ℕ). bit_at (slice_index words k) b == 1) bit

pub has_bit-is : (words : List ℕ) (n : ℕ) → has_bit words n ≡ (bit_at (slice_index words (n / 64)) (n % 64) == 1)
unfolding has_bit
has_bit-is words n = refl

-- after the last word there is no number
pub has_bit-past : (words : List ℕ) (n : ℕ) → 64 * length words ≤ n → has_bit words n ≡ false
unfolding has_bit
has_bit-past words n l =
    ap (λ (w : ℕ). bit_at w (n % 64) == 1) (get_or_past words (n / 64) 0 (omega arith)) ∙ ap (λ (b : ℕ). b == 1) (bit_at-zero (n % 64))

pub has_bit-within : (words : List ℕ) (n : ℕ) → has_bit words n ≡ true → n < 64 * length words
has_bit-within words n h = ⊎_elim (λ l. l) (λ l. absurd (true≢false (sym h ∙ has_bit-past words n l))) (cases_lt n (64 * length words))

-- equal words have equal numbers
pub has_bit-same : (xs ys : List ℕ) → ((k : ℕ) → slice_index xs k ≡ slice_index ys k) → (n : ℕ) → has_bit xs n ≡ has_bit ys n
unfolding has_bit
has_bit-same xs ys same n = ap (λ (w : ℕ). bit_at w (n % 64) == 1) (same (n / 64))

pub or_test : (x y : ℕ) → x < 2 → y < 2 → (max x y == 1) ≡ ((x == 1) || (y == 1))
or_test zero zero l m = refl
or_test zero (suc zero) l m = refl
or_test (suc zero) zero l m = refl
or_test (suc zero) (suc zero) l m = refl
or_test (suc (suc x)) y l m = absurd (omega arith)
or_test x (suc (suc y)) l m = absurd (omega arith)

pub and_test : (x y : ℕ) → x < 2 → y < 2 → (min x y == 1) ≡ ((x == 1) && (y == 1))
and_test zero zero l m = refl
and_test zero (suc zero) l m = refl
and_test (suc zero) zero l m = refl
and_test (suc zero) (suc zero) l m = refl
and_test (suc (suc x)) y l m = absurd (omega arith)
and_test x (suc (suc y)) l m = absurd (omega arith)

-- the numbers of joined words are those that either has
pub has_bit-or : (xs ys zs : List ℕ) → ((k : ℕ) → slice_index zs k ≡ bit_or (slice_index xs k) (slice_index ys k)) → (n : ℕ) → has_bit zs n ≡ (has_bit xs n || has_bit ys n)
unfolding has_bit
has_bit-or xs ys zs joined n =
    let x = slice_index xs (n / 64) in
    let y = slice_index ys (n / 64) in
    let i = n % 64 in
    ap (λ (w : ℕ). bit_at w i == 1) (joined (n / 64)) ∙ ap (λ (b : ℕ). b == 1) (bit_at_or x y i) ∙ or_test (bit_at x i) (bit_at y i) (bit_at-lt x i) (bit_at-lt y i)

-- the numbers of met words are those that both have
pub has_bit-and : (xs ys zs : List ℕ) → ((k : ℕ) → slice_index zs k ≡ bit_and (slice_index xs k) (slice_index ys k)) → (n : ℕ) → has_bit zs n ≡ (has_bit xs n && has_bit ys n)
unfolding has_bit
has_bit-and xs ys zs met n =
    let x = slice_index xs (n / 64) in
    let y = slice_index ys (n / 64) in
    let i = n % 64 in
    ap (λ (w : ℕ). bit_at w i == 1) (met (n / 64)) ∙ ap (λ (b : ℕ). b == 1) (bit_at_and x y i) ∙ and_test (bit_at x i) (bit_at y i) (bit_at-lt x i) (bit_at-lt y i)

pub one_bit : (x y : ℕ) → x < 2 → y < 2 → (x == 1) ≡ (y == 1) → x ≡ y
one_bit zero zero l m e = refl
one_bit zero (suc zero) l m e = cc
one_bit (suc zero) zero l m e = cc
one_bit (suc zero) (suc zero) l m e = refl
one_bit (suc (suc x)) y l m e = absurd (omega arith)
one_bit x (suc (suc y)) l m e = absurd (omega arith)

-- if the numbers are the same, each word is
pub same_word_at : (xs ys : List ℕ) → AreWords xs → AreWords ys → ((n : ℕ) → has_bit xs n ≡ has_bit ys n) → (k : ℕ) → slice_index xs k ≡ slice_index ys k
same_word_at xs ys low_x low_y same k =
    let x = slice_index xs k in
    let y = slice_index ys k in
    same_from_bits_below 64 x y (low_x k) (low_y k) (λ i l. one_bit (bit_at x i) (bit_at y i) (bit_at-lt x i) (bit_at-lt y i) (sym (has_bit-at xs k i l) ∙ same (64 * k + i) ∙ has_bit-at ys k i l))

no_longer : (xs ys : List ℕ) → IsBitVector ys → ((k : ℕ) → slice_index xs k ≡ slice_index ys k) → length ys ≤ length xs
no_longer xs ys is same = ⊎_elim
    (λ l. absurd (is.trimmed (length ys - 1) (omega arith) (sym (same (length ys - 1)) ∙ get_or_past xs (length ys - 1) 0 (omega arith))))
    (λ l. l)
    (cases_lt (length xs) (length ys))

-- bit vectors with equal words at each place are equal
pub same_lists : (xs ys : List ℕ) → IsBitVector xs → IsBitVector ys → ((k : ℕ) → slice_index xs k ≡ slice_index ys k) → xs ≡ ys
same_lists xs ys is_x is_y same =
    let less = no_longer xs ys is_y same in
    let more = no_longer ys xs is_x (λ k. sym (same k)) in
    ext_get_or 0 xs ys (omega arith) (λ i l. same i)

-- a word that is not 0 has a lowest number
pub lowest : (words : List ℕ) (k : ℕ) → slice_index words k ≢ 0 → slice_index words k < 2 ^ 64 → (trailing_zeros w64 (slice_index words k) < 64) × (has_bit words (64 * k + trailing_zeros w64 (slice_index words k)) ≡ true)
lowest words k some low =
    let t = bit_at-trailing_zeros w64 (slice_index words k) (omega arith) low in
    (t.0, has_bit-at words k (trailing_zeros w64 (slice_index words k)) t.0 ∙ ap (λ (b : ℕ). b == 1) t.1)

-- a word that is 0 has no number
pub none_in : (words : List ℕ) (k n : ℕ) → slice_index words k ≡ 0 → 64 * k ≤ n → n < 64 * k + 64 → has_bit words n ≡ false
unfolding has_bit
none_in words k n none from to =
    let place : n / 64 ≡ k = omega arith in
    ap (λ (p : ℕ). bit_at (slice_index words p) (n % 64) == 1) place ∙ ap (λ (w : ℕ). bit_at w (n % 64) == 1) none ∙ ap (λ (b : ℕ). b == 1) (bit_at-zero (n % 64))

-- below its lowest number a word has none
pub none_below : (words : List ℕ) (k n : ℕ) → slice_index words k ≢ 0 → slice_index words k < 2 ^ 64 → 64 * k ≤ n → n < 64 * k + trailing_zeros w64 (slice_index words k) → has_bit words n ≡ false
none_below words k n some low from to =
    let t = bit_at-trailing_zeros w64 (slice_index words k) (omega arith) low in
    let i = n - 64 * k in
    let is : 64 * k + i ≡ n = omega arith in
    ap (has_bit words) (sym is) ∙ has_bit-at words k i (omega (arith, t.0)) ∙ ap (λ (b : ℕ). b == 1) (t.2 i (omega arith))

-- ---- the numbers in order
rises : (first count : ℕ) → RisesFrom first (numbers_from first count)
rises first zero = tt
rises first (suc count) = (omega arith, rises (suc first) count)

there : (first count q : ℕ) → first ≤ q → q < first + count → among q (numbers_from first count) ≡ true
there first zero q l m = absurd (omega arith)
there first (suc count) q l m = ⊎_elim
    (λ same. or_left (q == first) (among q (numbers_from (suc first) count)) (eq-eqb q first same))
    (λ other. or_right (q == first) (among q (numbers_from (suc first) count)) (there (suc first) count q (omega (arith, other)) (omega arith)))
    (cases_eq q first)

absorbed : (a b : Bool) → (b ≡ true → a ≡ true) → (a && b) ≡ b
absorbed true b h = refl
absorbed false true h = h refl
absorbed false false h = refl

-- the set of a bit vector has its numbers
pub has-bits_of_words : (words : List ℕ) (q : ℕ) → has (bits_of_words words) q ≡ has_bit words q
unfolding bits_of_words members_from
has-bits_of_words words q =
    let all = numbers_from 0 (64 * length words - 0) in
    has-bits_of (filter (has_bit words) all) q ∙ filter_any q (has_bit words) all
    ∙ absorbed (among q all) (has_bit words q) (λ h. there 0 (64 * length words - 0) q (omega arith) (omega (arith, has_bit-within words q h)))

-- the set of a bit vector, as an ascending list, has the numbers of the bit vector in order
pub rising-bits_of_words : (words : List ℕ) → rising (bits_of_words words) ≡ members_from words 0
unfolding bits_of_words members_from
rising-bits_of_words words =
    let all = numbers_from 0 (64 * length words - 0) in
    rising-bits_of (filter (has_bit words) all) (is_rising 0 _ (filter_rises (has_bit words) 0 all (rises 0 (64 * length words - 0))))

skipped : (p : ℕ → Bool) (first count n rest : ℕ) → ((q : ℕ) → first ≤ q → q < n → p q ≡ false) → p n ≡ true → first ≤ n → first + count ≡ suc n + rest →
    filter p (numbers_from first count) ≡ n ∷ filter p (numbers_from (suc n) rest)
skipped p first zero n rest none some l e = absurd (omega arith)
skipped p first (suc count) n rest none some l e = ⊎_elim
    (λ same.
    let left : count ≡ rest = omega arith in
    cond-true (p first) (first ∷ filter p (numbers_from (suc first) count)) (filter p (numbers_from (suc first) count)) (ap p same ∙ some)
    ∙ ap (λ (m : ℕ). m ∷ filter p (numbers_from (suc m) count)) same ∙ ap (λ (m : ℕ). n ∷ filter p (numbers_from (suc n) m)) left)
    (λ other.
    cond-false (p first) (first ∷ filter p (numbers_from (suc first) count)) (filter p (numbers_from (suc first) count)) (none first (omega arith) (omega (arith, other)))
    ∙ skipped p (suc first) count n rest (λ q m. none q (omega arith)) some (omega (arith, other)) (omega arith))
    (cases_eq first n)

all_skipped : (p : ℕ → Bool) (first count : ℕ) → ((q : ℕ) → first ≤ q → p q ≡ false) → filter p (numbers_from first count) ≡ []
all_skipped p first zero none = refl
all_skipped p first (suc count) none =
    cond-false (p first) (first ∷ filter p (numbers_from (suc first) count)) (filter p (numbers_from (suc first) count)) (none first (omega arith))
    ∙ all_skipped p (suc first) count (λ q l. none q (omega arith))

-- the least number comes first
pub members-next : (words : List ℕ) (first n : ℕ) → IsLeastFrom words first n → members_from words first ≡ n ∷ members_from words (n + 1)
unfolding members_from
members-next words first n least =
    let within = has_bit-within words n least.there in
    let next : n + 1 ≡ suc n = omega arith in
    skipped (has_bit words) first (64 * length words - first) n (64 * length words - (n + 1)) least.none least.there least.above (omega (arith, least.above))
    ∙ ap (λ (m : ℕ). n ∷ filter (has_bit words) (numbers_from m (64 * length words - (n + 1)))) (sym next)

pub members-none : (words : List ℕ) (first : ℕ) → ((n : ℕ) → first ≤ n → has_bit words n ≡ false) → members_from words first ≡ []
unfolding members_from
members-none words first none = all_skipped (has_bit words) first (64 * length words - first) none

length-filter-le : (p : ℕ → Bool) (first count : ℕ) → length (filter p (numbers_from first count)) ≤ count
length-filter-le p first zero = omega arith
length-filter-le p first (suc count) = ⊎_elim
    (λ t. omega (arith, length-filter-le p (suc first) count, ap length (cond-true (p first) (first ∷ filter p (numbers_from (suc first) count)) (filter p (numbers_from (suc first) count)) t)))
    (λ f. omega (arith, length-filter-le p (suc first) count, ap length (cond-false (p first) (first ∷ filter p (numbers_from (suc first) count)) (filter p (numbers_from (suc first) count)) f)))
    (cases_Bool (p first))

-- there are no more numbers than bits
pub members-few : (words : List ℕ) (first : ℕ) → length (members_from words first) ≤ 64 * length words
unfolding members_from
members-few words first = omega (arith, length-filter-le (has_bit words) first (64 * length words - first))

-- ---- sets
-- bit vectors with equal numbers have equal sets
pub same_sets : (xs ys : List ℕ) → ((n : ℕ) → has_bit xs n ≡ has_bit ys n) → bits_of_words xs ≡ bits_of_words ys
same_sets xs ys same = same_bits _ _ (λ q. has-bits_of_words xs q ∙ same q ∙ sym (has-bits_of_words ys q))

-- a set has at most one bit vector
pub same_vectors : (xs ys : List ℕ) → IsBitVector xs → IsBitVector ys → bits_of_words xs ≡ bits_of_words ys → xs ≡ ys
same_vectors xs ys is_x is_y same =
    same_lists xs ys is_x is_y (same_word_at xs ys is_x.each is_y.each (λ n. sym (has-bits_of_words xs n) ∙ ap (λ (s : Bits). has s n) same ∙ has-bits_of_words ys n))

-- words that differ have sets that differ
pub other_sets : (xs ys : List ℕ) → AreWords xs → AreWords ys → (k : ℕ) → slice_index xs k ≢ slice_index ys k → bits_of_words xs ≢ bits_of_words ys
other_sets xs ys low_x low_y k apart same =
    apart (same_word_at xs ys low_x low_y (λ n. sym (has-bits_of_words xs n) ∙ ap (λ (s : Bits). has s n) same ∙ has-bits_of_words ys n) k)

-- the words of a join have the union of the sets
pub joined_sets : (xs ys zs : List ℕ) → ((k : ℕ) → slice_index zs k ≡ bit_or (slice_index xs k) (slice_index ys k)) → bits_of_words zs ≡ join (bits_of_words xs) (bits_of_words ys)
joined_sets xs ys zs joined = same_bits _ _ (λ q.
    has-bits_of_words zs q ∙ has_bit-or xs ys zs joined q
    ∙ ap (λ b. b || has_bit ys q) (sym (has-bits_of_words xs q)) ∙ ap (λ b. has (bits_of_words xs) q || b) (sym (has-bits_of_words ys q)) ∙ sym (has-join (bits_of_words xs) (bits_of_words ys) q))

-- the numbers of a bit vector ascend
pub members_rise : (words : List ℕ) → RisesFrom 0 (members_from words 0)
unfolding members_from
members_rise words = filter_rises (has_bit words) 0 (numbers_from 0 (64 * length words - 0)) (rises 0 (64 * length words - 0))

pub among-members : (words : List ℕ) (q : ℕ) → among q (members_from words 0) ≡ has_bit words q
unfolding members_from
among-members words q =
    let all = numbers_from 0 (64 * length words - 0) in
    filter_any q (has_bit words) all ∙ absorbed (among q all) (has_bit words q) (λ h. there 0 (64 * length words - 0) q (omega arith) (omega (arith, has_bit-within words q h)))
