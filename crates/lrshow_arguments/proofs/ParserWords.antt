-- The options of a parser, read one after the other.
use Rattle.std.proofs.Common.{◌≡◌, ◌∙◌, ◌≤◌, ◌-◌, ℕ, true, false, List, [], ◌∷◌, None, ap, arith, codes, drop, get_or, length, map, sym, take}
use Rattle.std.proofs.lemmas.List.{take_all}
use Rattle.std.specs.Str.{bytes_eq}
use Rattle.lrshow_arguments.specs.Words.{AskedParser, augmented, is_prefix, parser_with, prefixed}

-- the first option asks for a new start symbol
pub augment_first : (p : AskedParser) (option : List ℕ) (words : List (List ℕ)) → bytes_eq option (codes "--augment") ≡ true → parser_with p (option ∷ words) ≡ parser_with (augmented p) words
augment_first p option [] e = rw e
augment_first p option (word ∷ words) e = rw e

-- it is none, without a word after it
pub none_first : (p : AskedParser) (option : List ℕ) → bytes_eq option (codes "--augment") ≡ false → parser_with p (option ∷ []) ≡ None
none_first p option e = rw e

-- it asks for a prefix
pub prefix_first : (p : AskedParser) (option word : List ℕ) (words : List (List ℕ)) → bytes_eq option (codes "--augment") ≡ false → is_prefix p.language option word ≡ true → parser_with p (option ∷ word ∷ words) ≡ parser_with (prefixed p word) words
prefix_first p option word words e f = rw (e, f)

-- or for none
pub no_prefix : (p : AskedParser) (option word : List ℕ) (words : List (List ℕ)) → bytes_eq option (codes "--augment") ≡ false → is_prefix p.language option word ≡ false → parser_with p (option ∷ word ∷ words) ≡ None
no_prefix p option word words e f = rw (e, f)

-- a list with a word is the first word and those after it
first_and_rest : {A : Type 0} (words : List A) (word : A) → 1 ≤ length words → word ≡ get_or words 0 word → words ≡ word ∷ take (length words - 1) (drop 1 words)
first_and_rest [] word some is = absurd (omega (arith, some))
first_and_rest (x ∷ xs) word some is = ap (λ w. w ∷ xs) (sym is) ∙ ap (λ ws. word ∷ ws) (sym (take_all (length (x ∷ xs) - 1) xs (omega arith)))

module _ {A : Type 0} (f : A → List ℕ) (p : AskedParser) (words : List A) (option : A) (some : 1 ≤ length words) (first : option ≡ get_or words 0 option) (text : List ℕ) (read : text ≡ f option) where
  -- the words after the first one
  abbrev after : List A
  after = take (length words - 1) (drop 1 words)

  whole : map f words ≡ text ∷ map f after
  whole = ap (λ ws. map f ws) (first_and_rest words option some first) ∙ ap (λ t. t ∷ map f after) (sym read)

  -- the first word of a list asks for a new start symbol
  pub augment_then : bytes_eq text (codes "--augment") ≡ true → parser_with p (map f words) ≡ parser_with (augmented p) (map f after)
  augment_then e = ap (parser_with p) whole ∙ augment_first p text (map f after) e

  -- or the first two ask for a prefix
  pub prefix_then : (word : A) → 1 ≤ length after → word ≡ get_or after 0 word → (value : List ℕ) → value ≡ f word → bytes_eq text (codes "--augment") ≡ false → is_prefix p.language text value ≡ true → parser_with p (map f words) ≡ parser_with (prefixed p value) (map f (take (length after - 1) (drop 1 after)))
  prefix_then word more next value is e prefix =
      let rest = map f (take (length after - 1) (drop 1 after)) in
      ap (parser_with p) (whole ∙ ap (λ ws. text ∷ ws) (ap (λ ws. map f ws) (first_and_rest after word more next) ∙ ap (λ t. t ∷ rest) (sym is)))
      ∙ prefix_first p text value rest e prefix
