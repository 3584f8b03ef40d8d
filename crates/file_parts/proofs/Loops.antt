-- Loops that append the texts of a list, or of the characters of a text.
use Rattle.std.proofs.Common.{◌≡◌, ◌+◌, ◌<◌, ◌++◌, ◌∙◌, ℕ, List, [], ap, sym, append_assoc, get_or, length, take}
use Rattle.std.proofs.lemmas.List.{flat_map_more, nil_from_length, take_more}
use Rattle.std.proofs.lemmas.Str.{chars_past_char, chars-nil}
use Rattle.std.specs.Char.{encode_utf8}
use Rattle.std.specs.List.{flat_map}
use Rattle.std.specs.Str.{IsUtf8, chars}

-- if a list has those of the first i items and grows by those of item i, it has those of the first
-- i + 1
pub one_more : {X A : Type 0} (f : X → List A) (xs : List X) (i : ℕ) (x : X) (start now next : List A) → i < length xs → x ≡ get_or xs i x → now ≡ start ++ flat_map f (take i xs) → next ≡ now ++ f x →
    next ≡ start ++ flat_map f (take (i + 1) xs)
one_more f xs i x start now next inside same so_far grew =
    grew ∙ ap (λ text. text ++ f x) so_far ∙ append_assoc start (flat_map f (take i xs)) (f x) ∙ ap (λ text. start ++ text) (ap (λ y. flat_map f (take i xs) ++ f y) same ∙ flat_map_more f (flat_map f []) (take i xs) (get_or xs i x) ∙ ap (flat_map f) (sym (take_more xs i x inside)))

-- what the characters of a text give is what the first one gives, and then what the rest gives
pub chars_more : (f : ℕ → List ℕ) (bs rest : List ℕ) (c : ℕ) → IsUtf8 bs → bs ≡ encode_utf8 c ++ rest → flat_map f (chars bs) ≡ f c ++ flat_map f (chars rest)
chars_more f bs rest c text e = ap (flat_map f) (chars_past_char bs rest c text e)

-- an empty text gives nothing
pub chars_none : (f : ℕ → List ℕ) (bs : List ℕ) → length bs ≡ 0 → flat_map f (chars bs) ≡ []
chars_none f bs none = ap (λ (it : List ℕ). flat_map f (chars it)) (nil_from_length bs none) ∙ ap (flat_map f) chars-nil
