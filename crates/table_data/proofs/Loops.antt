-- Lemmas on loops that append the texts of a list.
use Rattle.std.proofs.Common.{◌≡◌, ◌+◌, ◌<◌, ◌++◌, ◌∙◌, ◌∷◌, [], ℕ, List, ap, sym, refl, codes, append_assoc, get_or, length, map, take}
use Rattle.std.proofs.lemmas.List.{flat_map_more, take_more}
use Rattle.std.specs.List.{flat_map}
use Rattle.table_data.specs.Json.{array, after_separator}

-- if a list has those of the first i items and grows by those of item i, it has those of the first
-- i + 1
pub one_more : {X A : Type 0} (f : X → List A) (xs : List X) (i : ℕ) (x : X) (start now next : List A) → i < length xs → x ≡ get_or xs i x → now ≡ start ++ flat_map f (take i xs) → next ≡ now ++ f x →
    next ≡ start ++ flat_map f (take (i + 1) xs)
one_more f xs i x start now next inside same so_far grew =
    grew ∙ ap (λ text. text ++ f x) so_far ∙ append_assoc start (flat_map f (take i xs)) (f x) ∙ ap (λ text. start ++ text) (ap (λ y. flat_map f (take i xs) ++ f y) same ∙ flat_map_more f (flat_map f []) (take i xs) (get_or xs i x) ∙ ap (flat_map f) (sym (take_more xs i x inside)))

-- the texts of values, the first after a separator of its own and each other after a comma: what a
-- loop still has to write
abbrev pub going : {X : Type 0} → List ℕ → (X → List ℕ) → List X → List ℕ
going separator text [] = []
going separator text (x ∷ xs) = after_separator separator text x ++ flat_map (after_separator (codes ",") text) xs

-- after the first value, each value comes after a comma
pub going_on : {X : Type 0} (text : X → List ℕ) (xs : List X) → going (codes ",") text xs ≡ flat_map (after_separator (codes ",") text) xs
going_on text [] = refl
going_on text (x ∷ xs) = refl

-- after one value more was written, the rest is left to be written
pub going_step : {X : Type 0} (text : X → List ℕ) (separator : List ℕ) (left rest : List X) (x : X) (now next whole : List ℕ) → left ≡ x ∷ rest → next ≡ now ++ after_separator separator text x → now ++ going separator text left ≡ whole →
    next ++ going (codes ",") text rest ≡ whole
going_step text separator left rest x now next whole split grew so_far =
    ap (λ t. next ++ t) (going_on text rest)
    ∙ ap (λ t. t ++ flat_map (after_separator (codes ",") text) rest) grew
    ∙ append_assoc now (after_separator separator text x) (flat_map (after_separator (codes ",") text) rest)
    ∙ ap (λ t. now ++ going separator text t) (sym split)
    ∙ so_far

-- ---- texts that grow piece by piece
-- a text that grew by a piece and then by others grew by all of these
pub before : (start piece others all now last : List ℕ) → now ≡ start ++ piece → last ≡ now ++ others → all ≡ piece ++ others → last ≡ start ++ all
before start piece others all now last grew ended whole = ended ∙ ap (λ t. t ++ others) grew ∙ append_assoc start piece others ∙ ap (λ t. start ++ t) (sym whole)

-- a text that grew by that of a value grew by that of an equal one
pub grew_by : {X : Type 0} (text : X → List ℕ) (x y : X) (old new : List ℕ) → new ≡ old ++ text x → x ≡ y → new ≡ old ++ text y
grew_by text x y old new grew same = grew ∙ ap (λ z. old ++ text z) same

-- a text that grew from nothing is what was appended
pub from_nothing : (start all last : List ℕ) → start ≡ [] → last ≡ start ++ all → last ≡ all
from_nothing start all last none grew = grew ∙ ap (λ t. t ++ all) none

-- the texts of the images of values, each after a separator, are those of the list of images
others_of : {X Y : Type 0} (separator : List ℕ) (text : Y → List ℕ) (of : X → Y) (xs : List X) → flat_map (after_separator separator (λ x. text (of x))) xs ≡ flat_map (after_separator separator text) (map of xs)
others_of separator text of [] = refl
others_of separator text of (x ∷ xs) = ap (λ t. after_separator separator text (of x) ++ t) (others_of separator text of xs)

pub array_of : {X Y : Type 0} (separator : List ℕ) (text : Y → List ℕ) (of : X → Y) (xs : List X) → array separator (λ x. text (of x)) xs ≡ array separator text (map of xs)
array_of separator text of [] = refl
array_of separator text of (x ∷ xs) = ap (λ t. codes "[" ++ ((text (of x) ++ t) ++ codes "]")) (others_of separator text of xs)
