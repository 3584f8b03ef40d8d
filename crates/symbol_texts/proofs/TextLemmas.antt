-- The texts of strings, one after the other.
use Rattle.std.proofs.Common.{◌≡◌, ℕ, ◌+◌, ◌<◌, List, [], ◌∷◌, ◌++◌, drop, get_or, length, map, take, refl, ap, sym, subst, ◌∙◌, String, string_bytes}
use Rattle.std.proofs.lemmas.List.{drop_more, get_or-map, length-map, map_more, map_push}
use Rattle.std.specs.List.{zip}
use Rattle.std.specs.declared.alloc.Global.{Global}
use Rattle.symbol_texts.specs.Texts.{texts_of}

-- each string has a text
pub within_texts : (all : List (String Global)) (i : ℕ) → i < length all → i < length (texts_of all)
within_texts all i inside = subst (λ n. i < n) (sym (length-map all string_bytes)) inside

-- the text of a string that was read is the one with its number
pub text_at : (all : List (String Global)) (i : ℕ) (s : String Global) → i < length all → s ≡ get_or all i s → string_bytes s ≡ get_or (texts_of all) i (string_bytes s)
text_at all i s inside is = ap string_bytes is ∙ sym (get_or-map string_bytes all i s (string_bytes s) inside)

-- if a list has the images of the first i items and gets that of item i, it has those of the first
-- i + 1
pub map_one_more : {X Y A : Type 0} (f : X → A) (g : Y → A) (xs : List X) (i : ℕ) (x : X) (ys : List Y) (y : Y) → i < length xs → x ≡ get_or xs i x → map g ys ≡ map f (take i xs) → g y ≡ f x →
    map g (ys ++ y ∷ []) ≡ map f (take (i + 1) xs)
map_one_more f g xs i x ys y inside is so_far same =
    map_push g ys y ∙ ap (λ t. t ++ g y ∷ []) so_far ∙ ap (λ z. map f (take i xs) ++ z ∷ []) (same ∙ ap f is) ∙ sym (map_more f xs i x inside)

-- pairs of the rest of two lists
pub zip_more : (ns cs : List (List ℕ)) (n : ℕ) (a b : List ℕ) → n < length ns → n < length cs → a ≡ get_or ns n a → b ≡ get_or cs n b → zip (drop n ns) (drop n cs) ≡ (a, b) ∷ zip (drop (n + 1) ns) (drop (n + 1) cs)
zip_more ns cs n a b in_n in_c is_a is_b =
    ap (λ (xs : List (List ℕ)). zip xs (drop n cs)) (drop_more ns n a in_n ∙ ap (λ (x : List ℕ). x ∷ drop (n + 1) ns) (sym is_a))
    ∙ ap (zip (a ∷ drop (n + 1) ns)) (drop_more cs n b in_c ∙ ap (λ (y : List ℕ). y ∷ drop (n + 1) cs) (sym is_b))

pub zip_none : (ns : List (List ℕ)) → zip {K = List ℕ} {X = List ℕ} ns [] ≡ []
zip_none [] = refl
zip_none (x ∷ ns) = refl
