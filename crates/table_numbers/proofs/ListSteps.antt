-- One more item of a list was taken, and what it gives was added to another list.
use Rattle.std.proofs.Common.{◌≡◌, ℕ, ◌+◌, ◌<◌, List, [], ◌∷◌, ◌++◌, length, map, drop, take, get_or, sym, ◌∙◌, ap, append_assoc}
use Rattle.std.proofs.lemmas.List.{drop_more, map-append, take_more}

module _ {B : Type 0} (xs : List B) (i : ℕ) (x d : B) (l : i < length xs) (is : x ≡ get_or xs i d) where
  -- what is left begins with the item
  pub left : drop i xs ≡ x ∷ drop (i + 1) xs
  left = drop_more xs i d l ∙ ap (λ (y : B). y ∷ drop (i + 1) xs) (sym is)

  -- what was taken ends with it
  pub taken : take (i + 1) xs ≡ take i xs ++ x ∷ []
  taken = take_more xs i d l ∙ ap (λ (y : B). take i xs ++ y ∷ []) (sym is)

  -- one item is added for it
  pub next_item : (C : Type 0) (g : B → C) (out all : List C) (y : C) → y ≡ g x → out ++ map g (drop i xs) ≡ all → (out ++ y ∷ []) ++ map g (drop (i + 1) xs) ≡ all
  next_item C g out all y same e =
      append_assoc out (y ∷ []) (map g (drop (i + 1) xs))
      ∙ ap (λ (z : C). out ++ z ∷ map g (drop (i + 1) xs)) same
      ∙ ap (λ (zs : List B). out ++ map g zs) (sym left)
      ∙ e

  -- one item is added for it, and the list is seen through a function
  pub next_seen : (A C : Type 0) (f : A → C) (g : B → C) (out : List A) (all : List C) (y : A) → f y ≡ g x → map f out ++ map g (drop i xs) ≡ all → map f (out ++ y ∷ []) ++ map g (drop (i + 1) xs) ≡ all
  next_seen A C f g out all y same e =
      ap (λ (zs : List C). zs ++ map g (drop (i + 1) xs)) (map-append f out (y ∷ []))
      ∙ next_item C g (map f out) all (f y) same e
