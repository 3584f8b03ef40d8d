-- Lists of one element, and lists that grow at the end.
use Rattle.std.proofs.Common.{◌≡◌, inl, inr, List, [], ◌∷◌, ◌++◌}
use Rattle.std.specs.Prelude.{Contains}
use Rattle.std.specs.List.{AllZip}
use Rattle.std.proofs.lemmas.List.Elements.{Contains-push_cases}
use Rattle.lalrpop_collections.proofs.theory.lists.Members.{Contains-none}

-- a list of one element has no other
pub only_one : {X : Type 0} (x y : X) → Contains (x ∷ []) y → x ≡ y
only_one x y h = elim (Contains-push_cases [] x y h) [ inl none ↦ absurd (Contains-none y none) | inr same ↦ same ]

-- two zipped lists get one more element each
pub AllZip-last : {X Y : Type 0} (R : X → Y → Type 0) (xs : List X) (ys : List Y) (x : X) (y : Y) → AllZip R xs ys → R x y → AllZip R (xs ++ x ∷ []) (ys ++ y ∷ [])
AllZip-last R [] [] x y z r = (r, tt)
AllZip-last R [] (b ∷ ys) x y z r = absurd z
AllZip-last R (a ∷ xs) [] x y z r = absurd z
AllZip-last R (a ∷ xs) (b ∷ ys) x y z r = (z.0, AllZip-last R xs ys x y z.1 r)
