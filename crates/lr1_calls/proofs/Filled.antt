-- A text that is copied to a room part by part.
use Rattle.std.proofs.Common.{◌≡◌, ◌≤◌, ◌<◌, ◌+◌, ◌-◌, ℕ, suc, List, [], ◌∷◌, ◌++◌, min, length, take, drop, get_or, ap, sym, ◌∙◌, refl, arith}
use Rattle.std.proofs.lemmas.List.{length-take, length-take-le, length-drop, length-append, drop_more}
use Rattle.std.specs.List.{flat_map}
use Rattle.lr1_calls.specs.Copied.{filled}

-- an empty room stays empty
empty : (b : List ℕ) → drop {A = ℕ} (length b) [] ≡ []
empty [] = refl
empty (y ∷ b) = refl

-- how many bytes of a text fit
abbrev fit : (a r : List ℕ) → ℕ
fit a r = length (take (length r) a)

-- a text is copied after the part of another one that fits
after_fit : (a b r : List ℕ) → take (fit a r) (filled a r) ++ filled b (drop (fit a r) (filled a r)) ≡ filled (a ++ b) r
after_fit [] b [] = refl
after_fit [] b (x ∷ r) = refl
after_fit (y ∷ a) b [] = empty b
after_fit (y ∷ a) b (x ∷ r) = ap (λ l. y ∷ l) (after_fit a b r)

-- the same in a room that begins with other bytes
after_others : (p a b r : List ℕ) → take (length p + fit a r) (p ++ filled a r) ++ filled b (drop (length p + fit a r) (p ++ filled a r)) ≡ p ++ filled (a ++ b) r
after_others [] a b r =
    let on : length {A = ℕ} [] + fit a r ≡ fit a r = omega arith in
    ap (λ n. take n (filled a r) ++ filled b (drop n (filled a r))) on ∙ after_fit a b r
after_others (x ∷ p) a b r =
    let on : length (x ∷ p) + fit a r ≡ suc (length p + fit a r) = omega arith in
    ap (λ n. take n (x ∷ (p ++ filled a r)) ++ filled b (drop n (x ∷ (p ++ filled a r)))) on ∙ ap (λ l. x ∷ l) (after_others p a b r)

-- the place after a text that was copied to a place
place_after : (out a : List ℕ) (at : ℕ) → at ≤ length out → at + min (length out - at) (length a) ≡ length (take at out) + fit a (drop at out)
place_after out a at within = omega (arith, length-take-le at out within, length-drop at out, length-take (length (drop at out)) a)

-- a copy keeps the length of a room
length_filled : (a r : List ℕ) → length (filled a r) ≡ length r
length_filled a r = omega (arith, length-append (take (length r) a) (drop (length a) r), length-take (length r) a, length-drop (length a) r)

-- the same of a copy to a place
pub length_put : (out new a : List ℕ) (at : ℕ) → at ≤ length out → new ≡ take at out ++ filled a (drop at out) → length new ≡ length out
length_put out new a at within copied =
    omega (arith, ap length copied, length-append (take at out) (filled a (drop at out)), length_filled a (drop at out), length-take-le at out within, length-drop at out)

-- a text is copied to a place, and another one after it
pub filled_more : (out new a b : List ℕ) (at next : ℕ) → at ≤ length out → new ≡ take at out ++ filled a (drop at out) → next ≡ at + min (length out - at) (length a) → take next new ++ filled b (drop next new) ≡ take at out ++ filled (a ++ b) (drop at out)
filled_more out new a b at next within copied place =
    ap (λ l. take next l ++ filled b (drop next l)) copied
    ∙ ap (λ n. take n (take at out ++ filled a (drop at out)) ++ filled b (drop n (take at out ++ filled a (drop at out)))) (place ∙ place_after out a at within)
    ∙ after_others (take at out) a b (drop at out)

-- a piece is copied to a place, and then the pieces that are left
pub pieces_more : {X : Type 0} (f : X → List ℕ) (xs : List X) (i : ℕ) (x : X) (out new : List ℕ) (at next : ℕ) → i < length xs → x ≡ get_or xs i x → at ≤ length out → new ≡ take at out ++ filled (f x) (drop at out) → next ≡ at + min (length out - at) (length (f x)) →
    take next new ++ filled (flat_map f (drop (i + 1) xs)) (drop next new) ≡ take at out ++ filled (flat_map f (drop i xs)) (drop at out)
pieces_more f xs i x out new at next inside same within copied place =
    let first : f x ++ flat_map f (drop (i + 1) xs) ≡ flat_map f (drop i xs) = ap (λ y. f y ++ flat_map f (drop (i + 1) xs)) same ∙ sym (ap (flat_map f) (drop_more xs i x inside)) in
    filled_more out new (f x) (flat_map f (drop (i + 1) xs)) at next within copied place ∙ ap (λ (t : List ℕ). take at out ++ filled t (drop at out)) first
