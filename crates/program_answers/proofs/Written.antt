-- A text that is written part by part.
use Rattle.std.proofs.Common.{◌≡◌, ℕ, ◌-◌, List, [], ◌++◌, ◌+◌, ◌<◌, length, take, drop, get_or, Option, None, Some, ap, sym, subst, ◌∙◌, refl, arith, append_assoc}
use Rattle.std.proofs.lemmas.List.{take_all, length-drop, take-append-drop}
use Rattle.std.proofs.lemmas.Grind.{flat_map-append}
use Rattle.std.specs.List.{flat_map}
use Rattle.std.specs.Io.KnownBytes.{Appends}
use Rattle.lalrpop_collections.proofs.theory.lists.Pieces.{one_more}
use Rattle.program_answers.specs.Output.{AppendsBeginning, IsPut}

-- a slice without its first k elements is the rest of a list without them
pub left_of : (k : ℕ) (rest : List ℕ) → take (length rest - k) (drop k rest) ≡ drop k rest
left_of k rest = take_all (length rest - k) (drop k rest) (omega (arith, length-drop k rest))

pub appends_more : (old mid new : Option (List ℕ)) (a b : List ℕ) → Appends old mid a → Appends mid new b → Appends old new (a ++ b)
appends_more None mid new a b p q = tt
appends_more (Some xs) None new a b p q = absurd p
appends_more (Some xs) (Some ys) None a b p q = absurd q
appends_more (Some xs) (Some ys) (Some zs) a b p q = q ∙ ap (λ l. l ++ b) p ∙ append_assoc xs a b

-- after one part more, the parts written and the rest are still the text
pub parted_more : (text done rest : List ℕ) (k : ℕ) → done ++ rest ≡ text → (done ++ take k rest) ++ take (length rest - k) (drop k rest) ≡ text
parted_more text done rest k e = ap (λ l. (done ++ take k rest) ++ l) (left_of k rest) ∙ append_assoc done (take k rest) (drop k rest) ∙ ap (λ l. done ++ l) (take-append-drop k rest) ∙ e

-- bytes that are put after others: those that were written, and those that are left, are all of them
joined : (d1 d2 b0 b1 left x y : List ℕ) → d1 ++ b1 ≡ b0 ++ x → d2 ++ left ≡ b1 ++ y → (d1 ++ d2) ++ left ≡ b0 ++ (x ++ y)
joined d1 d2 b0 b1 left x y e f = append_assoc d1 d2 left ∙ ap (λ l. d1 ++ l) f ∙ sym (append_assoc d1 b1 y) ∙ ap (λ l. l ++ y) e ∙ append_assoc b0 x y

-- bytes that are put after others are put with them
pub put_more : (old mid new : Option (List ℕ)) (b0 b1 b2 x y : List ℕ) → IsPut old mid b0 b1 x → IsPut mid new b1 b2 y → IsPut old new b0 b2 (x ++ y)
put_more old mid new b0 b1 b2 x y p q = (p.0 ++ q.0, joined p.0 q.0 b0 b1 b2 x y p.1 q.1, appends_more old mid new p.0 q.0 p.2 q.2)

-- a beginning of bytes after others is a beginning of both
pub part_more : (old mid new : Option (List ℕ)) (b0 b1 x y : List ℕ) → IsPut old mid b0 b1 x → AppendsBeginning mid new (b1 ++ y) → AppendsBeginning old new (b0 ++ (x ++ y))
part_more old mid new b0 b1 x y p (done, left, e, a) = (p.0 ++ done, left, joined p.0 done b0 b1 left x y p.1 e, appends_more old mid new p.0 done p.2 a)

-- a beginning of a text is a beginning of a longer one
pub part_longer : (old new : Option (List ℕ)) (text rest : List ℕ) → AppendsBeginning old new text → AppendsBeginning old new (text ++ rest)
part_longer old new text rest (done, left, e, a) = (done, left ++ rest, sym (append_assoc done left rest) ∙ ap (λ l. l ++ rest) e, a)

-- the pieces up to one are those before it, and it
pub with_one : {X : Type 0} (f : X → List ℕ) (xs : List X) (i : ℕ) (x : X) → i < length xs → x ≡ get_or xs i x → flat_map f (take i xs) ++ f x ≡ flat_map f (take (i + 1) xs)
with_one f xs i x inside same = one_more f xs i x [] (flat_map f (take i xs)) (flat_map f (take i xs) ++ f x) inside same refl refl

-- the pieces before one were put, and then a beginning of what is kept and of that one was written
pub part_of_pieces : {X : Type 0} (f : X → List ℕ) (xs : List X) (i : ℕ) (x : X) (old mid new : Option (List ℕ)) (kept : List ℕ) → i < length xs → x ≡ get_or xs i x → IsPut old mid [] kept (flat_map f (take i xs)) → AppendsBeginning mid new (kept ++ f x) → AppendsBeginning old new (flat_map f xs)
part_of_pieces f xs i x old mid new kept inside same put part =
    let before = flat_map f (take i xs) in
    let rest = flat_map f (drop (i + 1) xs) in
    let all : flat_map f (take (i + 1) xs) ++ rest ≡ flat_map f xs = sym (flat_map-append f (take (i + 1) xs) (drop (i + 1) xs)) ∙ ap (flat_map f) (take-append-drop (i + 1) xs) in
    subst (AppendsBeginning old new) (ap (λ (text : List ℕ). text ++ rest) (with_one f xs i x inside same) ∙ all)
    (part_longer old new (before ++ f x) rest (part_more old mid new [] kept before (f x) put part))
