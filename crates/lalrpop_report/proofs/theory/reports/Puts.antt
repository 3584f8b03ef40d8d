-- Texts that a sink takes part by part.
use Rattle.std.proofs.Common.{◌≡◌, ◌+◌, ◌<◌, ℕ, List, [], ◌++◌, length, take, drop, get_or, Option, Result, Ok, Err, OnErr, ap, sym, ◌∙◌, refl, subst, arith, length-append}
use Rattle.std.specs.List.{flat_map}
use Rattle.std.specs.Io.KnownBytes.{Appends}
use Rattle.std.proofs.KnownBytes.{Appends-trans}
use Rattle.std.proofs.Math.Seq.{take-append-add}
use Rattle.std.proofs.lemmas.Grind.{flat_map-append}
use Rattle.std.proofs.lemmas.List.{take-append-le, take-append-drop}
use Rattle.lalrpop_collections.proofs.theory.lists.Pieces.{one_more}
use Rattle.lalrpop_report.specs.reports.ReportSinks.{WroteBeginning}

-- a beginning of a text is a beginning of a longer text
pub part_first : (old new : Option (List ℕ)) (text rest : List ℕ) → WroteBeginning old new text → WroteBeginning old new (text ++ rest)
part_first old new text rest (n, below, appends) = (n, omega (arith, below, length-append text rest), subst (Appends old new) (sym (take-append-le n text rest (omega (arith, below)))) appends)

-- a text, and a beginning of another after it
pub part_second : (old mid new : Option (List ℕ)) (text rest : List ℕ) → Appends old mid text → WroteBeginning mid new rest → WroteBeginning old new (text ++ rest)
part_second old mid new text rest whole (n, below, appends) = (
  length text + n,
  omega (arith, below, length-append text rest),
  subst (Appends old new) (sym (take-append-add text rest n)) (Appends-trans old mid new text (take n rest) whole appends),
)

-- the pieces before one, and a beginning of that one
pub part_of_pieces : {X : Type 0} (f : X → List ℕ) (xs : List X) (i : ℕ) (x : X) (old mid new : Option (List ℕ)) → i < length xs → x ≡ get_or xs i x → Appends old mid (flat_map f (take i xs)) → WroteBeginning mid new (f x) → WroteBeginning old new (flat_map f xs)
part_of_pieces f xs i x old mid new inside same whole part =
    let before = flat_map f (take i xs) in
    let with_one : before ++ f x ≡ flat_map f (take (i + 1) xs) = one_more f xs i x [] before (before ++ f x) inside same refl refl in
    let all : flat_map f (take (i + 1) xs) ++ flat_map f (drop (i + 1) xs) ≡ flat_map f xs = sym (flat_map-append f (take (i + 1) xs) (drop (i + 1) xs)) ∙ ap (flat_map f) (take-append-drop (i + 1) xs) in
    subst (WroteBeginning old new) (ap (λ (text : List ℕ). text ++ flat_map f (drop (i + 1) xs)) with_one ∙ all)
    (part_first old new (before ++ f x) (flat_map f (drop (i + 1) xs)) (part_second old mid new before (f x) whole part))

-- what holds after an error, from what holds in any case
pub on_err : {X E : Type 0} {P : Type 0} (r : Result X E) → P → OnErr r P
on_err (Ok x) p = tt
on_err (Err e) p = p
