-- Names of bases, one after the other.
use Rattle.std.proofs.Common.{◌≡◌, ℕ, ◌+◌, ◌<◌, List, ◌∷◌, cond, drop, get_or, length, take, ap, sym, ◌∙◌, String, string_bytes}
use Rattle.std.proofs.lemmas.List.{at_drop_more}
use Rattle.std.proofs.lemmas.List.Sums.{sum_by_more}
use Rattle.std.specs.declared.alloc.Global.{Global}
use Rattle.std.specs.Str.{bytes_eq}
use Rattle.symbol_texts.specs.Distinct.{is_only, name_for, names_from, occurrences}
use Rattle.symbol_texts.specs.Texts.{texts_of}
use Rattle.symbol_texts.proofs.TextLemmas.{text_at, within_texts}

-- how often a text is in the first i + 1 texts
pub occurs_more : (text : List ℕ) (all : List (String Global)) (i : ℕ) (s : String Global) → i < length all → s ≡ get_or all i s → occurrences text (take (i + 1) (texts_of all)) ≡ occurrences text (take i (texts_of all)) + cond (bytes_eq (string_bytes s) text) 1 0
occurs_more text all i s inside is =
    sum_by_more (λ (x : List ℕ). cond (bytes_eq x text) 1 0) (texts_of all) i (string_bytes s) (within_texts all i inside)
    ∙ ap (λ (x : List ℕ). occurrences text (take i (texts_of all)) + cond (bytes_eq x text) 1 0) (sym (text_at all i s inside is))

-- the names of the bases from one on are its name and those of the rest
pub names_more : (bases taken : List (List ℕ)) (mark : List ℕ) (number : ℕ) (all : List (List ℕ)) (base : List ℕ) → number < length all → base ≡ get_or all number base →
    names_from bases taken mark number (drop number all) ≡ name_for (is_only bases taken base) mark number base ∷ names_from bases taken mark (number + 1) (drop (number + 1) all)
names_more bases taken mark number all base inside is =
    at_drop_more (names_from bases taken mark number) all number base inside
    ∙ ap (λ b. name_for (is_only bases taken b) mark number b ∷ names_from bases taken mark (number + 1) (drop (number + 1) all)) (sym is)
