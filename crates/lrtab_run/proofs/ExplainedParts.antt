-- A text that grows part by part.
use Rattle.std.proofs.Common.{◌≡◌, ℕ, ◌+◌, ◌<◌, ◌≤◌, List, [], ◌∷◌, ◌++◌, length, drop, get_or, refl, sym, ◌∙◌, ap, subst, arith, append_assoc}
use Rattle.std.proofs.lemmas.List.{append-nil, drop_all, drop_more}
use Rattle.lrtab_run.specs.Explained.{HasParts, no_part, part}
use Rattle.lrtab_run.specs.Explaining.{AppendsText}

module _ {X : Type 0} (IsPart : ℕ → X → List ℕ → Type 0) where
  -- a number of parts is there, and with those of the others they are the parts of all
  pub record AreDone (first : ℕ) (xs : List X) (count : ℕ) (old now : List ℕ) : Type 0 where
    pub done : List ℕ
    pub grown : now ≡ old ++ done
    pub whole : (rest : List ℕ) → HasParts IsPart (count + first) (drop count xs) rest → HasParts IsPart first xs (done ++ rest)

  pub done_more : (first : ℕ) (xs : List X) (count : ℕ) (x : X) (old now new : List ℕ) → AreDone first xs count old now → count < length xs → x ≡ get_or xs count x → AppendsText (IsPart (count + first) x) now new → AreDone first xs (count + 1) old new
  done_more first xs count x old now new d l is g = record {
    done = d.done ++ g.added;
    grown = g.grown ∙ ap (λ ys. ys ++ g.added) d.grown ∙ append_assoc old d.done g.added;
    whole = λ rest h.
        let e : count + 1 + first ≡ count + first + 1 = omega arith in
        let others : HasParts IsPart (count + first + 1) (drop (count + 1) xs) rest = subst (λ (n : ℕ). HasParts IsPart n (drop (count + 1) xs) rest) e h in
        let split : x ∷ drop (count + 1) xs ≡ drop count xs = ap (λ y. y ∷ drop (count + 1) xs) is ∙ sym (drop_more xs count x l) in
        let more : HasParts IsPart (count + first) (x ∷ drop (count + 1) xs) (g.added ++ rest) = part g.added rest g.holds others refl in
        subst (HasParts IsPart first xs) (sym (append_assoc d.done g.added rest)) (d.whole (g.added ++ rest) (subst (λ (ys : List X). HasParts IsPart (count + first) ys (g.added ++ rest)) split more));
  }

  pub done_all : (first : ℕ) (xs : List X) (count : ℕ) (old now : List ℕ) → AreDone first xs count old now → length xs ≤ count → AppendsText (HasParts IsPart first xs) old now
  done_all first xs count old now d l = record {
    added = d.done;
    holds = subst (HasParts IsPart first xs) (append-nil d.done) (d.whole [] (subst (λ (ys : List X). HasParts IsPart (count + first) ys []) (sym (drop_all count xs l)) no_part));
    grown = d.grown;
  }
