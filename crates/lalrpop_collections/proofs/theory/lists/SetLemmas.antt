-- A value that is put into a set twice.
use Rattle.std.proofs.Common.{◌≡◌, Bool, true, false, List, [], ◌∷◌, refl, sym, ◌∙◌, ap, Result, Ok, Err, IfOk, MatchBool}
use Rattle.std.specs.declared.cmp.Ordering.{Ordering}
use Rattle.std.specs.declared.cmp.Ordering.TheVariants.{Less, Equal, Greater}
use Rattle.std.specs.Ordering.{match_ordering}
use Rattle.std.specs.Cmp.{IsTotalOrder, tied_back}
use Rattle.std.specs.BTreeSet.{insert_key}

-- the second insert changes nothing
pub insert_key-twice : {K : Type 0} {cmp : K → K → Ordering} → IsTotalOrder cmp → (a b : K) → cmp a b ≡ Equal → (keys : List K) → insert_key cmp (insert_key cmp keys a) b ≡ insert_key cmp keys a
insert_key-twice {cmp = cmp} total a b tie [] = ap (λ o. match_ordering o (b ∷ a ∷ []) (a ∷ []) (a ∷ b ∷ [])) (tied_back total a b tie)
insert_key-twice {cmp = cmp} total a b tie (x ∷ xs) = by_order (insert_key-twice total a b tie xs) (cmp a x) refl
  where
    by_order : insert_key cmp (insert_key cmp xs a) b ≡ insert_key cmp xs a → (o : Ordering) → cmp a x ≡ o → insert_key cmp (match_ordering o (a ∷ x ∷ xs) (x ∷ xs) (x ∷ insert_key cmp xs a)) b ≡ match_ordering o (a ∷ x ∷ xs) (x ∷ xs) (x ∷ insert_key cmp xs a)
    by_order later Less e = ap (λ o. match_ordering o (b ∷ a ∷ x ∷ xs) (a ∷ x ∷ xs) (a ∷ insert_key cmp (x ∷ xs) b)) (tied_back total a b tie)
    by_order later Equal e = ap (λ o. match_ordering o (b ∷ x ∷ xs) (x ∷ xs) (x ∷ insert_key cmp xs b)) (sym (total.congr a b x tie) ∙ e)
    by_order later Greater e =
        ap (λ o. match_ordering o (b ∷ x ∷ insert_key cmp xs a) (x ∷ insert_key cmp xs a) (x ∷ insert_key cmp (insert_key cmp xs a) b)) (sym (total.congr a b x tie) ∙ e)
        ∙ ap (λ ys. x ∷ ys) later

-- a push that changes nothing returns false
pub told_unchanged : {E : Type 0} (r : Result Bool E) (Same Pushed : Type 0) → IfOk r (λ _. Pushed) → (Pushed → Same) → IfOk r (λ changed. MatchBool changed (¬ Same) Same) → IfOk r (λ changed. changed ≡ false)
told_unchanged (Ok true) Same Pushed pushed same told = absurd (told (same pushed))
told_unchanged (Ok false) Same Pushed pushed same told = refl
told_unchanged (Err e) Same Pushed pushed same told = tt
