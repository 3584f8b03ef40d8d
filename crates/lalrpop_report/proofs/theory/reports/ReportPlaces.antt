-- The places of conflicts by the numbers of their states, as a map of them is filled.
use Rattle.std.proofs.Common.{◌≡◌, ℕ, ◌<◌, ◌+◌, ◌==◌, false, cond, List, [], ◌∷◌, ◌++◌, length, map, take, get_or, refl, sym, ap, ◌∙◌, subst, ⊎_elim, eqb-true, Option, Some, None, slice_get}
use Rattle.std.proofs.lemmas.Bool.{cases_Bool}
use Rattle.std.proofs.lemmas.List.{append-nil, map-append}
use Rattle.std.proofs.lemmas.List.Elements.{filter_more}
use Rattle.std.proofs.lemmas.Option.{slice_get_read}
use Rattle.std.specs.Ordering.{nat_cmp, is_eq}
use Rattle.std.specs.Cmp.{unsigned_tied}
use Rattle.std.specs.declared.vec.Vec.{Vec}
use Rattle.lalrpop_base.specs.Words.{collection_at, PushesAt}
use Rattle.lalrpop_report.proofs.Types.{Conflict}
use Rattle.lalrpop_report.specs.Words.{conflicts_in, places_of, ArePlacesOf}

-- a push lists a place after the others
abbrev Pushed : {A : Type 0} → Option (Vec ℕ A) → ℕ → Option (Vec ℕ A) → Type 0
Pushed {A} = PushesAt (λ (v : Vec ℕ A). v.items ≡ []) (λ (v : Vec ℕ A) (place : ℕ) (w : Vec ℕ A). w.items ≡ v.items ++ place ∷ [])

pushed_place : {A : Type 0} (old new : Option (Vec ℕ A)) (place : ℕ) → Pushed old place new → places_of new ≡ places_of old ++ place ∷ []
pushed_place None None place pushed = absurd pushed
pushed_place (Some v) None place pushed = absurd pushed
pushed_place None (Some w) place pushed = pushed.2 ∙ ap (λ ps. ps ++ place ∷ []) pushed.1
pushed_place (Some v) (Some w) place pushed = pushed

-- one conflict more, whose place is listed for the number of its state
pub one_place_more : {L A : Type 0} (all : List (Conflict L)) (i : ℕ) (x : Conflict L) (old new : List (ℕ × Vec ℕ A)) → i < length all → x ≡ get_or all i x → ArePlacesOf all (take i all) old →
    Pushed (collection_at nat_cmp old x.state.0) i (collection_at nat_cmp new x.state.0) →
    ((q : ℕ) → is_eq (nat_cmp x.state.0 q) ≡ false → collection_at nat_cmp new q ≡ collection_at nat_cmp old q) → ArePlacesOf all (take (i + 1) all) new
one_place_more {L} all i x old new inside same listed pushed others q =
    let k = x.state.0 in
    let before = conflicts_in (take i all) q in
    let more : conflicts_in (take (i + 1) all) q ≡ before ++ cond (k == q) (x ∷ []) [] =
    filter_more (λ (c : Conflict L). c.state.0 == q) all i x inside ∙ ap (λ (y : Conflict L). before ++ cond (y.state.0 == q) (y ∷ []) []) (sym same) in
    let there : slice_get all i ≡ Some x = slice_get_read all (length all) i x refl inside same in
    ⊎_elim
    (λ tied. let here : k ≡ q = eqb-true k q tied in
    let grew : places_of (collection_at nat_cmp new q) ≡ places_of (collection_at nat_cmp old q) ++ i ∷ [] =
    subst (λ (n : ℕ). places_of (collection_at nat_cmp new n) ≡ places_of (collection_at nat_cmp old n) ++ i ∷ []) here (pushed_place _ _ i pushed) in
    ap (map (slice_get all)) grew ∙ map-append (slice_get all) (places_of (collection_at nat_cmp old q)) (i ∷ [])
    ∙ ap (λ ps. ps ++ slice_get all i ∷ []) (listed q) ∙ ap (λ o. map (λ (c : Conflict L). Some c) before ++ o ∷ []) there
    ∙ sym (map-append (λ (c : Conflict L). Some c) before (x ∷ []))
    ∙ ap (map (λ (c : Conflict L). Some c)) (sym (more ∙ ap (λ b. before ++ cond b (x ∷ []) []) tied)))
    (λ apart. ap (λ o. map (slice_get all) (places_of o)) (others q (unsigned_tied k q ∙ apart)) ∙ listed q
    ∙ ap (map (λ (c : Conflict L). Some c)) (sym (more ∙ ap (λ b. before ++ cond b (x ∷ []) []) apart ∙ append-nil _)))
    (cases_Bool (k == q))
