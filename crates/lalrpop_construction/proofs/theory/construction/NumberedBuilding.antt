-- The loop that makes the states, over kernels by number: its beginning, and one more state.
use Rattle.std.proofs.Common.{◌≡◌, ◌∙◌, ℕ, ◌+◌, ◌-◌, ◌<◌, List, [], ◌∷◌, ◌++◌, get_or, length, length-append, map, refl, sym, ap, subst, arith}
use Rattle.std.specs.Prelude.{slice_get, Some}
use Rattle.std.proofs.lemmas.Option.{slice_get_within}
use Rattle.lalrpop_base.specs.Words.{AllDiffer, Bits, Dotted, Kernels, Rules, AreItemsBy, Extends, IsBuiltBy, LeadsToAdded, items_by, kernels_by}
use Rattle.lalrpop_construction.specs.Words.{Building}
use Rattle.lalrpop_collections.proofs.theory.lists.Places.{same_some, slice_get-push_at, slice_get_at}
use Rattle.lalrpop_construction.proofs.Types.{Nil, State}
use Rattle.lalrpop_numbers.specs.declared.numbers.numbered.Numbered.{Numbered}
use Rattle.lalrpop_construction.proofs.theory.construction.Building.{Building-init, Building-step}
use Rattle.lalrpop_construction.proofs.theory.states.Universe.{kernels_few_by, kernels_limit}
use Rattle.lalrpop_construction.proofs.theory.construction.NumberedEdges.{numbered_by}

one_differs : {X : Type 0} (x : X) → AllDiffer (x ∷ [])
one_differs x i j y less at_i at_j =
    let one : length (x ∷ []) ≡ 1 = refl in
    let within : j < length (x ∷ []) = slice_get_within (x ∷ []) j y at_j in
    absurd (omega arith)

-- kernels are the same if the list is the same and as many were handed out
pub same_kernels : {K : Type 0} (kernels : Kernels K) (list : List K) (handed : ℕ) → kernels.list ≡ list → kernels.handed ≡ handed → kernels ≡ record { list = list; handed = handed }
same_kernels {K} kernels list handed p q = ap (λ (ks : List K). of ks kernels.handed) p ∙ ap (of list) q
  where
    of : {K : Type 0} → List K → ℕ → Kernels K
    of ks n = record { list = ks; handed = n }

module _ {L : Type 0} (meaning : L → Bits) (C : List (Dotted L) → List (Dotted L) → Type 0) (g : Rules) (first : List (Dotted L)) (items : List (Dotted Nil)) where
  abbrev begun : Kernels (List (Dotted L))
  begun = record { list = first ∷ []; handed = 0 }

  pub Building-begun : (kernels : Kernels (List (Numbered L))) (states : List (State L)) → kernels_by items kernels ≡ begun → states ≡ [] → AreItemsBy meaning g first → Building meaning C g first (kernels_by items kernels) states
  Building-begun kernels states is none of =
      let list : (kernels_by items kernels).list ≡ first ∷ [] = ap (λ (k : Kernels (List (Dotted L))). k.list) is in
      let handed : kernels.handed ≡ 0 = ap (λ (k : Kernels (List (Dotted L))). k.handed) is in
      Building-init meaning C g first (kernels_by items kernels) states list handed none of (subst AllDiffer (sym list) (one_differs first))

  module _ (old middle new : Kernels (List (Numbered L))) (states : List (State L)) (kernel : List (Numbered L)) (building : Building meaning C g first (kernels_by items old) states) (next : slice_get old.list old.handed ≡ Some kernel) (handed : middle ≡ record { list = old.list; handed = old.handed + 1 })
      (extends : Extends meaning g (kernels_by items middle) (kernels_by items new)) where
    counted : middle.handed ≡ old.handed + 1
    counted = ap (λ (k : Kernels (List (Numbered L))). k.handed) handed

    -- the states are built so far after the state of the next kernel is added
    pub Building-grown : (state : State L) → IsBuiltBy C (kernels_by items new).list (items_by items kernel) (length states) state → LeadsToAdded (kernels_by items middle) (kernels_by items new) state → Building meaning C g first (kernels_by items new) (states ++ state ∷ [])
    Building-grown state built led =
        Building-step meaning C g first (kernels_by items old) (kernels_by items middle) (kernels_by items new) states (items_by items kernel) state building (numbered_by items old.list old.handed kernel next) (ap (λ (k : Kernels (List (Numbered L))). map (items_by items) k.list) handed) counted extends built led

-- fewer kernels are left after one more was handed out
pub Fewer-left : {L : Type 0} (meaning : L → Bits) (C : List (Dotted L) → List (Dotted L) → Type 0) (g : Rules) (first : List (Dotted L)) → ((a b : L) → meaning a ≡ meaning b → a ≡ b) → (kernels : Kernels (List (Dotted L))) (states : List (State L)) → Building meaning C g first kernels states → (before : ℕ) → kernels.handed ≡ before + 1 → kernels_limit g - kernels.handed < kernels_limit g - before
Fewer-left meaning C g first told kernels states b before one =
    let few = kernels_few_by meaning told g kernels.list b.differ b.of in
    let within = b.fewer in
    omega (arith, few, within, one)

-- the element that was added to a list is the last one
pub last_added : {X : Type 0} (old new : List X) (x y : X) (k : ℕ) → new ≡ old ++ x ∷ [] → k ≡ length new → y ≡ get_or new (k - 1) y → new ≡ old ++ y ∷ []
last_added {X} old new x y k e n at =
    let longer : length new ≡ length old + 1 = ap length e ∙ length-append old (x ∷ []) in
    let place : k - 1 ≡ length old = omega (arith, n, longer) in
    let there : slice_get new (k - 1) ≡ Some y = slice_get_at new (k - 1) y (omega (arith, n, longer)) at in
    let same : x ≡ y = same_some x y (sym (slice_get-push_at old x) ∙ ap (λ (xs : List X). slice_get xs (length old)) (sym e) ∙ ap (slice_get new) (sym place) ∙ there) in
    e ∙ ap (λ (z : X). old ++ z ∷ []) same
