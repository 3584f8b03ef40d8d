-- Maps of collections, as lists of keys and collections.
use Rattle.std.specs.Prelude.{◌≡◌, Option, Some, None, List, [], ◌∷◌, map, filter}
use Rattle.std.specs.declared.cmp.Ordering.{Ordering}
use Rattle.std.specs.Ordering.{is_eq}
use Rattle.std.specs.Map.{lookup}
use Rattle.std.specs.BTreeMap.{is_at}

-- the collection of the key, if it has one
abbrev pub collection_at : {K C : Type 0} → (K → K → Ordering) → List (K × C) → K → Option C
collection_at cmp m key = lookup (is_at (cmp key)) m

module _ {C I : Type 0} (IsNone : C → Type 0) (Pushes : C → I → C → Type 0) where
  -- a push turns the first collection, or an empty one if there is none, into the second
  abbrev pub PushesAt : Option C → I → Option C → Type 0
  PushesAt (Some old) value (Some new) = Pushes old value new
  PushesAt None value (Some new) = (empty : C) × IsNone empty × Pushes empty value new
  PushesAt old value None = ⊥

  -- pushes of the values, in turn, make the second collection of the first
  abbrev pub PushesAll : C → List I → C → Type 0
  PushesAll old [] new = new ≡ old
  PushesAll old (value ∷ values) new = (next : C) × Pushes old value next × PushesAll next values new

  -- pushes of the values, in turn, into an empty collection make this one. Without values there is
  -- no collection
  abbrev pub IsCollectionOf : List I → Option C → Type 0
  IsCollectionOf [] (Some c) = ⊥
  IsCollectionOf values None = values ≡ []
  IsCollectionOf (value ∷ values) (Some c) = (empty : C) × IsNone empty × PushesAll empty (value ∷ values) c

-- the values of the pairs with the key, in turn
abbrev pub values_at : {K I : Type 0} → (K → K → Ordering) → K → List (K × I) → List I
values_at cmp key pairs = map (λ p. p.1) (filter (λ p. is_eq (cmp key p.0)) pairs)

-- both are the same collection, or there is none in either
abbrev pub SameAt : {C : Type 0} → (C → C → Type 0) → Option C → Option C → Type 0
SameAt Same None None = Unit {0}
SameAt Same None (Some new) = ⊥
SameAt Same (Some old) None = ⊥
SameAt Same (Some old) (Some new) = Same old new

-- the maps have the same collection at each key
abbrev pub AreSame : {K C : Type 0} → (K → K → Ordering) → (C → C → Type 0) → List (K × C) → List (K × C) → Type 0
AreSame {K} cmp Same old new = (q : K) → SameAt Same (collection_at cmp old q) (collection_at cmp new q)

-- a collection is the same as itself, and so is none
pub at_itself : {C : Type 0} (Same : C → C → Type 0) → ((c : C) → Same c c) → (o : Option C) → SameAt Same o o
at_itself Same itself None = tt
at_itself Same itself (Some c) = itself c
