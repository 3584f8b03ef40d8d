-- Properties of each item of a list, of each two items, and of each entry of a map.
use Rattle.std.specs.Prelude.{◌≡◌, ℕ, ◌<◌, List, slice_get, Some}

-- each item of the list has the property
abbrev pub EachItem : {X : Type 0} → (X → Type 0) → List X → Type 0
EachItem {X} P xs = (k : ℕ) (x : X) → slice_get xs k ≡ Some x → P x

-- each of the first n items has the property
abbrev pub EachBelow : {X : Type 0} → (X → Type 0) → List X → ℕ → Type 0
EachBelow {X} P xs n = (k : ℕ) (x : X) → k < n → slice_get xs k ≡ Some x → P x

-- each entry of the map has the property
abbrev pub EachEntry : {K V : Type 0} → (K → V → Type 0) → List (K × V) → Type 0
EachEntry P entries = EachItem (λ e. P e.0 e.1) entries

-- each element precedes those after it
abbrev pub Ordered : {A : Type 0} → (A → A → Type 0) → List A → Type 0
Ordered {A} precedes xs = (i j : ℕ) (x y : A) → i < j → slice_get xs i ≡ Some x → slice_get xs j ≡ Some y → precedes x y
