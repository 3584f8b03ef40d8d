-- Names that differ, and texts without a mark.
use Rattle.std.specs.Prelude.{◌≡◌, ℕ, List, ◌++◌, Some, slice_get}

-- a text does not have a mark
abbrev pub HasNo : List ℕ → List ℕ → Type 0
HasNo mark text = (before after : List ℕ) → text ≡ before ++ (mark ++ after) → ⊥

-- no two names are the same
abbrev pub Differ : List (List ℕ) → Type 0
Differ names = (i j : ℕ) (name : List ℕ) → slice_get names i ≡ Some name → slice_get names j ≡ Some name → i ≡ j

-- none of some names is one of other ones
abbrev pub AreApart : List (List ℕ) → List (List ℕ) → Type 0
AreApart names others = (i j : ℕ) (name : List ℕ) → slice_get names i ≡ Some name → slice_get others j ≡ Some name → ⊥

-- none of some texts has a mark
abbrev pub HaveNo : List ℕ → List (List ℕ) → Type 0
HaveNo mark texts = (i : ℕ) (text : List ℕ) → slice_get texts i ≡ Some text → HasNo mark text
