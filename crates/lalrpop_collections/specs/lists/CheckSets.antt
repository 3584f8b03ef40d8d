-- Lists of keys, seen as sets.
use Rattle.std.specs.Prelude.{◌≡◌, ◌↔◌, ◌⊎◌, List, Contains}

module _ {K : Type 0} where
  -- the new list has the keys of the old one and the key, and no others
  pub record IsAdded (key : K) (old new : List K) : Type 0 where
    pub kept : (k : K) → Contains old k → Contains new k
    pub there : Contains new key
    pub from : (k : K) → Contains new k → Contains old k ⊎ (key ≡ k)

  -- both lists have the same keys
  abbrev pub HaveSame : List K → List K → Type 0
  HaveSame a b = (k : K) → Contains a k ↔ Contains b k
