-- The entries of a map after a value is added to a key.
use Rattle.std.specs.Prelude.{◌≡◌, ◌≢◌, ◌+◌, ◌⊎◌, ℕ, Bool, true, cond, List, [], ◌∷◌, ◌++◌, map, sum_by, MatchBool, Contains}
use Rattle.std.specs.Map.{keys_of}
use Rattle.lalrpop_collections.specs.lists.Bits.{Bits, has, join}
use Rattle.lalrpop_collections.specs.lists.Places.{AllDiffer}
use Rattle.lalrpop_collections.specs.lists.Counts.{count, IsBelow}

-- the tokens are added to the key. A new key gets exactly them, and a known one has them joined to
-- its own. The flag says whether the key has anything new
pub data IsJoinedAt {K : Type 0} (k : K) (tokens : Bits) (changed : Bool) (old new : List (K × Bits)) : Type 0 where
  fresh : (front back : List (K × Bits)) → old ≡ front ++ back → new ≡ front ++ (k, tokens) ∷ back → changed ≡ true → IsJoinedAt k tokens changed old new
  known : (front back : List (K × Bits)) (s : Bits) → old ≡ front ++ (k, s) ∷ back → new ≡ front ++ (k, join s tokens) ∷ back → MatchBool changed (join s tokens ≢ s) (join s tokens ≡ s) → IsJoinedAt k tokens changed old new

-- a key with something new is added at the end of the queue, unless it waits there already. A key
-- with nothing new is not added
pub data IsPut {K : Type 0} (key : K) (changed : Bool) (queue pushed : List K) : Type 0 where
  came : pushed ≡ cond changed (queue ++ key ∷ []) queue → IsPut key changed queue pushed
  waited : Contains queue key → pushed ≡ queue → IsPut key changed queue pushed

-- the tokens are added to the key, and the key is queued if it has anything new
pub record IsQueued {K : Type 0} (key : K) (tokens : Bits) (old new : List (K × Bits)) (queue pushed : List K) : Type 0 where
  pub told : Bool
  pub joined : IsJoinedAt key tokens told old new
  pub put : IsPut key told queue pushed
  pub differ : AllDiffer (keys_of new)

-- the table has the key, with at least these tokens
pub record IsFound {K : Type 0} (table : List (K × Bits)) (key : K) (tokens : Bits) : Type 0 where
  pub set : Bits
  pub entry : Contains table (key, set)
  pub all : (bit : ℕ) → has tokens bit ≡ true → has set bit ≡ true

-- the table has the key, and its set has the bit
pub record IsFoundWith {K : Type 0} (table : List (K × Bits)) (key : K) (bit : ℕ) : Type 0 where
  pub set : Bits
  pub entry : Contains table (key, set)
  pub there : has set bit ≡ true

-- nothing is lost, and each key that is new or has new tokens is in the queue
pub record Grows {K : Type 0} (old new : List (K × Bits)) (queue pushed : List K) : Type 0 where
  pub kept : (e : K × Bits) → Contains old e → IsFound new e.0 e.1
  pub stays : (k : K) → Contains queue k → Contains pushed k
  pub changed : (e : K × Bits) → Contains new e → Contains pushed e.0 ⊎ Contains old e

-- all such keys get the tokens, and no other key gets any
pub record Adds {K : Type 0} (Such : K → Type 0) (tokens : Bits) (old new : List (K × Bits)) (queue pushed : List K) : Type 0 where
  pub grows : Grows old new queue pushed
  pub keys : (e : K × Bits) → Contains new e → Contains (keys_of old) e.0 ⊎ Such e.0
  pub bits : (e : K × Bits) (bit : ℕ) → Contains new e → has e.1 bit ≡ true → IsFoundWith old e.0 bit ⊎ (Such e.0 × (has tokens bit ≡ true))
  pub there : (k : K) → Such k → IsFound new k tokens

-- the table has exactly the keys of the list. Each key has all tokens that the list has for it, and
-- no others
pub record Gathers {K : Type 0} (list table : List (K × Bits)) : Type 0 where
  pub found : (e : K × Bits) → Contains list e → IsFound table e.0 e.1
  pub keys : (e : K × Bits) → Contains table e → Contains (keys_of list) e.0
  pub bits : (e : K × Bits) (bit : ℕ) → Contains table e → has e.1 bit ≡ true → IsFoundWith list e.0 bit
  pub differ : AllDiffer (keys_of table)

-- the new table has the entries of one more list
abbrev pub GathersMore : {K : Type 0} → List (K × Bits) → List (K × Bits) → List (K × Bits) → Type 0
GathersMore {K} more old new = (list : List (K × Bits)) → Gathers list old → Gathers (list ++ more) new

-- the number of keys in the table, plus that of the tokens below n of all keys
abbrev pub burden : {K : Type 0} → ℕ → List (K × Bits) → ℕ
burden n table = sum_by (λ e. 1 + count n e.1) table

-- each bit of the table is below the number
abbrev pub AllBelow : {K : Type 0} → ℕ → List (K × Bits) → Type 0
AllBelow {K} n table = (e : K × Bits) → Contains table e → IsBelow n e.1

-- the value is added to the list of the key. A new key gets a list of it alone, and a known one has
-- it after its own values
pub data IsPushedAt {K V : Type 0} (k : K) (v : V) (old new : List (K × List V)) : Type 0 where
  fresh : (front back : List (K × List V)) → old ≡ front ++ back → new ≡ front ++ (k, v ∷ []) ∷ back → IsPushedAt k v old new
  known : (front back : List (K × List V)) (vs : List V) → old ≡ front ++ (k, vs) ∷ back → new ≡ front ++ (k, vs ++ v ∷ []) ∷ back → IsPushedAt k v old new

-- the entries of a map to lookaheads, with the meaning of each lookahead
abbrev pub readings : {K L : Type 0} → (L → Bits) → List (K × L) → List (K × Bits)
readings {K} {L} meaning entries = map (λ (e : K × L). (e.0, meaning e.1)) entries
