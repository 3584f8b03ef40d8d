-- A closure by nonterminals. A closure adds all productions of a nonterminal, with the dot at the
-- start and the same tokens. So the tokens are kept once for each nonterminal, by its number.
use Rattle.std.specs.Prelude.{◌≡◌, ◌≤◌, ◌<◌, ◌+◌, ◌⊎◌, ℕ, zero, suc, true, List, [], ◌∷◌, length, map, drop, slice_get, Some, Contains}
use Rattle.std.specs.List.{flat_map}
use Rattle.std.specs.Map.{keys_of}
use Rattle.std.specs.declared.vec.Vec.{Vec}
use Rattle.lalrpop_grammar.specs.closures.Closures.{InClosure}
use Rattle.lalrpop_grammar.specs.grammars.Tokens.{FitsTokens}
use Rattle.lalrpop_grammar.specs.grammars.WellFormed.{Rules}
use Rattle.lalrpop_collections.specs.lists.Bits.{Bits}
use Rattle.lalrpop_collections.specs.lists.Places.{AllDiffer}
use Rattle.lalrpop_states.specs.states.Contents.{holds_token}
use Rattle.lalrpop_states.specs.states.Items.{Dotted}
use Rattle.lalrpop_grammar.specs.declared.lookahead.token.Token.{Token}
use Rattle.lalrpop_grammar.specs.declared.repr.NonterminalString.{NonterminalString}
use Rattle.lalrpop_grammar.specs.declared.repr.Production.{Production}
use Rattle.lalrpop_grammar.specs.declared.repr.Symbol.{Symbol}
use Rattle.lalrpop_grammar.specs.declared.repr.Symbol.TheVariants.{Nonterminal}
use Rattle.lalrpop_states.specs.closures.Closure.{HasItemToken, InKernel, InTokenClosureBy}
use Rattle.lalrpop_collections.specs.lists.Entries.{AllBelow, Grows, burden}
use Rattle.lalrpop_numbers.specs.declared.numbers.numbered.Numbered.{Numbered}
use Rattle.lalrpop_numbers.specs.declared.numbers.Numbers.{Numbers}

-- a table of numbers of nonterminals, each with the bits of its tokens
abbrev pub NonterminalTokens : Type 0
NonterminalTokens = List (ℕ × Bits)

-- the nonterminal has the number
abbrev pub IsNamed : Numbers → ℕ → NonterminalString → Type 0
IsNamed n x name = slice_get n.symbols.items x ≡ Some (Nonterminal name)

-- the nonterminal with the number is after the dot of the item, before these symbols
pub record StandsBehind (n : Numbers) (i : Dotted Bits) (x : ℕ) (after : List Symbol) : Type 0 where
  pub name : NonterminalString
  pub named : IsNamed n x name
  pub behind : drop i.index i.production.symbols ≡ Nonterminal name ∷ after

-- the nonterminal with the number is after the dot of one of the items
pub record StandsBehindOne (n : Numbers) (items : List (Dotted Bits)) (x : ℕ) : Type 0 where
  pub item : Dotted Bits
  pub among : Contains items item
  pub after : List Symbol
  pub behind : StandsBehind n item x after

-- the table has the token for the nonterminal
pub record HasTableToken (g : Rules) (table : NonterminalTokens) (x : ℕ) (t : Token) : Type 0 where
  pub set : Bits
  pub entry : Contains table (x, set)
  pub there : holds_token g.terminals set t ≡ true

-- each set of the table holds bits of tokens alone
abbrev pub AllFit : Rules → NonterminalTokens → Type 0
AllFit g table = AllBelow (length g.terminals + 2) table

-- the item has a production of the nonterminal with the number, the dot at the start, and the
-- tokens
pub record IsExpansionWith (g : Rules) (n : Numbers) (x : ℕ) (tokens : Bits) (i : Dotted Bits) : Type 0 where
  pub start : i.index ≡ 0
  pub among : Contains g.productions i.production
  pub named : IsNamed n x i.production.nonterminal
  pub same : i.lookahead ≡ tokens

-- which tokens begin symbols, and which symbols let tokens pass, are parameters
module _ (begins : Rules → List Symbol → Token → Type 0) (passes : Rules → List Symbol → Type 0) (g : Rules) (n : Numbers) where
  -- the token may follow a nonterminal that is before the symbols in the item
  abbrev pub MayFollow : Dotted Bits → List Symbol → Token → Type 0
  MayFollow i after t = begins g after t ⊎ (passes g after × (holds_token g.terminals i.lookahead t ≡ true))

  -- the token may follow the nonterminal with the number in one of the items
  pub record MayFollowIn (items : List (Dotted Bits)) (x : ℕ) (t : Token) : Type 0 where
    pub item : Dotted Bits
    pub among : Contains items item
    pub after : List Symbol
    pub behind : StandsBehind n item x after
    pub follows : MayFollow item after t

  -- the table has, for the nonterminal, all tokens that may follow it in the item
  pub record HasTokensThatFollow (table : NonterminalTokens) (i : Dotted Bits) (x : ℕ) (after : List Symbol) : Type 0 where
    pub set : Bits
    pub entry : Contains table (x, set)
    pub all : (t : Token) → MayFollow i after t → holds_token g.terminals set t ≡ true

  -- if the nonterminal after the dot of the item has productions, the table has, for it, all tokens
  -- that may follow it there
  abbrev pub IsPropagated : NonterminalTokens → Dotted Bits → Type 0
  IsPropagated table i = (q : Production) (after : List Symbol) → drop i.index i.production.symbols ≡ Nonterminal q.nonterminal ∷ after → Contains g.productions q → (x : ℕ) × IsNamed n x q.nonterminal × HasTokensThatFollow table i x after

  -- the tokens that the items give were added to the table, and no others;
  -- a nonterminal that is new or has more tokens than before is in the queue
  pub record Propagates (items : List (Dotted Bits)) (old new : NonterminalTokens) (queue pushed : List ℕ) : Type 0 where
    pub grows : Grows old new queue pushed
    pub keys : (e : ℕ × Bits) → Contains new e → Contains (keys_of old) e.0 ⊎ StandsBehindOne n items e.0
    pub tokens : (e : ℕ × Bits) (t : Token) → Contains new e → holds_token g.terminals e.1 t ≡ true → HasTableToken g old e.0 t ⊎ MayFollowIn items e.0 t
    pub there : (i : Dotted Bits) → Contains items i → IsPropagated new i
    pub pushed_found : (x : ℕ) → Contains pushed x → Contains queue x ⊎ Contains (keys_of new) x
    pub differ : AllDiffer (keys_of old) → AllDiffer (keys_of new)
    pub weighed : ((i : Dotted Bits) → Contains items i → FitsTokens g.terminals i.lookahead) → AllFit g old → AllFit g new × (burden (length g.terminals + 2) old + length pushed ≤ burden (length g.terminals + 2) new + length queue)

  -- the nonterminals and tokens of the table belong to the closure of the kernel;
  -- the table has the tokens that the kernel gives;
  -- it also has the tokens that each of its nonterminals gives, unless that is in the queue
  pub record IsPropagation (kernel : List (Dotted Bits)) (table : NonterminalTokens) (queue : List ℕ) : Type 0 where
    pub known : (e : ℕ × Bits) → Contains table e → e.0 < length n.symbols.items
    pub reached : (e : ℕ × Bits) (q : Production) → Contains table e → IsNamed n e.0 q.nonterminal → Contains g.productions q → InClosure g.productions (InKernel kernel) q 0
    pub tokens : (e : ℕ × Bits) (q : Production) (t : Token) → Contains table e → IsNamed n e.0 q.nonterminal → Contains g.productions q → holds_token g.terminals e.1 t ≡ true →
        InTokenClosureBy (begins g) (passes g) g.productions (InClosure g.productions (InKernel kernel)) (HasItemToken g.terminals kernel) q 0 t
    pub kernel_shared : (i : Dotted Bits) → Contains kernel i → IsPropagated table i
    pub shared : (e : ℕ × Bits) → Contains table e → Contains queue e.0 ⊎ ((i : Dotted Bits) → IsExpansionWith g n e.0 e.1 i → IsPropagated table i)
    pub queued : (x : ℕ) → Contains queue x → Contains (keys_of table) x
    pub differ : AllDiffer (keys_of table)
    pub fit : AllFit g table

-- ---- the items of a closure
-- productions with the dot at the start, by their numbers, with the tokens
abbrev pub expansions_in : {L : Type 0} → L → List ℕ → List (Numbered L)
expansions_in tokens numbers = map (λ k. record { number = k; lookahead = tokens }) numbers

-- the numbers of items, each with the set of bits that its lookahead means
abbrev pub parts_in : {L : Type 0} → (L → Bits) → List (Numbered L) → List (ℕ × Bits)
parts_in {L} meaning items = map (λ (e : Numbered L). (e.number, meaning e.lookahead)) items

-- the list at an index, or an empty one if there is none
abbrev pub vec_items_at : {A : Type 0} → List (Vec ℕ A) → ℕ → List ℕ
vec_items_at [] k = []
vec_items_at (v ∷ vs) zero = v.items
vec_items_at (v ∷ vs) (suc k) = vec_items_at vs k

-- the numbers, each with the tokens
abbrev pub with_tokens : Bits → List ℕ → List (ℕ × Bits)
with_tokens tokens numbers = map (λ (k : ℕ). (k, tokens)) numbers

-- the productions of each nonterminal of a table, by their numbers with the dot at the start, with
-- the tokens of the nonterminal
abbrev pub unfolded : Numbers → NonterminalTokens → List (ℕ × Bits)
unfolded n table = flat_map (λ (e : ℕ × Bits). with_tokens e.1 (vec_items_at n.expansions.items e.0)) table

-- the item by number that has the number and lookahead of an entry
abbrev pub numbered_of : {L : Type 0} → ℕ × L → Numbered L
numbered_of e = record { number = e.0; lookahead = e.1 }
